use Rattle.std.proofs.Common.{arith}
use Rattle.sqlrecord.specs.Build.{lent}
use Rattle.btree.proofs.CellLemmas.{lent_length}
use Rattle.btree.proofs.SizeLemmas.{size_small}
use Rattle.btree.proofs.cells.cut_of.Goals.{then-least-eq0-via-then-least-eq0, then-least-eq0-via-else-least-eq0+then-cells-least}
use Rattle.btree.proofs.cells.cut_of.Goals as goal

pub returns-then-least-eq0-clause-found : goal.returns-then-least-eq0-clause-found
returns-then-least-eq0-clause-found c =
    λ some few w.
    let s = size_small (lent c.args.cells.now) w.small in
    elim c.then-least-eq0.branch [
      | then-least-eq0-via-then-least-eq0 v ↦ absurd (omega (arith, some, v.if-least-eq0.true))
      | then-least-eq0-via-else-least-eq0+then-cells-least v ↦ absurd (omega (arith, s, w.over, lent_length c.args.cells.now, few, v.if-cells-least.true))
    ]
