use Rattle.std.proofs.Common.{List, ℕ, arith, ap, sym, ◌∙◌}
use Rattle.std.specs.Prelude.{slice_index}
use Rattle.pool.specs.Versions.{versions_of}
use Rattle.overlay.specs.WriteSet.{private_of}
use Rattle.overlay.proofs.InUseLemmas.{none_outside, in_use-freed}
use Rattle.overlay.proofs.uses.is_in_use.Goals as goal

pub returns-then-page-eq0-clause-unused : goal.returns-then-page-eq0-clause-unused
returns-then-page-eq0-clause-unused g c = λ _. none_outside ((versions_of c.args.pool.now).pages c.args.at) (private_of c.args.changes.now) c.args.page (λ some few. omega arith)

pub returns-then-page-ge-MOST_PAGES-clause-unused : goal.returns-then-page-ge-MOST_PAGES-clause-unused
returns-then-page-ge-MOST_PAGES-clause-unused g c = λ _. none_outside ((versions_of c.args.pool.now).pages c.args.at) (private_of c.args.changes.now) c.args.page (λ some few. omega arith)

pub returns-then-bytes-eq-FREE-clause-unused : goal.returns-then-bytes-eq-FREE-clause-unused
returns-then-bytes-eq-FREE-clause-unused g c = λ _.
    in_use-freed ((versions_of c.args.pool.now).pages c.args.at) (private_of c.args.changes.now) c.args.page c.in-Some.frame.now (sym c.in-Some.ensures)
    (ap (λ (p : List ℕ). slice_index p 0) (sym c.page-bytes.ensures) ∙ c.if-bytes-eq-FREE.true)
