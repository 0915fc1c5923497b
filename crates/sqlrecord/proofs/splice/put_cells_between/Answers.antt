use Rattle.std.proofs.Common.{◌≡◌, ◌+◌, ◌≤◌, ◌∙◌, ap, sym, length, arith}
use Rattle.std.specs.Prelude.{slice_range}
use Rattle.sqlrecord.specs.Build.{total_of}
use Rattle.sqlrecord.specs.Splice.{cells_between}
use Rattle.sqlrecord.proofs.BuildLemmas.{length_flatten}
use Rattle.sqlrecord.proofs.splice.put_cells_between.Goals as goal

pub put-requires : goal.put-requires
put-requires c =
    let long : length (slice_range c.args.old.now c.in-Some.begin c.in-Some.end) ≡ total_of (cells_between c.args.old.now c.args.first c.args.last) =
    ap length c.in-Some.ensures.cells ∙ length_flatten (cells_between c.args.old.now c.args.first c.args.last) in
    omega (arith, long, c.requires.room)

pub returns-in-Some-clause-behind : goal.returns-in-Some-clause-behind
returns-in-Some-clause-behind c =
    let long : length (slice_range c.args.old.now c.in-Some.begin c.in-Some.end) ≡ total_of (cells_between c.args.old.now c.args.first c.args.last) =
    ap length c.in-Some.ensures.cells ∙ length_flatten (cells_between c.args.old.now c.args.first c.args.last) in
    omega (arith, long, c.put.ensures.behind)
