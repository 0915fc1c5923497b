use Rattle.std.proofs.Common.{List, subst}
use Rattle.std.specs.List.{AllByRecursion}
use Rattle.sqlval.specs.declared.schema.Column.{Column}
use Rattle.sqlval.specs.Value.{Row}
use Rattle.tablestore.specs.Held.{RowFits}
use Rattle.database_trees.proofs.rows.append_fitting.Goals as goal

pub append_to-requires : goal.append_to-requires
append_to-requires g c =
    subst (λ (cs : List Column). AllByRecursion (RowFits cs) c.args.rows) c.as_slice.ensures
    (subst (λ (rs : List Row). AllByRecursion (RowFits c.as_slice.result.now) rs) c.as_slice-2.ensures (c.are_fitting.ensures.fits c.if-not-are_fitting.false))
