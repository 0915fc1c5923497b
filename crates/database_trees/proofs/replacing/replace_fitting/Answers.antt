use Rattle.std.proofs.Common.{◌∙◌, List, sym, subst}
use Rattle.sqlval.specs.declared.schema.Column.{Column}
use Rattle.tablestore.specs.Held.{RowFits}
use Rattle.database_trees.proofs.replacing.replace_fitting.Goals as goal

pub replace_in-requires : goal.replace_in-requires
replace_in-requires g c = subst (λ (cs : List Column). RowFits cs c.args.row) c.as_slice.ensures (sym c.is_fitting.ensures ∙ c.if-not-is_fitting.false)
