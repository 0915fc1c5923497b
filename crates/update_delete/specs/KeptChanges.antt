-- A change in which subqueries that name no column outside themselves stand as what they give, so
-- that they are listed once for all its rows.
use Rattle.std.specs.Prelude.{Option, map}
use Rattle.std.specs.Option.{option_map}
use Rattle.algebra.specs.declared.tree.Condition.{Condition}
use Rattle.denote.specs.Meaning.{Tables}
use Rattle.uncorrelated_subqueries.specs.Kept.{kept_condition, kept_expression}
use Rattle.update_delete.specs.declared.change.RowUpdate.{RowUpdate}

abbrev pub filter_kept : Tables → Option Condition → Option Condition
filter_kept tables filter = option_map (kept_condition tables) filter

abbrev pub update_kept : Tables → RowUpdate → RowUpdate
update_kept tables u = record { filter = filter_kept tables u.filter; columns = u.columns; sources = map (kept_expression tables) u.sources }
