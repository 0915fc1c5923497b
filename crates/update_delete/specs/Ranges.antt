-- The range of an index by which a change looks rows up. That an index is asked for them is our own
-- choice.
use Rattle.std.specs.Prelude.{◌≡◌, ℕ, Bool, List, slice_get, Contains, Option, Some}
use Rattle.std.specs.Option.{option_map}
use Rattle.sqlval.specs.declared.schema.Index.{Index}
use Rattle.sqlval.specs.declared.schema.Schema.{Schema}
use Rattle.sqlval.specs.declared.schema.Table.{Table}
use Rattle.algebra.specs.declared.tree.Condition.{Condition}
use Rattle.denote.specs.Database.{Name}
use Rattle.range_lookups.specs.Sought.{limits_sought}
use Rattle.update_delete.specs.declared.ranges.RangeLookUp.{RangeLookUp}

-- the index at this place has these columns, and the condition sets these bounds to the first of
-- them
pub record AsksRange (indexes : List Index) (tree : Condition) (look_up : RangeLookUp) : Type 0 where
  pub both : Bool
  pub columns : List ℕ
  pub over : option_map (λ (index : Index). index.columns) (slice_get indexes look_up.place) ≡ Some columns
  pub sought : limits_sought both columns tree ≡ Some look_up.limits

-- of the table of this name
pub record AsksRangeIn (schema : Schema) (name : Name) (tree : Option Condition) (look_up : RangeLookUp) : Type 0 where
  pub table : Table
  pub inside : Contains schema.tables table
  pub named : table.name ≡ name
  pub condition : Condition
  pub is : tree ≡ Some condition
  pub asks : AsksRange table.indexes condition look_up
