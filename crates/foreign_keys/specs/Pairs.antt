-- Columns that are compared with columns, in whatever order. That an index serves whose columns
-- stand in another order than a foreign key names them is our own choice.
use Rattle.std.specs.Prelude.{◌≡◌, ℕ, Bool, true, ◌&&◌, nat_eq, List, length, slice_get, Some}
use Rattle.std.specs.List.{list_any, list_all, zip}
use Rattle.sqlval.specs.declared.schema.Index.{Index}
use Rattle.foreign_keys.specs.declared.ways.Way.{Way}

abbrev pub is_same_pair : ℕ × ℕ → ℕ × ℕ → Bool
is_same_pair one other = nat_eq one.0 other.0 && nat_eq one.1 other.1

abbrev pub are_within : List (ℕ × ℕ) → List (ℕ × ℕ) → Bool
are_within pairs others = list_all (λ pair. list_any (is_same_pair pair) others) pairs

-- whether columns are compared with the same columns here and there
abbrev pub are_same_pairs : List ℕ → List ℕ → List ℕ → List ℕ → Bool
are_same_pairs from to others places =
    (nat_eq (length from) (length to) && nat_eq (length others) (length places))
    && (are_within (zip from to) (zip others places) && are_within (zip others places) (zip from to))

-- an index at this place finds the rows that have at some columns the key of others
pub record IsWay (indexes : List Index) (from to : List ℕ) (way : Way) : Type 0 where
  pub index : Index
  pub there : slice_get indexes way.place ≡ Some index
  pub pairs : are_same_pairs way.columns index.columns from to ≡ true
