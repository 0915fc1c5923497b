-- The types of the rows that a place sees, by the FROMs that it sees.
use Rattle.std.specs.Prelude.{◌≡◌, ℕ, List, [], ◌∷◌, ◌++◌, map, slice_get, Option, Some, None}
use Rattle.sqlval.specs.declared.value.ValueType.{ValueType}
use Rattle.typing.specs.declared.scope.Frame.{Frame}
use Rattle.typing.specs.declared.scope.Offer.{Offer}
use Rattle.typing.specs.Scope.{Scope}
use Rattle.typing_laws.specs.WellTyped.{Rows}

-- the types of the columns that a FROM offers
abbrev pub offered_types : List Offer → List ValueType
offered_types offers = map (λ offer. offer.value_type) offers

-- a row of a group begins with the types of its key's columns, which are columns of FROM's row
pub record BeginsWithKey (from : List ValueType) (key : List ℕ) (row : List ValueType) : Type 0 where
  pub types : List ValueType
  pub values : List ValueType
  pub columns : map (slice_get from) key ≡ map Some types
  pub is : row ≡ types ++ values

-- the row of a FROM, or of a group of its rows
abbrev pub IsRowBy : Option (List ℕ) → List ValueType → List ValueType → Type 0
IsRowBy None from row = row ≡ from
IsRowBy (Some key) from row = BeginsWithKey from key row

-- a row of this FROM, as a place sees it
abbrev pub IsRowOf : Frame → List ValueType → Type 0
IsRowOf frame row = IsRowBy frame.key (offered_types frame.columns) row

-- one row for each FROM
abbrev pub AreRowsOf : Scope → Rows → Type 0
AreRowsOf [] [] = Unit {0}
AreRowsOf (frame ∷ scope) (row ∷ rows) = IsRowOf frame row × AreRowsOf scope rows
AreRowsOf _ _ = ⊥
