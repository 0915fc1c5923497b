-- What can be said of a table to which rows come or have come, where it violates nothing without
-- them: that it still violates nothing, or that it violates a constraint (ISO/IEC 9075:1992, 11.7).
-- That the keys of these rows are looked up in indexes is our own choice, and so is how few rows
-- there have to be for it.
use Rattle.std.specs.Prelude.{◌≡◌, ℕ, ◌*◌, Bool, true, false, nat_eq, nat_lt, List, [], ◌∷◌, ◌++◌, length, Option, Some, None}
use Rattle.std.specs.List.{list_any, list_all, filter_map, position_from}
use Rattle.std.specs.Option.{option_map}
use Rattle.std.specs.Cmp.Lexicographic.{pointwise}
use Rattle.sqlval.specs.declared.schema.Constraint.{Constraint}
use Rattle.sqlval.specs.declared.schema.Index.{Index}
use Rattle.sqlval.specs.declared.schema.Rule.{Rule}
use Rattle.sqlval.specs.declared.schema.Rule.TheVariants.{NotNull, PrimaryKey, Unique, Check, ForeignKey}
use Rattle.sqlval.specs.Matching.{key_of, matches}
use Rattle.sqlval.specs.Value.{Row}
use Rattle.denote.specs.Bag.{Permutes}
use Rattle.denote.specs.Database.{Name, Table, IndexDeclaration}
use Rattle.store.specs.Contents.{Entry, StoredTable}
use Rattle.store.specs.Indexes.{sought}
use Rattle.constraints.specs.declared.foreseen.Foreseen.{Foreseen}
use Rattle.constraints.specs.declared.foreseen.Foreseen.TheVariants.{Fits, Violates, Open}
use Rattle.constraints.specs.declared.keys.Key.{Key}

-- a table with these rows at its end
abbrev pub with_more : Table → List Row → Table
with_more table rows = record table { rows = table.rows ++ rows }

-- A table to which these rows come, before it and as a whole. They come to the end of the table
-- that is there, and none of them is found in it by its key; or they have come already, in any
-- order, so that each of them is found in the table that is there, once, by its own key.
pub data Comes (table : Table) (rows : List Row) (own : ℕ) (before whole : Table) : Type 0 where
  later : own ≡ 0 → before ≡ table → whole ≡ with_more table rows → Comes table rows own before whole
  already : (others : List Row) → own ≡ 1 → Permutes (others ++ rows) table.rows
      → before ≡ record table { rows = others } → whole ≡ table → Comes table rows own before whole

-- ---- keys

-- the columns of a PRIMARY KEY or a UNIQUE
abbrev pub columns_of_key : Rule → Option (List ℕ)
columns_of_key (NotNull column) = None
columns_of_key (PrimaryKey columns) = Some columns
columns_of_key (Unique columns) = Some columns
columns_of_key (Check text) = None
columns_of_key (ForeignKey reference) = None

abbrev pub same_columns : List ℕ → List ℕ → Bool
same_columns = pointwise nat_eq

-- the place of the first index over just these columns
abbrev pub place_of : List ℕ → List Index → Option ℕ
place_of columns indexes = position_from (λ index. same_columns index.columns columns) 0 indexes

abbrev pub key_over : List Index → Name → List ℕ → Key
key_over indexes name columns = record { constraint = name; columns = columns; place = place_of columns indexes }

-- the key that a constraint asks for, if it asks for one
abbrev pub key_asked : List Index → Constraint → Option Key
key_asked indexes constraint = option_map (key_over indexes constraint.name) (columns_of_key constraint.rule)

abbrev pub keys_asked : List Index → List Constraint → List Key
keys_asked indexes constraints = filter_map (key_asked indexes) constraints

-- ---- what is found of them

-- whether some of these rows has the key of one of the others, none of it null
abbrev pub meets : List ℕ → List Row → List Row → Bool
meets columns old new = list_any (λ row. list_any (matches columns (key_of columns row)) old) new

-- whether there are more than so many
abbrev pub are_more : {A : Type 0} → ℕ → List A → Bool
are_more own found = nat_lt own (length found)

-- whether more rows of a table than so many are found by the key of one of these rows in the index
-- at this place
abbrev pub is_met : ℕ → Option StoredTable → ℕ → List ℕ → List Row → Bool
is_met own table place columns rows = list_any (λ row. are_more own (sought table place (key_of columns row))) rows

-- the same of a key; none where it has no index
abbrev pub met_in : ℕ → Option StoredTable → List Row → Key → Option Bool
met_in own table rows key = option_map (λ place. is_met own table place key.columns rows) key.place

abbrev pub foreseen_at : Option Bool → Name → Foreseen → Foreseen
foreseen_at None constraint rest = Open
foreseen_at (Some true) constraint rest = Violates constraint
foreseen_at (Some false) constraint rest = rest

-- the first key that is met; open where one has no index
abbrev pub foreseen_by : (Key → Option Bool) → List Key → Foreseen
foreseen_by met [] = Fits
foreseen_by met (key ∷ keys) = foreseen_at (met key) key.constraint (foreseen_by met keys)

-- that all holds, or that a constraint is violated, or nothing
abbrev pub Foretells : Foreseen → Type 0 → (Name → Type 0) → Type 0
Foretells Fits holds named = holds
Foretells (Violates constraint) holds named = named constraint
Foretells Open holds named = Unit {0}

-- ---- where something is said

abbrev pub IsSaid : Foreseen → Type 0
IsSaid Fits = Unit {0}
IsSaid (Violates constraint) = Unit {0}
IsSaid Open = ⊥

abbrev pub is_over : Option (List ℕ) → List IndexDeclaration → Bool
is_over None indexes = true
is_over (Some columns) indexes = list_any (λ index. same_columns index.columns columns) indexes

-- each key that a constraint asks for has an index over just its columns
abbrev pub has_key_indexes : StoredTable → Bool
has_key_indexes table = list_all (λ constraint. is_over (columns_of_key constraint.rule) table.indexes) table.constraints

-- some row has a number above eight times so many
abbrev pub has_many_more : ℕ → List Entry → Bool
has_many_more count entries = list_any (λ (e : Entry). nat_lt (count * 8) e.0) entries
