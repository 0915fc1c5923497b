-- Rows that have the types of a table's columns.
use Rattle.std.proofs.Common.{◌≡◌, sym, ap, subst, ℕ, zero, suc, List, [], ◌∷◌, take, Option, Some, None, Result, IfOk}
use Rattle.std.specs.Prelude.{IfSome, slice_get, unwrap_or}
use Rattle.std.specs.List.{AllByRecursion}
use Rattle.std.specs.Option.{option_map}
use Rattle.sqlval.specs.declared.schema.Column.{Column}
use Rattle.sqlval.specs.declared.schema.Index.{Index}
use Rattle.sqlval.specs.declared.schema.Table.{Table}
use Rattle.store.specs.declared.rows.Numbered.{Numbered}
use Rattle.store.specs.declared.rows.NumberedRow.{NumberedRow}
use Rattle.page_space.specs.declared.error.SpaceError.{SpaceError}
use Rattle.tablestore.specs.Held.{RowFits}
use Rattle.stored_tables.specs.Named.{IsTyped, AreTyped}
use Rattle.index_lookups.specs.declared.places.Place.{Place}
use Rattle.index_lookups.specs.Walked.{place_of, HasTypesOf}

module _ {X : Type 0} (P : X → Type 0) where
  pub first_each : (n : ℕ) (xs : List X) → AllByRecursion P xs → AllByRecursion P (take n xs)
  first_each zero xs h = tt
  first_each (suc n) [] h = tt
  first_each (suc n) (x ∷ xs) h = (h.0, first_each n xs h.1)

  pub first_one : (xs : List X) (x : X) → AllByRecursion P xs → slice_get xs 0 ≡ Some x → P x
  first_one [] x h e = let bad : None ≡ Some x = e in absurd (cc)
  first_one (y ∷ xs) x h e = subst P (ap (λ (o : Option X). unwrap_or o y) e) h.0

-- the first of rows of these types
pub first_typed : (types : List Column) (found : Numbered) (first : Option NumberedRow) → IfSome first (λ row. slice_get found.rows 0 ≡ Some row.row) → AllByRecursion (RowFits types) found.rows
    → IfSome first (λ row. RowFits types row.row)
first_typed types found None is h = tt
first_typed types found (Some row) is h = first_one (RowFits types) found.rows row.row h is

-- the place of an index of the table that was found has its columns
pub place_types : (table : Table) (named : Option Table) (index : Option Index) (place : Option Place) → Some table ≡ named → place ≡ option_map (place_of table.columns table.root) index
    → IfSome place (HasTypesOf named)
place_types table named index place there is = subst (λ (o : Option Place). IfSome o (HasTypesOf named)) (sym is) (by index)
  where
    by : (index : Option Index) → IfSome (option_map (place_of table.columns table.root) index) (HasTypesOf named)
    by None = tt
    by (Some index) = ap (option_map (λ (t : Table). t.columns)) (sym there)

-- the types of a place are those of its table
of_table : (t : Table) (place : Place) → HasTypesOf (Some t) place → place.types ≡ t.columns
of_table t place e = ap (λ (o : Option (List Column)). unwrap_or o []) (sym e)

-- rows of the types of a place are of those of its table
pub rows_typed : (named : Option Table) (place : Place) (result : Result Numbered SpaceError) → HasTypesOf named place → IfOk result (λ found. AllByRecursion (RowFits place.types) found.rows)
    → IfOk result (λ found. AreTyped named found.rows)
rows_typed None place result e h = let bad : None ≡ Some place.types = e in absurd (cc)
rows_typed (Some t) place result e h = subst (λ (cs : List Column). IfOk result (λ found. AllByRecursion (RowFits cs) found.rows)) (of_table t place e) h

pub row_typed : (named : Option Table) (place : Place) (result : Result (Option NumberedRow) SpaceError) → HasTypesOf named place → IfOk result (λ found. IfSome found (λ row. RowFits place.types row.row))
    → IfOk result (λ found. IfSome found (λ row. IsTyped named row.row))
row_typed None place result e h = let bad : None ≡ Some place.types = e in absurd (cc)
row_typed (Some t) place result e h = subst (λ (cs : List Column). IfOk result (λ found. IfSome found (λ row. RowFits cs row.row))) (of_table t place e) h
