-- The table of a name, by its place in the schema.
use Rattle.std.proofs.Common.{◌≡◌, ℕ, zero, suc, ◌+◌, ◌<◌, Bool, true, false, cond, List, [], ◌∷◌, length, Some, None, refl, sym, ap, ◌∙◌, arith}
use Rattle.std.specs.Prelude.{slice_get}
use Rattle.std.specs.List.{position_from}
use Rattle.sqlval.specs.declared.schema.Table.{Table}
use Rattle.sqlval.specs.Schema.{same_name}
use Rattle.denote.specs.Database.{Name}
use Rattle.stored_tables.specs.Named.{table_named}

some_is : {X : Type 0} (a b : X) → Some a ≡ Some b → a ≡ b
some_is a b e = cc

record IsAt (name : Name) (tables : List Table) (from at : ℕ) : Type 0 where
  place : ℕ
  is : at ≡ from + place
  below : place < length tables
  found : slice_get tables place ≡ table_named name tables

at_place : (name : Name) (tables : List Table) (from at : ℕ) → position_from (λ (t : Table). same_name t.name name) from tables ≡ Some at → IsAt name tables from at
at_place name [] from at e = absurd (cc)
at_place name (t ∷ tables) from at e = by (same_name t.name name) refl e (at_place name tables (from + 1) at)
  where
    by : (b : Bool) → same_name t.name name ≡ b → cond b (Some from) (position_from (λ (t : Table). same_name t.name name) (from + 1) tables) ≡ Some at
        → (position_from (λ (t : Table). same_name t.name name) (from + 1) tables ≡ Some at → IsAt name tables (from + 1) at) → IsAt name (t ∷ tables) from at
    by true h found again = record { place = 0; is = let q = some_is from at found in omega (arith, q); below = omega arith; found = sym (ap (λ b. cond b (Some t) (table_named name tables)) h) }
    by false h found again =
        let w = again found in
        record { place = suc w.place; is = omega (arith, w.is); below = omega (arith, w.below); found = w.found ∙ ap (λ b. cond b (Some t) (table_named name tables)) (sym h) }

none_by : (name : Name) (tables : List Table) (from : ℕ) → position_from (λ (t : Table). same_name t.name name) from tables ≡ None → table_named name tables ≡ None
none_by name [] from e = refl
none_by name (t ∷ tables) from e = by (same_name t.name name) e (none_by name tables (from + 1))
  where
    by : (b : Bool) → cond b (Some from) (position_from (λ (t : Table). same_name t.name name) (from + 1) tables) ≡ None
        → (position_from (λ (t : Table). same_name t.name name) (from + 1) tables ≡ None → table_named name tables ≡ None) → cond b (Some t) (table_named name tables) ≡ None
    by true found again = absurd (cc)
    by false none again = again none

pub found_there : (name : Name) (tables : List Table) (at : ℕ) → position_from (λ (t : Table). same_name t.name name) 0 tables ≡ Some at → slice_get tables at ≡ table_named name tables
found_there name tables at e = let w = at_place name tables 0 at e in
    let here : at ≡ w.place = omega (arith, w.is) in
    ap (slice_get tables) here ∙ w.found

pub behind_all : {X : Type 0} (xs : List X) (n : ℕ) → (n < length xs → ⊥) → None ≡ slice_get xs n
behind_all [] n f = refl
behind_all (x ∷ xs) zero f = absurd (f (omega arith))
behind_all (x ∷ xs) (suc n) f = behind_all xs n (λ l. f (omega (arith, l)))

pub none_found : (name : Name) (tables : List Table) → position_from (λ (t : Table). same_name t.name name) 0 tables ≡ None → None ≡ table_named name tables
none_found name tables e = sym (none_by name tables 0 e)
