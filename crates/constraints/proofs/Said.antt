-- Where something is said of a table to which rows come or have come.
use Rattle.std.proofs.Common.{◌≡◌, ◌∙◌, refl, sym, ap, subst, ℕ, ◌+◌, ◌-◌, ◌*◌, ◌^◌, ◌<◌, ◌≤◌, Bool, true, false, cond, ◌&&◌, ◌||◌, List, [], ◌∷◌, map, length, min, is_some, Option, Some, None, arith}
use Rattle.std.specs.Prelude.{filter, nat_lt, slice_get}
use Rattle.std.specs.List.{list_any, list_all, cons_option, position_from}
use Rattle.std.specs.Option.{option_map}
use Rattle.sqlval.specs.declared.schema.Constraint.{Constraint}
use Rattle.sqlval.specs.declared.schema.Index.{Index}
use Rattle.sqlval.specs.Value.{Row}
use Rattle.denote.specs.Database.{Name, IndexDeclaration}
use Rattle.denote.specs.SchemaOf.{index_of}
use Rattle.store.specs.Contents.{Entry, StoredTable}
use Rattle.store.specs.declared.rows.NumberedRow.{NumberedRow}
use Rattle.store.specs.Indexes.{entry_after, is_after}
use Rattle.store.specs.View.{IsEntry, entry_of}
use Rattle.constraints.specs.declared.foreseen.Foreseen.{Foreseen}
use Rattle.constraints.specs.declared.foreseen.Foreseen.TheVariants.{Fits, Violates, Open}
use Rattle.constraints.specs.Foreseen.{same_columns, columns_of_key, place_of, key_over, keys_asked, is_met, met_in, foreseen_at, foreseen_by, Foretells, IsSaid, is_over, has_many_more}
use Rattle.constraints.proofs.Foretelling.{any-filtered}
use Rattle.constraints.proofs.Behind.{counts-more, more-counts}

-- what holds where the table violates nothing before
pub foretells-where : (foreseen : Foreseen) (G P : Type 0) (Q : Name → Type 0) → G → Foretells foreseen (G → P) Q → Foretells foreseen P Q
foretells-where Fits G P Q good h = h good
foretells-where (Violates constraint) G P Q good h = h
foretells-where Open G P Q good h = tt

-- ---- where something is said

over-placed : (columns : List ℕ) (indexes : List Index) (k : ℕ) → position_from (λ (index : Index). same_columns index.columns columns) k indexes ≡ None
    → list_any (λ (index : IndexDeclaration). same_columns index.columns columns) (map index_of indexes) ≡ false
over-placed columns [] k e = refl
over-placed columns (index ∷ indexes) k e = by (same_columns index.columns columns) e (over-placed columns indexes (k + 1))
  where
    by : (b : Bool) → cond b (Some k) (position_from (λ (index : Index). same_columns index.columns columns) (k + 1) indexes) ≡ None
        → (position_from (λ (index : Index). same_columns index.columns columns) (k + 1) indexes ≡ None
        → list_any (λ (index : IndexDeclaration). same_columns index.columns columns) (map index_of indexes) ≡ false)
        → (b || list_any (λ (index : IndexDeclaration). same_columns index.columns columns) (map index_of indexes)) ≡ false
    by true e rest = absurd (cc e)
    by false e rest = rest e

module _ (own : ℕ) (table : Option StoredTable) (rows : List Row) (indexes : List Index) where
  both : (a b : Bool) → (a && b) ≡ true → (a ≡ true) × (b ≡ true)
  both true b e = (refl, e)
  both false b e = absurd (cc e)

  pub says-something : (cs : List Constraint) → list_all (λ (c : Constraint). is_over (columns_of_key c.rule) (map index_of indexes)) cs ≡ true
      → IsSaid (foreseen_by (met_in own table rows) (keys_asked indexes cs))
  says-something [] e = tt
  says-something (c ∷ cs) e =
      let here = both (is_over (columns_of_key c.rule) (map index_of indexes)) (list_all (λ (c : Constraint). is_over (columns_of_key c.rule) (map index_of indexes)) cs) e in
      by (columns_of_key c.rule) here.0 (says-something cs here.1)
    where
      last : (b : Bool) → IsSaid (foreseen_by (met_in own table rows) (keys_asked indexes cs)) → IsSaid (foreseen_at (Some b) c.name (foreseen_by (met_in own table rows) (keys_asked indexes cs)))
      last true rest = tt
      last false rest = rest

      at : (columns : List ℕ) (o : Option ℕ) → place_of columns indexes ≡ o → list_any (λ (index : IndexDeclaration). same_columns index.columns columns) (map index_of indexes) ≡ true
          → IsSaid (foreseen_by (met_in own table rows) (keys_asked indexes cs))
          → IsSaid (foreseen_at (option_map (λ (place : ℕ). is_met own table place columns rows) o) c.name (foreseen_by (met_in own table rows) (keys_asked indexes cs)))
      at columns None is over rest = let none = over-placed columns indexes 0 is in absurd (cc (over, none))
      at columns (Some place) is over rest = last (is_met own table place columns rows) rest

      by : (o : Option (List ℕ)) → is_over o (map index_of indexes) ≡ true → IsSaid (foreseen_by (met_in own table rows) (keys_asked indexes cs))
          → IsSaid (foreseen_by (met_in own table rows) (cons_option (option_map (key_over indexes c.name) o) (keys_asked indexes cs)))
      by None over rest = rest
      by (Some columns) over rest = at columns (place_of columns indexes) refl over rest

-- a row number above eight times so many is found
many-found : (count number : ℕ) (entries : List Entry) → number ≤ count * 8 → has_many_more count entries ≡ true → is_some (entry_after (Some number) entries) ≡ true
many-found count number entries below e = by (filter (λ (e : Entry). is_after (Some number) e.0) entries) (more-counts 0 (length (filter (λ (e : Entry). is_after (Some number) e.0) entries)) (any-filtered (λ (e : Entry). nat_lt number e.0) entries ∙ wider entries e))
  where
    next : (a b : ℕ) → number ≤ a → nat_lt a b ≡ true → nat_lt number b ≡ true
    next a b le lt = let less = more-counts a b lt in counts-more number b (omega (arith, le, less))

    wider : (es : List Entry) → has_many_more count es ≡ true → list_any (λ (e : Entry). nat_lt number e.0) es ≡ true
    wider [] e = e
    wider (x ∷ es) e = at (nat_lt (count * 8) x.0) refl e (wider es)
      where
        first : (a b : Bool) → a ≡ true → (a || b) ≡ true
        first a b is = ap (λ c. c || b) is

        second : (a b : Bool) → b ≡ true → (a || b) ≡ true
        second true b is = refl
        second false b is = is

        at : (b : Bool) → nat_lt (count * 8) x.0 ≡ b → (b || has_many_more count es) ≡ true → (has_many_more count es ≡ true → list_any (λ (e : Entry). nat_lt number e.0) es ≡ true)
            → (nat_lt number x.0 || list_any (λ (e : Entry). nat_lt number e.0) es) ≡ true
        at true is e rest = first (nat_lt number x.0) (list_any (λ (e : Entry). nat_lt number e.0) es) (next (count * 8) x.0 below is)
        at false is e rest = second (nat_lt number x.0) (list_any (λ (e : Entry). nat_lt number e.0) es) (rest e)

    by : (es : List Entry) → 0 < length es → is_some (slice_get es 0) ≡ true
    by [] e = absurd (omega (arith, e))
    by (x ∷ es) e = refl

-- what comes first of those that pass is one of all, and passes
taken : (p : Entry → Bool) (entries : List Entry) (e : Entry) → slice_get (filter p entries) 0 ≡ Some e → (p e ≡ true) × ((q : Entry → Bool) → q e ≡ true → list_any q entries ≡ true)
taken p [] e is = absurd (cc)
taken p (x ∷ es) e is = by (p x) refl (taken p es e) is
  where
    by : (b : Bool) → p x ≡ b → (slice_get (filter p es) 0 ≡ Some e → (p e ≡ true) × ((q : Entry → Bool) → q e ≡ true → list_any q es ≡ true))
        → slice_get (cond b (x ∷ filter p es) (filter p es)) 0 ≡ Some e → (p e ≡ true) × ((q : Entry → Bool) → q e ≡ true → (q x || list_any q es) ≡ true)
    by true passes rest is = let same : x ≡ e = cc in (subst (λ (y : Entry). p y ≡ true) same passes, λ q h. ap (λ b. b || list_any q es) (subst (λ (y : Entry). q y ≡ true) (sym same) h))
    by false fails rest is = ((rest is).0, λ q h. second (q x) ((rest is).1 q h))
      where
        second : (a : Bool) → {b : Bool} → b ≡ true → (a || b) ≡ true
        second true is = refl
        second false is = is

-- a number of so many bits above a bound that stays within them is above the bound that does not
within : (top m n r : ℕ) → n ≡ min m (top - 1) → r < top → n < r → m < r
within top m n r is fits above = omega (arith, is, fits, above)

-- so the row that is found is above eight times so many
pub few-found : (count number : ℕ) (row : NumberedRow) (entries : List Entry) → number ≡ min (count * 8) (2 ^ 64 - 1) → row.number < 2 ^ 64 → IsEntry (Some row) (entry_after (Some number) entries)
    → nat_lt number row.number ≡ has_many_more count entries
few-found count number row entries is fits found =
    let first = taken (λ (e : Entry). is_after (Some number) e.0) entries (entry_of row) (sym found) in
    let above = within (2 ^ 64) (count * 8) number row.number is fits (more-counts number row.number first.0) in
    first.0 ∙ sym (first.1 (λ (e : Entry). nat_lt (count * 8) e.0) (counts-more (count * 8) row.number above))

-- and where none is found there is none
pub none-found : (count number : ℕ) (entries : List Entry) → number ≤ count * 8 → IsEntry None (entry_after (Some number) entries) → false ≡ has_many_more count entries
none-found count number entries below found = by (has_many_more count entries) refl
  where
    by : (b : Bool) → has_many_more count entries ≡ b → false ≡ b
    by true many = let bad : false ≡ true = ap is_some found ∙ many-found count number entries below many in absurd (cc)
    by false few = refl

pub below-min : (n a b : ℕ) → n ≡ min a b → n ≤ a
below-min n a b e = grind (arith, e)
