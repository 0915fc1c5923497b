-- What an index finds is what the definitions say of the rows of its table.
use Rattle.std.proofs.Common.{◌≡◌, refl, ap, sym, ◌∙◌, ℕ, Bool, true, false, cond, not, ◌||◌, List, [], ◌∷◌, Option}
use Rattle.std.specs.Prelude.{IsTrue, ◌↔◌, filter}
use Rattle.std.specs.List.{list_any}
use Rattle.sqlval.specs.declared.value.Value.{Value}
use Rattle.sqlval.specs.Matching.{key_of, matches}
use Rattle.sqlval.specs.Value.{Row}
use Rattle.denote_laws.proofs.Tables.{any-same}
use Rattle.store.specs.declared.rows.Numbered.{Numbered}
use Rattle.store.specs.Contents.{Entry, StoredTable, rows_of}
use Rattle.store.specs.Indexes.{entries_of, matching, sought}
use Rattle.store.specs.View.{AreEntries}
use Rattle.foreign_keys.specs.declared.ways.Way.{Way}
use Rattle.foreign_keys.specs.Sources.{LeadsAt, is_found}
use Rattle.foreign_keys.proofs.Pairing.{same_matches}

abbrev has_some : {X : Type 0} → List X → Bool
has_some [] = false
has_some (x ∷ xs) = true

-- a list that is tested for being empty
tested : {X : Type 0} (xs : List X) (b : Bool) → (IsTrue b ↔ (xs ≡ [])) → not b ≡ has_some xs
tested [] true h = refl
tested [] false h = absurd (let empty : false ≡ true = h.1 refl in cc empty)
tested (x ∷ xs) true h = absurd (let empty : x ∷ xs ≡ [] = h.0 refl in cc empty)
tested (x ∷ xs) false h = refl

-- a row of which something is so, among entries of which only such are left
some-filtered : (p : Row → Bool) (entries : List Entry) → list_any p (rows_of entries) ≡ has_some (rows_of (filter (λ (e : Entry). p e.1) entries))
some-filtered p [] = refl
some-filtered p (e ∷ entries) = by (p e.1) (some-filtered p entries)
  where
    by : (b : Bool) → list_any p (rows_of entries) ≡ has_some (rows_of (filter (λ (x : Entry). p x.1) entries))
        → (b || list_any p (rows_of entries)) ≡ has_some (rows_of (cond b (e ∷ filter (λ (x : Entry). p x.1) entries) (filter (λ (x : Entry). p x.1) entries)))
    by true h = refl
    by false h = h

-- rows that are sought by an index that leads to them
pub found-by-index : (table : Option StoredTable) (from to : List ℕ) (way : Way) (row : Row) (key : List Value) (found : Numbered) (b : Bool) → LeadsAt table from to way
    → key ≡ key_of way.columns row → AreEntries found (sought table way.place key) → (IsTrue b ↔ (found.rows ≡ [])) → not b ≡ is_found (rows_of (entries_of table)) from to row
found-by-index table from to way row key found b leads is entries empty =
    let inside : sought table way.place key ≡ filter (λ (e : Entry). matches leads.columns key e.1) (entries_of table) = ap (λ columns. matching columns key (entries_of table)) leads.over in
    tested found.rows b empty
    ∙ ap has_some (entries.rows ∙ ap rows_of inside)
    ∙ sym (some-filtered (matches leads.columns key) (entries_of table))
    ∙ ap (λ k. list_any (matches leads.columns k) (rows_of (entries_of table))) is
    ∙ any-same (matches leads.columns (key_of way.columns row)) (matches to (key_of from row)) (rows_of (entries_of table))
    (λ other. same_matches way.columns leads.columns from to leads.pairs row other)
