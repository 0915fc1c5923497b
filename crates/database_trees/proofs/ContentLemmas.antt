-- What a store shows of a database, after a change of one table.
use Rattle.std.proofs.Common.{◌≡◌, ℕ, ◌+◌, ◌^◌, ◌<◌, length, Bool, true, false, cond, List, [], ◌∷◌, ◌++◌, map, Option, Some, None, Result, Ok, Err, IfOk, IfErr, refl, sym, ap, subst, ◌∙◌}
use Rattle.std.proofs.lemmas.List.{map-append}
use Rattle.std.specs.List.{AllByRecursion}
use Rattle.std.specs.Option.{option_map}
use Rattle.std.specs.Ordering.{eq_by_cmp}
use Rattle.std.specs.FinMap.{get, insert}
use Rattle.sqlval.specs.declared.schema.Table.{Table}
use Rattle.sqlval.specs.Comparison.{text_order}
use Rattle.sqlval.specs.Schema.{same_name}
use Rattle.sqlval.specs.Value.{Row}
use Rattle.denote.specs.Database.{Name, IndexDeclaration}
use Rattle.denote.specs.SchemaOf.{index_of}
use Rattle.store.specs.Contents.{Entry, StoredTable, Contents, put_back, changed, next_number, rows_of}
use Rattle.store.specs.Errors.{HasLongKey, indexes_of}
use Rattle.store.specs.Indexes.{entries_of}
use Rattle.page_space.specs.Space.{PageMap}
use Rattle.stored_tables.specs.Held as plain
use Rattle.stored_tables.proofs.NameLemmas.{from_same, not_tied, Named, found_at, get_none}
use Rattle.stored_tables.proofs.ChangeLemmas.{contents_changed}
use Rattle.database_trees.specs.Held.{TableAt, declared_at, declared_of, rows_at, rows_of_tables, HoldsFor, contents_of}
use Rattle.database_trees.specs.Changed.{WrittenFor, Reaches}
use Rattle.database_trees.specs.declared.error.DatabaseError.{DatabaseError}
use Rattle.stored_tables.specs.Named.{table_named}
use Rattle.database_trees.specs.Exchanged.{IsWithRows, IsTableOf, RowsExchanged}
use Rattle.database_trees.proofs.DatabaseLemmas.{declared_rows}

-- ---- the table of a name

-- the table of a name among those of a database
pub record IsFoundAt (name : Name) (tables : List TableAt) (table : Table) : Type 0 where
  pub before : List TableAt
  pub at : TableAt
  pub behind : List TableAt
  pub is : tables ≡ before ++ at ∷ behind
  pub declared : declared_at at ≡ table
  pub named : at.name ≡ name
  pub others : AllByRecursion (λ (b : TableAt). eq_by_cmp text_order name b.name ≡ false) before

pub is_found : (name : Name) (tables : List TableAt) (table : Table) → table_named name (declared_of tables) ≡ Some table → IsFoundAt name tables table
is_found name [] table e = absurd (cc)
is_found name (t ∷ tables) table e = by (same_name t.name name) refl e (is_found name tables table)
  where
    some_is : (a b : Table) → Some a ≡ Some b → a ≡ b
    some_is a b q = cc

    by : (b : Bool) → same_name t.name name ≡ b → cond b (Some (declared_at t)) (table_named name (declared_of tables)) ≡ Some table → (table_named name (declared_of tables) ≡ Some table → IsFoundAt name tables table)
        → IsFoundAt name (t ∷ tables) table
    by true h found again = record { before = []; at = t; behind = tables; is = refl; declared = some_is (declared_at t) table found; named = from_same t.name name h; others = tt }
    by false h found again =
        let w = again found in
        record { before = t ∷ w.before; at = w.at; behind = w.behind; is = ap (λ ts. t ∷ ts) w.is; declared = w.declared; named = w.named; others = (not_tied name t.name h, w.others) }

abbrev pub table_of_name : {alone : Bool} (pages : PageMap) (root : ℕ) (name : Name) (tables : List TableAt) (table : Table) → HoldsFor alone pages root tables → IsFoundAt name tables table → IsTableOf alone pages root table
table_of_name {alone} pages root name tables table h w = record { before = w.before; at = w.at; behind = w.behind; declared = w.declared; holds = subst (HoldsFor alone pages root) w.is h }

others_rows : (name : Name) (before : List TableAt) → AllByRecursion (λ (b : TableAt). eq_by_cmp text_order name b.name ≡ false) before
    → AllByRecursion (λ (b : plain.TableAt). eq_by_cmp text_order name b.declared.name ≡ false) (rows_of_tables before)
others_rows name [] h = tt
others_rows name (b ∷ before) h = (h.0, others_rows name before h.1)

pub rows_middle : (before behind : List TableAt) (t : TableAt) → rows_of_tables (before ++ t ∷ behind) ≡ rows_of_tables before ++ rows_at t ∷ rows_of_tables behind
rows_middle before behind t = map-append rows_at before (t ∷ behind)

pub get_found : (name : Name) (tables : List TableAt) (table : Table) → (w : IsFoundAt name tables table) → get (contents_of tables) name ≡ Some (plain.stored_of (rows_at w.at))
get_found name tables table w = found_at name (rows_of_tables tables) table (record {
  before = rows_of_tables w.before;
  at = rows_at w.at;
  behind = rows_of_tables w.behind;
  is = ap rows_of_tables w.is ∙ rows_middle w.before w.behind w.at;
  declared = w.declared;
  named = w.named;
  others = others_rows name w.before w.others;
})

pub get_absent : (name : Name) (tables : List TableAt) → table_named name (declared_of tables) ≡ None → get (contents_of tables) name ≡ None
get_absent name tables e = get_none name (rows_of_tables tables) (subst (λ (ts : List Table). table_named name ts ≡ None) (declared_rows tables) e)

-- ---- contents

pub put_in_place : (name : Name) (before behind : List TableAt) (was now : TableAt) → was.name ≡ name → now.name ≡ name → AllByRecursion (λ (b : TableAt). eq_by_cmp text_order name b.name ≡ false) before
    → contents_of (before ++ now ∷ behind) ≡ insert (contents_of (before ++ was ∷ behind)) name (plain.stored_of (rows_at now))
put_in_place name before behind was now e f others =
    ap plain.contents_of (rows_middle before behind now)
    ∙ contents_changed name (rows_of_tables before) (rows_of_tables behind) (rows_at was) (rows_at now) e f (others_rows name before others)
    ∙ ap (λ (ts : List plain.TableAt). insert (plain.contents_of ts) name (plain.stored_of (rows_at now))) (sym (rows_middle before behind was))

-- a table in place of the one of a name: what a change makes of it
pub changed_by : (name : Name) (tables : List TableAt) (table : Table) (change : StoredTable → StoredTable) (now : TableAt) → (w : IsFoundAt name tables table) → now.name ≡ w.at.name
    → plain.stored_of (rows_at now) ≡ change (plain.stored_of (rows_at w.at)) → contents_of (w.before ++ now ∷ w.behind) ≡ changed change (contents_of tables) name
changed_by name tables table change now w same is =
    put_in_place name w.before w.behind w.at now w.named (same ∙ w.named) w.others
    ∙ ap (λ (ts : List TableAt). insert (contents_of ts) name (plain.stored_of (rows_at now))) (sym w.is)
    ∙ ap (insert (contents_of tables) name) is
    ∙ ap (λ (o : Option StoredTable). put_back (contents_of tables) name (option_map change o)) (sym (get_found name tables table w))

pub not_changed : (name : Name) (tables : List TableAt) (change : StoredTable → StoredTable) → table_named name (declared_of tables) ≡ None → contents_of tables ≡ changed change (contents_of tables) name
not_changed name tables change e = ap (λ (o : Option StoredTable). put_back (contents_of tables) name (option_map change o)) (sym (get_absent name tables e))

pub database_none : {alone : Bool} (old new : PageMap) (root : ℕ) (name : Name) (tables : List TableAt) (change : StoredTable → StoredTable) → new ≡ old → HoldsFor alone old root tables → table_named name (declared_of tables) ≡ None
    → WrittenFor alone new (changed change (contents_of tables) name) root
database_none {alone} old new root name tables change same h e = record { tables = tables; holds = subst (λ (p : PageMap). HoldsFor alone p root tables) (sym same) h; shows = not_changed name tables change e }

pub database_rows : (alone : Bool) {E : Type 0} (result : Result ℕ E) (new : PageMap) (name : Name) (tables : List TableAt) (table : Table) (change : StoredTable → StoredTable) (rows_of_it : List Entry) → (w : IsFoundAt name tables table)
    → record (plain.stored_of (rows_at w.at)) { entries = rows_of_it } ≡ change (plain.stored_of (rows_at w.at))
    → IfOk result (RowsExchanged alone new w.before w.at w.behind rows_of_it) → IfOk result (WrittenFor alone new (changed change (contents_of tables) name))
database_rows alone (Err e) new name tables table change rows_of_it w makes h = tt
database_rows alone (Ok root) new name tables table change rows_of_it w makes h =
    record { tables = w.before ++ h.now ∷ w.behind; holds = h.holds; shows = changed_by name tables table change h.now w h.kept.name (h.kept.stored ∙ makes) }

-- ---- limits

pub key_shown : (name : Name) (tables : List TableAt) (table : Table) (rows : List Row) → (w : IsFoundAt name tables table) → HasLongKey (map index_of table.indexes) rows → HasLongKey (indexes_of (get (contents_of tables) name)) rows
key_shown name tables table rows w h =
    subst (λ (o : Option StoredTable). HasLongKey (indexes_of o) rows) (sym (get_found name tables table w))
    (subst (λ (t : Table). HasLongKey (map index_of t.indexes) rows) (sym w.declared) h)

pub number_shown : (name : Name) (tables : List TableAt) (table : Table) (rows : List Row) → (w : IsFoundAt name tables table) → 2 ^ 63 < next_number w.at.rows + length rows
    → 2 ^ 63 < next_number (entries_of (get (contents_of tables) name)) + length rows
number_shown name tables table rows w h = subst (λ (o : Option StoredTable). 2 ^ 63 < next_number (entries_of o) + length rows) (sym (get_found name tables table w)) h

pub index_limits : {X : Type 0} (result : Result X DatabaseError) (name : Name) (tables : List TableAt) (table : Table) (index : IndexDeclaration) → (w : IsFoundAt name tables table)
    → IfErr result (Reaches ⊥ (HasLongKey (index ∷ []) (rows_of w.at.rows)) ⊥) → IfErr result (Reaches ⊥ (HasLongKey (index ∷ []) (rows_of (entries_of (get (contents_of tables) name)))) ⊥)
index_limits result name tables table index w h =
    subst (λ (o : Option StoredTable). IfErr result (Reaches ⊥ (HasLongKey (index ∷ []) (rows_of (entries_of o))) ⊥)) (sym (get_found name tables table w)) h
