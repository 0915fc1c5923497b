-- The numbers of rows rise.
use Rattle.std.proofs.Common.{◌≡◌, ◌+◌, ◌<◌, slice_index_or, ℕ, zero, suc, Bool, true, false, cond, List, [], ◌∷◌, map, Some, sym, subst, ◌∙◌, arith}
use Rattle.std.specs.List.{AllByRecursion}
use Rattle.std.specs.Ordering.{eq_by_cmp}
use Rattle.std.specs.FinMap.{find, get}
use Rattle.std.proofs.lemmas.Bool.{ltb-true}
use Rattle.sqlval.specs.Comparison.{text_order}
use Rattle.denote.specs.Database.{Name}
use Rattle.store.specs.Contents.{Entry, StoredTable, Rises}
use Rattle.page_space.specs.Space.{PageMap}
use Rattle.btree_read.specs.Sorted.{Ascends}
use Rattle.btree_read.proofs.AscendLemmas.{root_ascends}
use Rattle.tablestore.specs.Held.{entries_of, AreKept, HoldsRows}
use Rattle.tablestore.proofs.NumberLemmas.{number_order}
use Rattle.stored_tables.specs.Held.{TableAt, HoldsIts, HoldsTables, stored_of, entry_at, contents_of}
use Rattle.stored_tables.proofs.NameLemmas.{contents-get}

one_more : (k : ℕ) → suc (k + 1) ≡ suc k + 1
one_more k = omega arith

ascending : (rows : List Entry) → AreKept rows → Ascends (entries_of rows) → Rises rows
ascending [] kept rising k d inside = absurd (omega (arith, inside))
ascending (e ∷ []) kept rising k d inside = absurd (omega (arith, inside))
ascending (e ∷ f ∷ rows) kept rising zero d inside =
    ltb-true e.0 f.0 (sym (number_order e.0 f.0 (omega (arith, kept.0.number)) (omega (arith, kept.1.0.number))) ∙ rising.0.0)
ascending (e ∷ f ∷ rows) kept rising (suc k) d inside =
    subst (λ (n : ℕ). (slice_index_or (f ∷ rows) k d).0 < (slice_index_or (e ∷ f ∷ rows) n d).0) (one_more k) (ascending (f ∷ rows) kept.1 rising.1 k d (omega (arith, inside)))

pub rows_rise : (pages : PageMap) (root : ℕ) (owned : List ℕ) (rows : List Entry) → HoldsRows pages root owned rows → Rises rows
rows_rise pages root owned rows h = ascending rows h.kept (root_ascends pages root owned (entries_of rows) h.tree)

found_rises : (pages : PageMap) (tables : List TableAt) (name : Name) (table : StoredTable) → AllByRecursion (HoldsIts pages) tables → find text_order name (map entry_at tables) ≡ Some table → Rises table.entries
found_rises pages [] name table h e = absurd (cc)
found_rises pages (t ∷ tables) name table h e = by (eq_by_cmp text_order name t.declared.name) e (found_rises pages tables name table h.1)
  where
    same : (a b : StoredTable) → Some a ≡ Some b → a ≡ b
    same a b q = cc

    by : (b : Bool) → cond b (Some (stored_of t)) (find text_order name (map entry_at tables)) ≡ Some table → (find text_order name (map entry_at tables) ≡ Some table → Rises table.entries) → Rises table.entries
    by true found again = subst (λ (x : StoredTable). Rises x.entries) (same (stored_of t) table found) (rows_rise pages t.declared.root t.owned t.rows h.0)
    by false found again = again found

pub numbers_rise : (pages : PageMap) (root : ℕ) (tables : List TableAt) (name : Name) (table : StoredTable) → HoldsTables pages root tables → get (contents_of tables) name ≡ Some table → Rises table.entries
numbers_rise pages root tables name table h found = found_rises pages tables name table h.rows (sym (contents-get tables name) ∙ found)
