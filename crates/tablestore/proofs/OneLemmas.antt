-- Rows by their entries.
use Rattle.std.proofs.Common.{◌≡◌, ℕ, List, [], ◌∷◌, IsSome, refl, ap, ◌∙◌, arith}
use Rattle.store.specs.Contents as stored
use Rattle.sqlrecord.proofs.OrderLemmas.{index_keys_apart, rows_apart}
use Rattle.page_space.specs.Space.{PageMap}
use Rattle.btree_read.specs.declared.entry.Entry.{Entry}
use Rattle.btree_read.specs.Lists.{Has}
use Rattle.btree.proofs.LawLemmas.{tree_stays, tree_used}
use Rattle.btree.proofs.OneLemmas.{one_tree}
use Rattle.tablestore.specs.Held.{row_entry, entries_of, IsKept, AreKept, HoldsRows}

row_same : (e f : stored.Entry) → IsKept e → IsKept f → row_entry e ≡ row_entry f → e ≡ f
row_same e f h g same =
    let numbers : e.0 ≡ f.0 = (index_keys_apart [] [] e.0 f.0 tt tt refl (omega (arith, h.number)) (omega (arith, g.number)) (ap (λ (x : Entry). x.key) same)).1 in
    let rows : e.1 ≡ f.1 = rows_apart e.1 f.1 h.storable g.storable (ap (λ (x : Entry). x.value) same) in
    λ i. (numbers i, rows i)

rows_same : (rows others : List stored.Entry) → AreKept rows → AreKept others → entries_of rows ≡ entries_of others → rows ≡ others
rows_same [] [] h g e = refl
rows_same [] (f ∷ others) h g e = absurd (cc)
rows_same (x ∷ rows) [] h g e = absurd (cc)
rows_same (x ∷ rows) (y ∷ others) h g e =
    let first : row_entry x ≡ row_entry y = cc in
    let rest : entries_of rows ≡ entries_of others = cc in
    ap (λ z. z ∷ rows) (row_same x y h.0 g.0 first) ∙ ap (λ zs. y ∷ zs) (rows_same rows others h.1 g.1 rest)

pub one_list : (pages : PageMap) (root : ℕ) (owned also : List ℕ) (rows others : List stored.Entry) → HoldsRows pages root owned rows → HoldsRows pages root also others → rows ≡ others
one_list pages root owned also rows others h g = rows_same rows others h.kept g.kept (one_tree pages root owned also (entries_of rows) (entries_of others) h.tree g.tree)

pub rows_kept : (old new : PageMap) (root : ℕ) (owned : List ℕ) (rows : List stored.Entry) → ((n : ℕ) → Has n owned → new n ≡ old n) → HoldsRows old root owned rows → HoldsRows new root owned rows
rows_kept old new root owned rows same h = record { tree = tree_stays old new root owned _ same h.tree; kept = h.kept }

pub rows_used : (pages : PageMap) (root : ℕ) (owned : List ℕ) (rows : List stored.Entry) → HoldsRows pages root owned rows → (n : ℕ) → Has n owned → IsSome (pages n)
rows_used pages root owned rows h = tree_used pages root owned _ h.tree
