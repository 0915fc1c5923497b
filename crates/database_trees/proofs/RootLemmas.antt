-- Roots put into the declaration of a table.
use Rattle.std.proofs.Common.{◌≡◌, ℕ, zero, suc, ◌+◌, ◌<◌, ◌≤◌, ◌^◌, List, [], ◌∷◌, ◌++◌, length, map, take, Option, Some, None, IsSome, refl, sym, ap, subst, ◌∙◌, arith, add-one, inl}
use Rattle.std.specs.Prelude.{slice_index_or, slice_get, slice_set}
use Rattle.std.specs.Option.{option_map}
use Rattle.std.proofs.Math.Seq.{take-length}
use Rattle.std.specs.List.{AllByRecursion}
use Rattle.sqlval.specs.declared.schema.Index.{Index}
use Rattle.sqlval.specs.declared.schema.Table.{Table}
use Rattle.denote.specs.SchemaOf.{index_of}
use Rattle.store.specs.Contents.{Entry}
use Rattle.page_space.specs.Space.{PageMap}
use Rattle.btree_read.specs.declared.entry.Entry as tree
use Rattle.btree_read.specs.Lists.{Has}
use Rattle.btree_read.specs.Nodes.{Node}
use Rattle.btree_read.specs.Tree.{Tree, page_of, nodes_of, pages_in, IsTree}
use Rattle.btree.proofs.LawLemmas.{tree_used}
use Rattle.catalog_records.specs.Keepable.{IsIndex, IsIndexOver, IsTable}
use Rattle.database_trees.specs.Trees.{TreeAt, Lies}
use Rattle.database_trees.specs.Held.{IndexAt, indexes_declared, trees_of_indexes}
use Rattle.database_trees.specs.Exchanged.{with_root, root_put, with_roots}

-- ---- one after another

roots_put : (roots : List ℕ) (indexes : List Index) (i r : ℕ) → i < length roots → r ≡ slice_index_or roots i r → root_put i r (with_roots (take i roots) indexes) ≡ with_roots (take (suc i) roots) indexes
roots_put [] indexes i r below is = absurd (omega (arith, below))
roots_put (q ∷ roots) [] zero r below is = refl
roots_put (q ∷ roots) [] (suc i) r below is = refl
roots_put (q ∷ roots) (x ∷ indexes) zero r below is = ap (λ (s : ℕ). with_root s x ∷ indexes) is
roots_put (q ∷ roots) (x ∷ indexes) (suc i) r below is = ap (λ (xs : List Index). with_root q x ∷ xs) (roots_put roots indexes i r (omega (arith, below)) is)

pub put_more : (roots : List ℕ) (indexes now : List Index) (i r : ℕ) → i < length roots → r ≡ slice_index_or roots i r → now ≡ with_roots (take i roots) indexes → root_put i r now ≡ with_roots (take (i + 1) roots) indexes
put_more roots indexes now i r below is e = ap (root_put i r) e ∙ roots_put roots indexes i r below is ∙ ap (λ k. with_roots (take k roots) indexes) (sym (add-one i))

pub put_end : (roots : List ℕ) (indexes now : List Index) (i : ℕ) → i ≡ length roots → now ≡ with_roots (take i roots) indexes → now ≡ with_roots roots indexes
put_end roots indexes now i is e = e ∙ ap (λ rs. with_roots rs indexes) (ap (λ k. take k roots) is ∙ take-length roots)

pub set_root : (indexes : List Index) (at root : ℕ) (x : Index) → slice_get indexes at ≡ Some x → slice_set indexes at (record x { root = root }) ≡ root_put at root indexes
set_root [] at root x e = absurd (cc)
set_root (y ∷ indexes) zero root x e = let same : y ≡ x = cc in ap (λ (z : Index). with_root root z ∷ indexes) (sym same)
set_root (y ∷ indexes) (suc at) root x e = ap (λ (xs : List Index). y ∷ xs) (set_root indexes at root x e)

pub no_root : (indexes : List Index) (at root : ℕ) → slice_get indexes at ≡ None → indexes ≡ root_put at root indexes
no_root [] at root e = refl
no_root (y ∷ indexes) zero root e = absurd (cc)
no_root (y ∷ indexes) (suc at) root e = ap (λ (xs : List Index). y ∷ xs) (no_root indexes at root e)

-- ---- roots that are there already

has_more_by : (roots : List ℕ) (indexes : List Index) (i r : ℕ) (x : Index) → i < length roots → r ≡ slice_index_or roots i r → slice_get indexes i ≡ Some x → x.root ≡ r → with_roots (take i roots) indexes ≡ indexes
    → with_roots (take (suc i) roots) indexes ≡ indexes
has_more_by [] indexes i r x below is get same e = absurd (omega (arith, below))
has_more_by (q ∷ roots) [] i r x below is get same e = absurd (cc)
has_more_by (q ∷ roots) (y ∷ indexes) zero r x below is get same e =
    let here : y ≡ x = cc in
    let root : q ≡ y.root = sym is ∙ sym same ∙ ap (λ (z : Index). z.root) (sym here) in
    ap (λ (s : ℕ). with_root s y ∷ indexes) root
has_more_by (q ∷ roots) (y ∷ indexes) (suc i) r x below is get same e =
    let first : with_root q y ≡ y = cc in
    let rest : with_roots (take i roots) indexes ≡ indexes = cc in
    ap (λ (z : Index). z ∷ with_roots (take (suc i) roots) indexes) first ∙ ap (λ (zs : List Index). y ∷ zs) (has_more_by roots indexes i r x (omega (arith, below)) is get same rest)

pub has_more : (roots : List ℕ) (indexes : List Index) (i r : ℕ) (x : Index) → i < length roots → r ≡ slice_index_or roots i r → slice_get indexes i ≡ Some x → x.root ≡ r → with_roots (take i roots) indexes ≡ indexes
    → with_roots (take (i + 1) roots) indexes ≡ indexes
has_more roots indexes i r x below is get same e = ap (λ k. with_roots (take k roots) indexes) (add-one i) ∙ has_more_by roots indexes i r x below is get same e

pub index_any : (xs : List ℕ) (i d e : ℕ) → i < length xs → slice_index_or xs i d ≡ slice_index_or xs i e
index_any [] i d e below = absurd (omega (arith, below))
index_any (x ∷ xs) zero d e below = refl
index_any (x ∷ xs) (suc i) d e below = index_any xs i d e (omega (arith, below))

pub has_root_more : (roots : List ℕ) (indexes : List Index) (i r : ℕ) → i < length roots → r ≡ slice_index_or roots i r → option_map (λ (x : Index). x.root) (slice_get indexes i) ≡ Some r → with_roots (take i roots) indexes ≡ indexes
    → with_roots (take (i + 1) roots) indexes ≡ indexes
has_root_more roots indexes i r below is rooted e = by (slice_get indexes i) refl rooted
  where
    some_is : (m n : ℕ) → Some m ≡ Some n → m ≡ n
    some_is m n q = cc

    by : (o : Option Index) → slice_get indexes i ≡ o → option_map (λ (x : Index). x.root) o ≡ Some r → with_roots (take (i + 1) roots) indexes ≡ indexes
    by None get h = absurd (cc)
    by (Some x) get h = has_more roots indexes i r x below is get (some_is x.root r h) e

pub has_all : (roots : List ℕ) (indexes : List Index) (i : ℕ) → i ≡ length roots → with_roots (take i roots) indexes ≡ indexes → with_roots roots indexes ≡ indexes
has_all roots indexes i is e = ap (λ rs. with_roots rs indexes) (sym (ap (λ k. take k roots) is ∙ take-length roots)) ∙ e

-- ---- what does not change

pub same_declared : (roots : List ℕ) (indexes : List Index) → map index_of (with_roots roots indexes) ≡ map index_of indexes
same_declared [] indexes = refl
same_declared (r ∷ roots) [] = refl
same_declared (r ∷ roots) (x ∷ indexes) = ap (λ ds. index_of x ∷ ds) (same_declared roots indexes)

-- ---- roots have 32 bits

its_page : (d : ℕ) (t : Tree d) → Has (page_of d t) (pages_in (nodes_of d t))
its_page zero t = inl refl
its_page (suc d) t = inl refl

-- no page in use has a greater number
abbrev pub IsBounded : PageMap → Type 0
IsBounded pages = (n : ℕ) → IsSome (pages n) → (0 < n) × (n < 65536)

pub small_root : (pages : PageMap) (root : ℕ) (owned : List ℕ) (entries : List tree.Entry) → IsBounded pages → IsTree pages root owned entries → root < 2 ^ 32
small_root pages zero owned entries bounded w = omega arith
small_root pages (suc r) owned entries bounded w =
    let there : Has (suc r) owned = subst (λ (n : ℕ). Has n owned) w.at (subst (Has (page_of w.depth w.tree)) w.owns (its_page w.depth w.tree)) in
    let b = (bounded (suc r) (tree_used pages (suc r) owned entries w (suc r) there)).1 in
    omega (arith, b)

pub rows_root : (pages : PageMap) (root : ℕ) (owned : List ℕ) (entries : List tree.Entry) → IsBounded pages → IsTree pages root owned entries → root < 2 ^ 32
rows_root pages root owned entries bounded w = small_root pages root owned entries bounded w

-- indexes at the roots of trees that lie in the pages
pub range_roots : (pages : PageMap) (roots : List ℕ) (indexes : List Index) (its : List IndexAt) (rows : List Entry) → IsBounded pages → indexes_declared its ≡ with_roots roots indexes
    → AllByRecursion IsIndex indexes → AllByRecursion (Lies pages) (trees_of_indexes rows its) → AllByRecursion IsIndex (with_roots roots indexes)
range_roots pages [] indexes its rows bounded e range lies = range
range_roots pages (r ∷ roots) [] its rows bounded e range lies = tt
range_roots pages (r ∷ roots) (x ∷ indexes) [] rows bounded e range lies = absurd (cc)
range_roots pages (r ∷ roots) (x ∷ indexes) (f ∷ its) rows bounded e range lies =
    let named : f.declared ≡ with_root r x = cc in
    let rest : indexes_declared its ≡ with_roots roots indexes = cc in
    let below : f.declared.root < 2 ^ 32 = small_root pages f.declared.root f.owned lies.0.entries bounded lies.0.tree in (
      record { root = subst (λ (y : Index). y.root < 2 ^ 32) named below; columns = range.0.columns },
      range_roots pages roots indexes its rows bounded rest range.1 lies.1,
    )

-- and still over the columns of their table
pub over_roots : (count : ℕ) (roots : List ℕ) (indexes : List Index) → AllByRecursion (IsIndexOver count) indexes → AllByRecursion (IsIndexOver count) (with_roots roots indexes)
over_roots count [] indexes over = over
over_roots count (r ∷ roots) [] over = tt
over_roots count (r ∷ roots) (x ∷ indexes) over = (over.0, over_roots count roots indexes over.1)
