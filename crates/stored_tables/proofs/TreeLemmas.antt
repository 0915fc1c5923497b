-- The entries of a tree are read back.
use Rattle.std.proofs.Common.{◌≡◌, ℕ, zero, suc, ◌<◌, cond, List, [], ◌∷◌, ◌++◌, map, Some, IsSome, refl, sym, ap, subst, ◌∙◌, arith, eq-eqb, ne_eqb}
use Rattle.std.specs.Prelude.{slice_index}
use Rattle.std.specs.List.{flat_map}
use Rattle.page_space.specs.Space.{PageMap}
use Rattle.sqlrecord.specs.declared.kind.PageKind.{PageKind}
use Rattle.sqlrecord.specs.declared.kind.PageKind.TheVariants.{Leaf, Inner}
use Rattle.sqlrecord.specs.Page.{cells_of, child_of, link_of, IsSound}
use Rattle.btree_read.specs.declared.entry.Entry.{Entry}
use Rattle.btree_read.specs.declared.entry.Branch.{Branch}
use Rattle.btree_read.specs.Lists.{Apart}
use Rattle.btree_read.specs.Nodes.{Key, LeafNode, InnerNode, entry_of, branch_of, node_of}
use Rattle.btree_read.specs.Tree.{Tree, page_of, branch_to, entries_of, nodes_of, Holds, IsTree}
use Rattle.btree_read.proofs.ListLemmas.{each_left, each_right}
use Rattle.btree_read.proofs.CountLemmas.{few_levels}
use Rattle.stored_tables.specs.Trees.{entries_in, entries_under, entries_at}

-- a page's entries, or its children
leaf_here : (deeper : ℕ → List Entry) (bytes : List ℕ) (kind : PageKind) (next : ℕ) (entries : List Entry) → IsSound bytes kind → node_of kind (link_of bytes) (cells_of bytes) ≡ LeafNode next entries
    → entries_in deeper (Some bytes) ≡ entries
leaf_here deeper bytes Leaf next entries sound shows =
    ap (λ b. cond b (map entry_of (cells_of bytes)) (flat_map deeper (link_of bytes ∷ map child_of (cells_of bytes)))) (eq-eqb (slice_index bytes 0) 1 sound.head.is_kind)
    ∙ same (link_of bytes) (map entry_of (cells_of bytes)) shows
  where
    same : (link : ℕ) (es : List Entry) → LeafNode link es ≡ LeafNode next entries → es ≡ entries
    same link es e = cc
leaf_here deeper bytes Inner next entries sound shows = never (link_of bytes) (map branch_of (cells_of bytes)) shows
  where
    never : (link : ℕ) (branches : List Branch) → InnerNode link branches ≡ LeafNode next entries → entries_in deeper (Some bytes) ≡ entries
    never link branches e = cc

children : (cells : List (List ℕ)) → map child_of cells ≡ map (λ (b : Branch). b.child) (map branch_of cells)
children [] = refl
children (c ∷ cells) = ap (λ ns. child_of c ∷ ns) (children cells)

inner_here : (deeper : ℕ → List Entry) (bytes : List ℕ) (kind : PageKind) (first : ℕ) (branches : List Branch) → IsSound bytes kind → node_of kind (link_of bytes) (cells_of bytes) ≡ InnerNode first branches
    → entries_in deeper (Some bytes) ≡ flat_map deeper (first ∷ map (λ (b : Branch). b.child) branches)
inner_here deeper bytes Leaf first branches sound shows = never (link_of bytes) (map entry_of (cells_of bytes)) shows
  where
    never : (link : ℕ) (es : List Entry) → LeafNode link es ≡ InnerNode first branches → entries_in deeper (Some bytes) ≡ flat_map deeper (first ∷ map (λ (b : Branch). b.child) branches)
    never link es e = cc
inner_here deeper bytes Inner first branches sound shows =
    ap (λ b. cond b (map entry_of (cells_of bytes)) (flat_map deeper (link_of bytes ∷ map child_of (cells_of bytes)))) (ne_eqb (slice_index bytes 0) 1 (λ e. let two = sound.head.is_kind in omega (arith, two, e)))
    ∙ ap (λ ns. flat_map deeper (link_of bytes ∷ ns)) (children (cells_of bytes)) ∙ same (link_of bytes) (map branch_of (cells_of bytes)) shows
  where
    same : (link : ℕ) (bs : List Branch) → InnerNode link bs ≡ InnerNode first branches → flat_map deeper (link ∷ map (λ (b : Branch). b.child) bs) ≡ flat_map deeper (first ∷ map (λ (b : Branch). b.child) branches)
    same link bs e = let one : link ≡ first = cc in let others : bs ≡ branches = cc in λ i. flat_map deeper (one i ∷ map (λ (b : Branch). b.child) (others i))

-- child by child
kids_under : (pages : PageMap) (deeper : ℕ → List Entry) (d : ℕ) (rest : List (Key × Tree d)) → ((u : Tree d) → Holds pages (nodes_of d u) → deeper (page_of d u) ≡ entries_of d u)
    → Holds pages (flat_map (nodes_of d) (map (λ c. c.1) rest)) → flat_map deeper (map (λ (b : Branch). b.child) (map (branch_to d) rest)) ≡ flat_map (entries_of d) (map (λ c. c.1) rest)
kids_under pages deeper d [] one h = refl
kids_under pages deeper d (c ∷ rest) one h =
    let first = one c.1 (each_left _ (nodes_of d c.1) _ h) in
    let others = kids_under pages deeper d rest one (each_right _ (nodes_of d c.1) _ h) in
    λ i. first i ++ others i

tree_under : (pages : PageMap) (levels d : ℕ) (t : Tree d) → d < levels → Holds pages (nodes_of d t) → entries_under levels pages (page_of d t) ≡ entries_of d t
unfolding entries_under
tree_under pages zero d t less h = absurd (omega (arith, less))
tree_under pages (suc levels) zero t less h =
    ap (entries_in (entries_under levels pages)) h.0.there ∙ leaf_here (entries_under levels pages) h.0.bytes h.0.kind t.next t.entries h.0.sound h.0.shows
tree_under pages (suc levels) (suc d) t less h =
    let under = tree_under pages levels d in
    let first = under t.first (omega (arith, less)) (each_left _ (nodes_of d t.first) _ h.1) in
    let others = kids_under pages (entries_under levels pages) d t.rest (λ u g. under u (omega (arith, less)) g) (each_right _ (nodes_of d t.first) _ h.1) in
    ap (entries_in (entries_under levels pages)) h.0.there
    ∙ inner_here (entries_under levels pages) h.0.bytes h.0.kind (page_of d t.first) (map (branch_to d) t.rest) h.0.sound h.0.shows
    ∙ (λ i. first i ++ others i)

pub tree_back : (pages : PageMap) (root : ℕ) (owned : List ℕ) (entries : List Entry) → ((n : ℕ) → IsSome (pages n) → (0 < n) × (n < 65536)) → IsTree pages root owned entries → entries_at pages root ≡ entries
tree_back pages zero owned entries bounded tree = sym tree.1
tree_back pages (suc r) owned entries bounded tree =
    let few = few_levels pages tree.depth tree.tree bounded tree.holds (subst Apart (sym tree.owns) tree.apart) in
    ap (λ b. cond b [] (entries_under 16 pages (suc r))) (ne_eqb (suc r) 0 (λ e. omega (arith, e)))
    ∙ ap (entries_under 16 pages) (sym tree.at) ∙ tree_under pages 16 tree.depth tree.tree (omega (arith, few)) tree.holds ∙ tree.shows
