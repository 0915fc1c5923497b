-- The keys of a tree rise.
use Rattle.std.proofs.Common.{◌≡◌, ℕ, zero, suc, List, [], ◌∷◌, ◌++◌, Option, Some, None, true, false, sym, subst}
use Rattle.std.specs.List.{AllByRecursion, flat_map}
use Rattle.std.proofs.lemmas.List.{append-nil}
use Rattle.page_space.specs.Space.{PageMap}
use Rattle.btree_read.specs.declared.entry.Entry.{Entry}
use Rattle.btree_read.specs.Nodes.{Key, precedes}
use Rattle.btree_read.specs.Sorted.{Ascends}
use Rattle.btree_read.specs.Tree.{Tree, kids, entries_of, Ordered, Chain, IsTree}
use Rattle.btree_read.proofs.ListLemmas.{each_append, each_map}
use Rattle.btree_read.proofs.OrderLemmas.{lt_le}
use Rattle.btree_read.proofs.ChainLemmas.{InBounds, within_chain, within_tree}

-- lists that a key divides, one behind the other
pub ascends_join : (s : Key) (xs ys : List Entry) → Ascends xs → Ascends ys → AllByRecursion (λ e. precedes e.key s ≡ true) xs → AllByRecursion (λ e. precedes e.key s ≡ false) ys → Ascends (xs ++ ys)
ascends_join s [] ys h g before behind = g
ascends_join s (x ∷ xs) ys h g before behind = (
  each_append (λ e. precedes x.key e.key ≡ true) xs ys h.0 (each_map (λ e. precedes e.key s ≡ false) (λ e. precedes x.key e.key ≡ true) ys (λ e low. lt_le x.key s e.key before.0 low) behind),
  ascends_join s xs ys h.1 g before.1 behind,
)

ascends_chain : {T : Type 0} (P : Key → Option Key → T → Type 0) (es : T → List Entry)
    → ((lo : Key) (hi : Option Key) (t : T) → P lo hi t → AllByRecursion (InBounds lo hi) (es t))
    → ((lo : Key) (hi : Option Key) (t : T) → P lo hi t → Ascends (es t))
    → (lo : Key) (hi : Option Key) (first : T) (rest : List (Key × T)) → Chain P lo hi first rest → Ascends (flat_map es (kids first rest))
ascends_chain P es within each lo hi first [] h = subst Ascends (sym (append-nil (es first))) (each lo hi first h)
ascends_chain P es within each lo hi first (c ∷ rest) h =
    ascends_join c.0 (es first) (flat_map es (kids c.1 rest)) (each lo (Some c.0) first h.1) (ascends_chain P es within each c.0 hi c.1 rest h.2)
    (each_map (InBounds lo (Some c.0)) (λ e. precedes e.key c.0 ≡ true) (es first) (λ e w. w.high) (within lo (Some c.0) first h.1))
    (each_map (InBounds c.0 hi) (λ e. precedes e.key c.0 ≡ false) (flat_map es (kids c.1 rest)) (λ e w. w.low) (within_chain P es within c.0 hi c.1 rest h.2))

pub tree_ascends : (d : ℕ) (lo : Key) (hi : Option Key) (t : Tree d) → Ordered d lo hi t → Ascends (entries_of d t)
tree_ascends zero lo hi t h = h.ascends
tree_ascends (suc d) lo hi t h = ascends_chain (Ordered d) (entries_of d) (within_tree d) (tree_ascends d) lo hi t.first t.rest h

pub root_ascends : (pages : PageMap) (root : ℕ) (owned : List ℕ) (entries : List Entry) → IsTree pages root owned entries → Ascends entries
root_ascends pages zero owned entries w = subst Ascends (sym w.1) tt
root_ascends pages (suc r) owned entries w = subst Ascends w.shows (tree_ascends w.depth [] None w.tree w.order)
