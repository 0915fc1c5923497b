-- The tree under a page is one.
use Rattle.std.proofs.Common.{◌≡◌, ℕ, zero, suc, List, [], ◌∷◌, ◌++◌, map, refl, sym, ap, ◌∙◌, subst}
use Rattle.std.specs.List.{flat_map}
use Rattle.page_space.specs.Space.{PageMap}
use Rattle.btree_read.specs.declared.entry.Entry.{Entry}
use Rattle.btree_read.specs.declared.entry.Branch.{Branch}
use Rattle.btree_read.specs.Nodes.{Key, Node, LeafNode, InnerNode, HasNode}
use Rattle.btree_read.specs.Tree.{Tree, page_of, branch_to, kids, entries_of, nodes_of, Holds, IsTree}
use Rattle.btree_read.proofs.ListLemmas.{each_left, each_right}
use Rattle.btree_read.proofs.NodeLemmas.{one_node}

child_pages : (d : ℕ) (rest : List (Key × Tree d)) → map (λ (b : Branch). b.child) (map (branch_to d) rest) ≡ map (page_of d) (map (λ (c : Key × Tree d). c.1) rest)
child_pages d [] = refl
child_pages d (c ∷ rest) = ap (λ pages. page_of d c.1 ∷ pages) (child_pages d rest)

-- children at the same pages
kids_same : (pages : PageMap) (d e : ℕ)
    → ((t : Tree d) (u : Tree e) → Holds pages (nodes_of d t) → Holds pages (nodes_of e u) → page_of d t ≡ page_of e u → entries_of d t ≡ entries_of e u)
    → (ts : List (Tree d)) (us : List (Tree e)) → Holds pages (flat_map (nodes_of d) ts) → Holds pages (flat_map (nodes_of e) us) → map (page_of d) ts ≡ map (page_of e) us
    → flat_map (entries_of d) ts ≡ flat_map (entries_of e) us
kids_same pages d e one [] [] h g at = refl
kids_same pages d e one [] (u ∷ us) h g at = absurd (cc)
kids_same pages d e one (t ∷ ts) [] h g at = absurd (cc)
kids_same pages d e one (t ∷ ts) (u ∷ us) h g at =
    let first : page_of d t ≡ page_of e u = cc in
    let others : map (page_of d) ts ≡ map (page_of e) us = cc in
    let here : entries_of d t ≡ entries_of e u = one t u
    (each_left (λ n. HasNode pages n.0 n.1) (nodes_of d t) (flat_map (nodes_of d) ts) h) (each_left (λ n. HasNode pages n.0 n.1) (nodes_of e u) (flat_map (nodes_of e) us) g) first in
    let there : flat_map (entries_of d) ts ≡ flat_map (entries_of e) us = kids_same pages d e one ts us
    (each_right (λ n. HasNode pages n.0 n.1) (nodes_of d t) (flat_map (nodes_of d) ts) h) (each_right (λ n. HasNode pages n.0 n.1) (nodes_of e u) (flat_map (nodes_of e) us) g) others in
    ap (λ es. es ++ flat_map (entries_of d) ts) here ∙ ap (λ es. entries_of e u ++ es) there

node_at : (pages : PageMap) (p q : ℕ) (a b : Node) → HasNode pages p a → HasNode pages q b → p ≡ q → a ≡ b
node_at pages p q a b h g at = one_node pages q a b (subst (λ (n : ℕ). HasNode pages n a) at h) g

leaf_same : (m n : ℕ) (xs ys : List Entry) → LeafNode m xs ≡ LeafNode n ys → xs ≡ ys
leaf_same m n xs ys e = cc

-- trees at one page have the same entries
tree_same : (pages : PageMap) (d e : ℕ) (t : Tree d) (u : Tree e) → Holds pages (nodes_of d t) → Holds pages (nodes_of e u) → page_of d t ≡ page_of e u → entries_of d t ≡ entries_of e u
tree_same pages zero zero t u h g at = leaf_same t.next u.next t.entries u.entries (node_at pages t.page u.page _ _ h.0 g.0 at)
tree_same pages zero (suc e) t u h g at = let bad = node_at pages t.page u.page (LeafNode t.next t.entries) (InnerNode (page_of e u.first) (map (branch_to e) u.rest)) h.0 g.0 at in absurd (cc)
tree_same pages (suc d) zero t u h g at = let bad = node_at pages t.page u.page (InnerNode (page_of d t.first) (map (branch_to d) t.rest)) (LeafNode u.next u.entries) h.0 g.0 at in absurd (cc)
tree_same pages (suc d) (suc e) t u h g at =
    let node = node_at pages t.page u.page (InnerNode (page_of d t.first) (map (branch_to d) t.rest)) (InnerNode (page_of e u.first) (map (branch_to e) u.rest)) h.0 g.0 at in
    let first : page_of d t.first ≡ page_of e u.first = cc in
    let others : map (branch_to d) t.rest ≡ map (branch_to e) u.rest = cc in
    let behind : map (page_of d) (map (λ (c : Key × Tree d). c.1) t.rest) ≡ map (page_of e) (map (λ (c : Key × Tree e). c.1) u.rest) =
    sym (child_pages d t.rest) ∙ ap (map (λ (b : Branch). b.child)) others ∙ child_pages e u.rest in
    kids_same pages d e (tree_same pages d e) (kids t.first t.rest) (kids u.first u.rest) h.1 g.1
    (ap (λ page. page ∷ map (page_of d) (map (λ (c : Key × Tree d). c.1) t.rest)) first ∙ ap (λ ps. page_of e u.first ∷ ps) behind)

pub one_tree : (pages : PageMap) (root : ℕ) (owned also : List ℕ) (entries others : List Entry) → IsTree pages root owned entries → IsTree pages root also others → entries ≡ others
one_tree pages zero owned also entries others t u = t.1 ∙ sym u.1
one_tree pages (suc r) owned also entries others t u = sym t.shows ∙ tree_same pages t.depth u.depth t.tree u.tree t.holds u.holds (t.at ∙ sym u.at) ∙ u.shows
