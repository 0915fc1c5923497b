-- No page is lost: of pages in a list of nodes in which a part is exchanged, and of a tree that is
-- one.
use Rattle.std.proofs.Common.{◌≡◌, ℕ, zero, suc, List, [], ◌∷◌, ◌++◌, map, ◌⊎◌, inl, inr, refl, sym, ap, ◌∙◌, subst}
use Rattle.std.specs.List.{flat_map}
use Rattle.page_space.specs.Space.{PageMap}
use Rattle.btree_read.specs.declared.entry.Entry.{Entry}
use Rattle.btree_read.specs.declared.entry.Branch.{Branch}
use Rattle.btree_read.specs.Lists.{Has}
use Rattle.btree_read.specs.Nodes.{Key, Node, LeafNode, InnerNode, HasNode}
use Rattle.btree_read.specs.Tree.{Tree, page_of, branch_to, kids, nodes_of, pages_in, Holds, IsTree}
use Rattle.btree_read.proofs.ListLemmas.{each_left, each_right, has_left, has_right, has_either}
use Rattle.btree_read.proofs.NodeLemmas.{one_node}
use Rattle.btree_read.proofs.PageLemmas.{pages_middle}
use Rattle.btree.specs.Grow.{AreKept}

-- ---- a number more in a list

pub has_around : (n q : ℕ) (xs ys : List ℕ) → Has n (xs ++ ys) → Has n (xs ++ q ∷ ys)
has_around n q [] ys h = inr h
has_around n q (x ∷ xs) ys (inl e) = inl e
has_around n q (x ∷ xs) ys (inr h) = inr (has_around n q xs ys h)

pub has_there : (n q : ℕ) (xs ys : List ℕ) → n ≡ q → Has n (xs ++ q ∷ ys)
has_there n q [] ys e = inl e
has_there n q (x ∷ xs) ys e = inr (has_there n q xs ys e)

-- ---- a part of the pages exchanged

still_middle : (n : ℕ) (B X A N : List ℕ) → (Has n X → Has n N) → Has n (B ++ (X ++ A)) → Has n (B ++ (N ++ A))
still_middle n B X A N f h = outer (has_either n B (X ++ A) h)
  where
    inner : Has n X ⊎ Has n A → Has n (N ++ A)
    inner (inl g) = has_left n N A (f g)
    inner (inr g) = has_right n N A g

    outer : Has n B ⊎ Has n (X ++ A) → Has n (B ++ (N ++ A))
    outer (inl g) = has_left n B (N ++ A) g
    outer (inr g) = has_right n B (N ++ A) (inner (has_either n X A g))

pub kept_middle : (old mid : PageMap) (b x a new : List (ℕ × Node)) → AreKept old mid (pages_in x) (pages_in new) → AreKept old mid (pages_in (b ++ (x ++ a))) (pages_in (b ++ (new ++ a)))
kept_middle old mid b x a new k = record {
  still = λ n h. subst (Has n) (sym (pages_middle b new a)) (still_middle n (pages_in b) (pages_in x) (pages_in a) (pages_in new) (k.still n) (subst (Has n) (pages_middle b x a) h));
  rest = λ n h. k.rest n (λ g. h (subst (Has n) (sym (pages_middle b new a)) (has_right n (pages_in b) (pages_in new ++ pages_in a) (has_left n (pages_in new) (pages_in a) g))));
}

pub kept_none : (pages : PageMap) (owned : List ℕ) → AreKept pages pages owned owned
kept_none pages owned = record { still = λ n h. h; rest = λ n h. refl }

pub kept_on : (old mid new : PageMap) (a b c : List ℕ) → AreKept old mid a b → AreKept mid new b c → AreKept old new a c
kept_on old mid new a b c h g = record {
  still = λ n x. g.still n (h.still n x);
  rest = λ n x. g.rest n x ∙ h.rest n (λ y. x (g.still n y));
}

-- ---- the tree at a root is in one list of pages

child_pages : (d : ℕ) (rest : List (Key × Tree d)) → map (λ (b : Branch). b.child) (map (branch_to d) rest) ≡ map (page_of d) (map (λ (c : Key × Tree d). c.1) rest)
child_pages d [] = refl
child_pages d (c ∷ rest) = ap (λ pages. page_of d c.1 ∷ pages) (child_pages d rest)

kids_same : (pages : PageMap) (d e : ℕ)
    → ((t : Tree d) (u : Tree e) → Holds pages (nodes_of d t) → Holds pages (nodes_of e u) → page_of d t ≡ page_of e u → nodes_of d t ≡ nodes_of e u)
    → (ts : List (Tree d)) (us : List (Tree e)) → Holds pages (flat_map (nodes_of d) ts) → Holds pages (flat_map (nodes_of e) us) → map (page_of d) ts ≡ map (page_of e) us
    → flat_map (nodes_of d) ts ≡ flat_map (nodes_of e) us
kids_same pages d e one [] [] h g at = refl
kids_same pages d e one [] (u ∷ us) h g at = absurd (cc)
kids_same pages d e one (t ∷ ts) [] h g at = absurd (cc)
kids_same pages d e one (t ∷ ts) (u ∷ us) h g at =
    let first : page_of d t ≡ page_of e u = cc in
    let others : map (page_of d) ts ≡ map (page_of e) us = cc in
    let here : nodes_of d t ≡ nodes_of e u = one t u
    (each_left (λ n. HasNode pages n.0 n.1) (nodes_of d t) (flat_map (nodes_of d) ts) h) (each_left (λ n. HasNode pages n.0 n.1) (nodes_of e u) (flat_map (nodes_of e) us) g) first in
    let there : flat_map (nodes_of d) ts ≡ flat_map (nodes_of e) us = kids_same pages d e one ts us
    (each_right (λ n. HasNode pages n.0 n.1) (nodes_of d t) (flat_map (nodes_of d) ts) h) (each_right (λ n. HasNode pages n.0 n.1) (nodes_of e u) (flat_map (nodes_of e) us) g) others in
    ap (λ ns. ns ++ flat_map (nodes_of d) ts) here ∙ ap (λ ns. nodes_of e u ++ ns) there

node_at : (pages : PageMap) (p q : ℕ) (a b : Node) → HasNode pages p a → HasNode pages q b → p ≡ q → a ≡ b
node_at pages p q a b h g at = one_node pages q a b (subst (λ (n : ℕ). HasNode pages n a) at h) g

tree_same : (pages : PageMap) (d e : ℕ) (t : Tree d) (u : Tree e) → Holds pages (nodes_of d t) → Holds pages (nodes_of e u) → page_of d t ≡ page_of e u → nodes_of d t ≡ nodes_of e u
tree_same pages zero zero t u h g at =
    ap (λ (p : ℕ). (p, LeafNode t.next t.entries) ∷ []) at ∙ ap (λ (a : Node). (u.page, a) ∷ []) (node_at pages t.page u.page _ _ h.0 g.0 at)
tree_same pages zero (suc e) t u h g at = let bad = node_at pages t.page u.page (LeafNode t.next t.entries) (InnerNode (page_of e u.first) (map (branch_to e) u.rest)) h.0 g.0 at in absurd (cc)
tree_same pages (suc d) zero t u h g at = let bad = node_at pages t.page u.page (InnerNode (page_of d t.first) (map (branch_to d) t.rest)) (LeafNode u.next u.entries) h.0 g.0 at in absurd (cc)
tree_same pages (suc d) (suc e) t u h g at =
    let node = node_at pages t.page u.page (InnerNode (page_of d t.first) (map (branch_to d) t.rest)) (InnerNode (page_of e u.first) (map (branch_to e) u.rest)) h.0 g.0 at in
    let first : page_of d t.first ≡ page_of e u.first = cc in
    let others : map (branch_to d) t.rest ≡ map (branch_to e) u.rest = cc in
    let behind : map (page_of d) (map (λ (c : Key × Tree d). c.1) t.rest) ≡ map (page_of e) (map (λ (c : Key × Tree e). c.1) u.rest) =
    sym (child_pages d t.rest) ∙ ap (map (λ (b : Branch). b.child)) others ∙ child_pages e u.rest in
    let below : flat_map (nodes_of d) (kids t.first t.rest) ≡ flat_map (nodes_of e) (kids u.first u.rest) =
    kids_same pages d e (tree_same pages d e) (kids t.first t.rest) (kids u.first u.rest) h.1 g.1
    (ap (λ page. page ∷ map (page_of d) (map (λ (c : Key × Tree d). c.1) t.rest)) first ∙ ap (λ ps. page_of e u.first ∷ ps) behind) in
    ap (λ (p : ℕ). (p, InnerNode (page_of d t.first) (map (branch_to d) t.rest)) ∷ flat_map (nodes_of d) (kids t.first t.rest)) at
    ∙ ap (λ (a : Node). (u.page, a) ∷ flat_map (nodes_of d) (kids t.first t.rest)) node
    ∙ ap (λ ns. (u.page, InnerNode (page_of e u.first) (map (branch_to e) u.rest)) ∷ ns) below

pub one_owned : (pages : PageMap) (root : ℕ) (owned also : List ℕ) (entries others : List Entry) → IsTree pages root owned entries → IsTree pages root also others → owned ≡ also
one_owned pages zero owned also entries others t u = t.0 ∙ sym u.0
one_owned pages (suc r) owned also entries others t u = sym t.owns ∙ ap pages_in (tree_same pages t.depth u.depth t.tree u.tree t.holds u.holds (t.at ∙ sym u.at)) ∙ u.owns
