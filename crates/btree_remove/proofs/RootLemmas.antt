-- Removal at the root, over plain variables.
use Rattle.std.proofs.Common.{◌≡◌, ℕ, zero, suc, ◌<◌, List, [], ◌∷◌, ◌++◌, map, ◌⊎◌, inl, inr, refl, sym, ap, ◌∙◌, subst, Option, Some, None, IsSome, Result, Ok, arith}
use Rattle.std.proofs.lemmas.List.{append-nil as append_nil}
use Rattle.page_space.specs.declared.error.SpaceError.{SpaceError}
use Rattle.page_space.specs.Space.{PageMap, IsFresh}
use Rattle.btree_read.specs.declared.entry.Entry.{Entry}
use Rattle.btree_read.specs.declared.entry.Branch.{Branch}
use Rattle.btree_read.specs.Lists.{Has, Apart, Leads}
use Rattle.btree_read.specs.Nodes.{Key, Node, LeafNode, InnerNode, HasNode, IsStocked, IsSmallBranch, branch_of}
use Rattle.btree_read.specs.Sorted.{get_of}
use Rattle.btree_read.specs.Tree.{Tree, page_of, branch_to, entries_of, nodes_of, leaves_of, pages_in, Holds, Chain, Ordered, IsTree, IsTreeOf}
use Rattle.btree_read.proofs.NodeLemmas.{node_is_used}
use Rattle.btree_read.proofs.SearchLemmas.{under_root}
use Rattle.btree.specs.Grow.{flat_nodes, flat_leaves, SamePages}
use Rattle.btree_remove.specs.declared.outcome.Removed.{Removed}
use Rattle.btree_remove.specs.declared.outcome.Removed.TheVariants.{Absent, Done, Emptied, Lone}
use Rattle.btree_remove.specs.Removed.{AreExchanged, AreChanged, AreShrunk, AreOne, IsLess, IsTaken, IsEmptied, IsLone, TakesBelow, IsRootOver, IsRemoved, Outcome, flat_entries}
use Rattle.btree_remove.proofs.ExchangeLemmas.{exchange_beside, exchange_then, page_freed}
use Rattle.btree_remove.proofs.TopLemmas.{inner_of}

as_tree : (pages : PageMap) (root : ℕ) (owned : List ℕ) (entries : List Entry) → (root ≡ 0 → ⊥) → IsTreeOf pages root owned entries → IsTree pages root owned entries
as_tree pages zero owned entries nz w = absurd (nz refl)
as_tree pages (suc r) owned entries nz w = w

no_more : (d : ℕ) (more : List (Key × Tree d)) → map (branch_to d) more ≡ [] → more ≡ []
no_more d [] e = refl
no_more d (c ∷ more) e = cc

-- the tree that is at the root now
now_at : (old new : PageMap) (d : ℕ) (t : Tree d) (e : ℕ) (x : Tree e) (root : ℕ) (owned : List ℕ) (entries : List Entry) (k : Key) (leftmost : ℕ) → (root ≡ 0 → ⊥) → page_of e x ≡ root
    → pages_in (nodes_of d t) ≡ owned → entries_of d t ≡ entries → AreExchanged old new (nodes_of d t) (nodes_of e x) → Ordered e [] None x → Leads leftmost (leaves_of e x) 0
    → IsLess k (entries_of d t) (entries_of e x) → IsRemoved old new owned entries k root
now_at old new d t e x root owned entries k leftmost nz at owns shows p order links less = record {
  now_owned = pages_in (nodes_of e x);
  now_entries = entries_of e x;
  stored = as_tree new root (pages_in (nodes_of e x)) (entries_of e x) nz (record {
    depth = e;
    tree = x;
    at = at;
    holds = p.holds;
    apart = p.apart;
    owns = refl;
    order = order;
    leftmost = leftmost;
    links = links;
    shows = refl;
  });
  less = subst (λ es. IsLess k es (entries_of e x)) shows less;
  own = λ n h. subst (λ ps. Has n ps ⊎ (old n ≡ None)) owns (p.own n h);
  gone = λ n h. p.gone n (subst (Has n) (sym owns) h);
  others = λ n h. p.others n (λ g. h (subst (Has n) owns g));
}

-- the only leaf has lost its only entry
none_now : (old new : PageMap) (d : ℕ) (t : Tree d) (root : ℕ) (owned : List ℕ) (entries : List Entry) (k : Key) → page_of d t ≡ root → pages_in (nodes_of d t) ≡ owned → entries_of d t ≡ entries
    → IsEmptied d t k → new root ≡ None → SamePages old new (λ n. n ≡ root) → IsRemoved old new owned entries k 0
none_now old new (suc d) t root owned entries k at owns shows less freed same = absurd less
none_now old new zero t root owned entries k at owns shows less freed same =
    let p = page_freed old new t.page (LeafNode t.next t.entries) (subst (λ n. new n ≡ None) (sym at) freed) (subst (λ r. SamePages old new (λ n. n ≡ r)) (sym at) same) in
    record {
      now_owned = [];
      now_entries = [];
      stored = (refl, refl);
      less = subst (λ es. IsLess k es []) shows less;
      own = λ n h. absurd h;
      gone = λ n h. p.gone n (subst (Has n) (sym owns) h);
      others = λ n h. p.others n (λ g. h (subst (Has n) owns g));
    }

-- the root keeps but one child
one_now : (old mid new : PageMap) (d : ℕ) (t : Tree d) (root only : ℕ) (owned : List ℕ) (entries : List Entry) (k : Key) (leftmost : ℕ) → ((n : ℕ) → IsSome (new n) → (0 < n) × (n < 65536))
    → page_of d t ≡ root → pages_in (nodes_of d t) ≡ owned → entries_of d t ≡ entries → Holds old (nodes_of d t) → Apart (pages_in (nodes_of d t)) → Ordered d [] None t → Leads leftmost (leaves_of d t) 0
    → IsLone old mid d t k only → new root ≡ None → SamePages mid new (λ n. n ≡ root) → IsRemoved old new owned entries k only
one_now old mid new zero t root only owned entries k leftmost b at owns shows holds apart order links w freed same = absurd w
one_now old mid new (suc d) t root only owned entries k leftmost b at owns shows holds apart order links w freed same =
    let node : ℕ × Node = (t.page, inner_of d t.first t.rest) in
    let nil : nodes_of (suc d) t ≡ flat_nodes (suc d) t [] = sym (append_nil (nodes_of (suc d) t)) in
    let a = exchange_beside old mid (node ∷ []) (flat_nodes d t.first t.rest) (flat_nodes d w.tree []) [] (subst (Holds old) nil holds) (subst (λ ns. Apart (pages_in ns)) nil apart) w.changed.pages in
    let f = page_freed mid new t.page node.1 (subst (λ n. new n ≡ None) (sym at) freed) (subst (λ r. SamePages mid new (λ n. n ≡ r)) (sym at) same) in
    let p = exchange_then old mid new _ _ _ a (exchange_beside mid new [] (node ∷ []) [] (flat_nodes d w.tree [] ++ []) a.holds a.apart f) in
    let now : flat_nodes d w.tree [] ++ [] ≡ nodes_of d w.tree = append_nil (flat_nodes d w.tree []) ∙ append_nil (nodes_of d w.tree) in
    let q : AreExchanged old new (nodes_of (suc d) t) (nodes_of d w.tree) = subst (λ ns. AreExchanged old new ns (nodes_of d w.tree)) (sym nil) (subst (AreExchanged old new (flat_nodes (suc d) t [])) now p) in
    now_at old new (suc d) t d w.tree only owned entries k leftmost (λ e. nonzero d w.tree q.holds (w.at ∙ e)) w.at owns shows q (w.changed.order [] None order)
    (subst (λ ls. Leads leftmost ls 0) (append_nil (leaves_of d w.tree)) (w.changed.links leftmost 0 links))
    (subst (IsLess k (entries_of (suc d) t)) (append_nil (entries_of d w.tree)) w.changed.entries)
  where
    below_none : (n : ℕ) → n ≡ 0 → 0 < n → ⊥
    below_none n e h = omega (arith, e, h)

    nonzero : (e : ℕ) (x : Tree e) → Holds new (nodes_of e x) → page_of e x ≡ 0 → ⊥
    nonzero zero x h e = let u = b x.page (node_is_used new x.page _ h.0) in below_none x.page e u.0
    nonzero (suc d) x h e = let u = b x.page (node_is_used new x.page _ h.0) in below_none x.page e u.0

-- the root has one tree, or a new one has two
shrunk_now : (old new : PageMap) (d : ℕ) (t : Tree d) (root : ℕ) (owned : List ℕ) (entries : List Entry) (k : Key) (leftmost : ℕ) → (root ≡ 0 → ⊥)
    → page_of d t ≡ root → pages_in (nodes_of d t) ≡ owned → entries_of d t ≡ entries → Ordered d [] None t → Leads leftmost (leaves_of d t) 0
    → AreShrunk old new d t [] k None → IsRemoved old new owned entries k root
shrunk_now old new d t root owned entries k leftmost nz at owns shows order links w =
    let only : w.more ≡ [] = no_more d w.more w.told in
    let c : AreChanged old new d t [] w.tree [] k = subst (λ more. AreChanged old new d t [] w.tree more k) only w.changed in
    let p : AreExchanged old new (nodes_of d t) (nodes_of d w.tree) =
    subst (λ ns. AreExchanged old new ns (nodes_of d w.tree)) (append_nil (nodes_of d t)) (subst (AreExchanged old new (flat_nodes d t [])) (append_nil (nodes_of d w.tree)) c.pages) in
    now_at old new d t d w.tree root owned entries k leftmost nz (c.same ∙ at) owns shows p (c.order [] None order)
    (subst (λ ls. Leads leftmost ls 0) (append_nil (leaves_of d w.tree)) (c.links leftmost 0 (subst (λ ls. Leads leftmost ls 0) (sym (append_nil (leaves_of d t))) links)))
    (subst (λ es. IsLess k es (entries_of d w.tree)) (append_nil (entries_of d t)) (subst (IsLess k (flat_entries d t [])) (append_nil (entries_of d w.tree)) c.entries))

over_now : (old mid new : PageMap) (d : ℕ) (t : Tree d) (root r : ℕ) (b : Branch) (owned : List ℕ) (entries : List Entry) (k : Key) (leftmost : ℕ)
    → page_of d t ≡ root → pages_in (nodes_of d t) ≡ owned → entries_of d t ≡ entries → Ordered d [] None t → Leads leftmost (leaves_of d t) 0
    → AreShrunk old mid d t [] k (Some b) → IsRootOver mid new root b r → IsRemoved old new owned entries k r
over_now old mid new d t root r b owned entries k leftmost at owns shows order links w o =
    let F : List (ℕ × Node) = flat_nodes d w.tree w.more in
    let c = w.changed in
    let x : Tree (suc d) = record { page = r; first = w.tree; rest = w.more } in
    let first_node : HasNode new r (InnerNode (page_of d w.tree) (b ∷ [])) = subst (λ n. HasNode new r (InnerNode n (b ∷ []))) (sym (c.same ∙ at)) o.node in
    let node : HasNode new r (inner_of d w.tree w.more) = subst (λ bs. HasNode new r (InnerNode (page_of d w.tree) bs)) (sym w.told) first_node in
    let taken : AreExchanged mid new [] ((r, inner_of d w.tree w.more) ∷ []) = page_taken node in
    let p = exchange_then old mid new _ _ _ c.pages (exchange_beside mid new [] [] ((r, inner_of d w.tree w.more) ∷ []) F c.pages.holds c.pages.apart taken) in
    now_at old new d t (suc d) x r owned entries k leftmost (λ e. none r e o.some) refl owns shows
    (subst (λ ns. AreExchanged old new ns (nodes_of (suc d) x)) (append_nil (nodes_of d t)) p) (c.order [] None order)
    (c.links leftmost 0 (subst (λ ls. Leads leftmost ls 0) (sym (append_nil (leaves_of d t))) links))
    (subst (λ es. IsLess k es (flat_entries d w.tree w.more)) (append_nil (entries_of d t)) c.entries)
  where
    none : (n : ℕ) → n ≡ 0 → 0 < n → ⊥
    none n e h = omega (arith, e, h)

    alone : (n : ℕ) → (n ≡ r) ⊎ ⊥ → mid n ≡ None
    alone n (inl e) = ap mid e ∙ o.fresh
    alone n (inr h) = absurd h

    page_taken : {x : Node} → HasNode new r x → AreExchanged mid new [] ((r, x) ∷ [])
    page_taken h = record {
      holds = (h, tt);
      apart = (λ g. g, tt);
      own = λ n g. inr (alone n g);
      gone = λ n g i. absurd g;
      others = λ n g i. o.others n (λ e. i (inl e));
    }

-- a new root over two trees, written
pub is_root_over : (mid low new : PageMap) (first r : ℕ) (b : Branch) (cell : List ℕ) → IsFresh mid low r → SamePages mid low (λ n. n ≡ r)
    → (IsSome (low r) → IsStocked (InnerNode first (branch_of cell ∷ [])) → HasNode new r (InnerNode first (branch_of cell ∷ []))) → SamePages low new (λ n. n ≡ r)
    → branch_of cell ≡ b → IsSmallBranch b → IsRootOver mid new first b r
is_root_over mid low new first r b cell fresh keeps write same is small =
    let stocked : IsStocked (InnerNode first (b ∷ [])) = (λ e. cc, (small, tt)) in
    record {
      some = fresh.some;
      fresh = fresh.free;
      node = subst (λ y. IsSome (low r) → IsStocked (InnerNode first (y ∷ [])) → HasNode new r (InnerNode first (y ∷ []))) is write fresh.used stocked;
      others = λ n ne. same n ne ∙ keeps n ne;
    }

-- ---- by what is left below

pub root_zero : (old : PageMap) (root : ℕ) (k : Key) → root ≡ 0 → (owned : List ℕ) (entries : List Entry) → IsTree old root owned entries → (get_of k entries ≡ None) × (old ≡ old)
root_zero old zero k e owned entries w = (ap (get_of k) w.1, refl)
root_zero old (suc r) k e owned entries w = absurd (omega arith)

module _ (old mid : PageMap) (root : ℕ) (k : Key) (nz : root ≡ 0 → ⊥) (owned : List ℕ) (entries : List Entry) where
  pub root_absent : TakesBelow old mid root k (Ok Absent) → IsTree old root owned entries → Outcome old mid owned entries k None
  root_absent g w = by root nz g w
    where
      by : (root : ℕ) → (root ≡ 0 → ⊥) → TakesBelow old mid root k (Ok Absent) → IsTree old root owned entries → Outcome old mid owned entries k None
      by zero nz g w = absurd (nz refl)
      by (suc r) nz g w = let x = g w.depth w.tree [] None (under_root old (suc r) owned entries w) in (ap (get_of k) (sym w.shows) ∙ x.0, x.1)

  pub root_shrunk : TakesBelow old mid root k (Ok (Done None)) → IsTree old root owned entries → IsRemoved old mid owned entries k root
  root_shrunk g w = by root nz g w
    where
      by : (root : ℕ) → (root ≡ 0 → ⊥) → TakesBelow old mid root k (Ok (Done None)) → IsTree old root owned entries → IsRemoved old mid owned entries k root
      by zero nz g w = absurd (nz refl)
      by (suc r) nz g w =
          shrunk_now old mid w.depth w.tree (suc r) owned entries k w.leftmost nz w.at w.owns w.shows w.order w.links (g w.depth w.tree [] None (under_root old (suc r) owned entries w))

  pub root_over : (new : PageMap) (b : Branch) (r : ℕ) → TakesBelow old mid root k (Ok (Done (Some b))) → IsRootOver mid new root b r → IsTree old root owned entries → IsRemoved old new owned entries k r
  root_over new b r g o w = by root nz g o w
    where
      by : (root : ℕ) → (root ≡ 0 → ⊥) → TakesBelow old mid root k (Ok (Done (Some b))) → IsRootOver mid new root b r → IsTree old root owned entries → IsRemoved old new owned entries k r
      by zero nz g o w = absurd (nz refl)
      by (suc q) nz g o w =
          over_now old mid new w.depth w.tree (suc q) r b owned entries k w.leftmost w.at w.owns w.shows w.order w.links (g w.depth w.tree [] None (under_root old (suc q) owned entries w)) o

  pub root_emptied : (new : PageMap) → TakesBelow old mid root k (Ok Emptied) → new root ≡ None → SamePages mid new (λ n. n ≡ root) → IsTree old root owned entries → IsRemoved old new owned entries k 0
  root_emptied new g e f w = by root nz g e f w
    where
      by : (root : ℕ) → (root ≡ 0 → ⊥) → TakesBelow old mid root k (Ok Emptied) → new root ≡ None → SamePages mid new (λ n. n ≡ root) → IsTree old root owned entries
          → IsRemoved old new owned entries k 0
      by zero nz g e f w = absurd (nz refl)
      by (suc r) nz g e f w =
          let x = g w.depth w.tree [] None (under_root old (suc r) owned entries w) in
          none_now old new w.depth w.tree (suc r) owned entries k w.at w.owns w.shows x.0 e (subst (λ p. SamePages p new (λ n. n ≡ suc r)) x.1 f)

  pub root_lone : (new : PageMap) (only : ℕ) → ((n : ℕ) → IsSome (new n) → (0 < n) × (n < 65536)) → TakesBelow old mid root k (Ok (Lone only)) → new root ≡ None → SamePages mid new (λ n. n ≡ root)
      → IsTree old root owned entries → IsRemoved old new owned entries k only
  root_lone new only b g e f w = by root nz g e f w
    where
      by : (root : ℕ) → (root ≡ 0 → ⊥) → TakesBelow old mid root k (Ok (Lone only)) → new root ≡ None → SamePages mid new (λ n. n ≡ root) → IsTree old root owned entries
          → IsRemoved old new owned entries k only
      by zero nz g e f w = absurd (nz refl)
      by (suc r) nz g e f w =
          let u = under_root old (suc r) owned entries w in
          one_now old mid new w.depth w.tree (suc r) only owned entries k w.leftmost b w.at w.owns w.shows w.holds u.apart w.order w.links (g w.depth w.tree [] None u) e f
