-- A tree dropped page by page, over plain variables.
use Rattle.std.proofs.Common.{◌≡◌, ◌≢◌, ℕ, zero, suc, ◌+◌, ◌<◌, ◌≤◌, List, [], ◌∷◌, ◌++◌, map, length, ◌⊎◌, inl, inr, refl, sym, ap, ◌∙◌, subst, Bool, true, false, nat_eq, Option, None, IsSome, Result, Ok, Err, OnOk, arith, append_assoc, add-one}
use Rattle.std.specs.Prelude.{⊤}
use Rattle.std.specs.List.{flat_map}
use Rattle.std.proofs.lemmas.List.{append-nil as append_nil}
use Rattle.std.proofs.lemmas.Bool.{eqb-true, eqb-false}
use Rattle.page_space.specs.declared.error.SpaceError.{SpaceError}
use Rattle.page_space.specs.Space.{PageMap}
use Rattle.sqlrecord.specs.declared.kind.PageKind.TheVariants.{Leaf, Inner}
use Rattle.sqlrecord.specs.Page.{PageView}
use Rattle.btree_read.specs.declared.entry.Entry.{Entry}
use Rattle.btree_read.specs.Lists.{Has, Apart}
use Rattle.btree_read.specs.Nodes.{Key, Node, LeafNode, InnerNode, HasNode, entry_of, branch_of}
use Rattle.btree_read.specs.Leaves.{AreLinked}
use Rattle.btree_read.specs.Tree.{Tree, page_of, branch_to, kids, nodes_of, entries_of, pages_in, IsTree}
use Rattle.btree_read.specs.Search.{Sees, IsUnder, IsNoTree, HasNoTree, child_at}
use Rattle.btree_read.proofs.Kids.{kid_at, low_at, high_at}
use Rattle.btree_read.proofs.ListLemmas.{has_left, has_right, has_either, apart_parts}
use Rattle.btree_read.proofs.NodeLemmas.{node_is_used}
use Rattle.btree_read.proofs.PageLemmas.{holds_kept, pages_append, pages_middle}
use Rattle.btree_read.proofs.CountLemmas.{few_levels}
use Rattle.btree_read.proofs.SearchLemmas.{sees_leaf, sees_inner, leaf_shown, inner_shown, child_found, under_root, no_node_no_tree}
use Rattle.btree.specs.Overfull.{IsNoTreeIn}
use Rattle.btree_remove.specs.Dropped.{AreDropped, DropsBelow, Drops, DropsLinked, HasNoTreeIn}

-- ---- the nodes of the first children

abbrev pub done : (d : ℕ) → Tree d → List (Key × Tree d) → ℕ → List (ℕ × Node)
done d first rest zero = []
done d first [] (suc n) = nodes_of d first
done d first (c ∷ rest) (suc n) = nodes_of d first ++ done d c.1 rest n

record IsNext (d : ℕ) (first : Tree d) (rest : List (Key × Tree d)) (at : ℕ) : Type 0 where
  pub after : List (ℕ × Node)
  pub all : flat_map (nodes_of d) (kids first rest) ≡ done d first rest at ++ (nodes_of d (kid_at first rest at) ++ after)
  pub next : done d first rest (suc at) ≡ done d first rest at ++ nodes_of d (kid_at first rest at)

next_child : (d : ℕ) (first : Tree d) (rest : List (Key × Tree d)) (at : ℕ) → at ≤ length rest → IsNext d first rest at
next_child d first [] zero l = record { after = []; all = refl; next = refl }
next_child d first [] (suc at) l = absurd (omega arith)
next_child d first (c ∷ rest) zero l = record { after = flat_map (nodes_of d) (kids c.1 rest); all = refl; next = append_nil (nodes_of d first) }
next_child d first (c ∷ rest) (suc at) l =
    let w = next_child d c.1 rest at (omega arith) in
    record {
      after = w.after;
      all = ap (λ xs. nodes_of d first ++ xs) w.all ∙ sym (append_assoc (nodes_of d first) (done d c.1 rest at) (nodes_of d (kid_at c.1 rest at) ++ w.after));
      next = ap (λ xs. nodes_of d first ++ xs) w.next ∙ sym (append_assoc (nodes_of d first) (done d c.1 rest at) (nodes_of d (kid_at c.1 rest at)));
    }

done_all : (d : ℕ) (first : Tree d) (rest : List (Key × Tree d)) → done d first rest (suc (length rest)) ≡ flat_map (nodes_of d) (kids first rest)
done_all d first [] = sym (append_nil (nodes_of d first))
done_all d first (c ∷ rest) = ap (λ xs. nodes_of d first ++ xs) (done_all d c.1 rest)

-- ---- pages dropped

drop_none : (old mid : PageMap) → mid ≡ old → AreDropped old mid []
drop_none old mid e = record { gone = λ n h. absurd h; others = λ n h. ap (λ f. f n) e }

drop_both : (old mid new : PageMap) (xs ys : List ℕ) → AreDropped old mid xs → AreDropped mid new ys → ((n : ℕ) → Has n xs → Has n ys → ⊥) → AreDropped old new (xs ++ ys)
drop_both old mid new xs ys a b none = record {
  gone = λ n h. by n (has_either n xs ys h);
  others = λ n h. b.others n (λ k. h (has_right n xs ys k)) ∙ a.others n (λ k. h (has_left n xs ys k));
}
  where
    by : (n : ℕ) → Has n xs ⊎ Has n ys → new n ≡ None
    by n (inl h) = b.others n (λ k. none n h k) ∙ a.gone n h
    by n (inr h) = b.gone n h

drop_page : (old mid new : PageMap) (page : ℕ) (xs : List ℕ) → AreDropped old mid xs → new page ≡ None → ((n : ℕ) → n ≢ page → new n ≡ mid n) → AreDropped old new (page ∷ xs)
drop_page old mid new page xs a e f = record {
  gone = λ n h. by n (nat_eq n page) refl h;
  others = λ n h. f n (λ g. h (inl g)) ∙ a.others n (λ g. h (inr g));
}
  where
    by : (n : ℕ) (p : Bool) → p ≡ nat_eq n page → (n ≡ page) ⊎ Has n xs → new n ≡ None
    by n true g h = ap new (eqb-true n page (sym g)) ∙ e
    by n false g (inl h) = ap new h ∙ e
    by n false g (inr h) = f n (eqb-false n page (sym g)) ∙ a.gone n h

-- ---- what a page shows

pub no_leaf : (pages : PageMap) (page : ℕ) (view : PageView) (t : Tree zero) (lo : Key) (hi : Option Key) → Sees pages page view → view.kind ≡ Inner → IsUnder pages page zero t lo hi → ⊥
no_leaf pages page view t lo hi s k u =
    let e : InnerNode view.link (map branch_of view.cells) ≡ LeafNode t.next t.entries = sym (inner_shown pages page view k) ∙ sees_leaf pages page view t lo hi s u in cc

no_inner : (pages : PageMap) (page : ℕ) (view : PageView) (d : ℕ) (t : Tree (suc d)) (lo : Key) (hi : Option Key) → Sees pages page view → view.kind ≡ Leaf → IsUnder pages page (suc d) t lo hi → ⊥
no_inner pages page view d t lo hi s k u =
    let e : LeafNode view.link (map entry_of view.cells) ≡ InnerNode (page_of d t.first) (map (branch_to d) t.rest) =
    sym (leaf_shown pages page view k) ∙ sees_inner pages page view d t lo hi s u in cc

pub in_use : (pages : PageMap) (page : ℕ) (d : ℕ) (t : Tree d) (lo : Key) (hi : Option Key) → IsUnder pages page d t lo hi → IsSome (pages page)
in_use pages page zero t lo hi u = subst (λ n. IsSome (pages n)) u.at (node_is_used pages t.page _ u.holds.0)
in_use pages page (suc d) t lo hi u = subst (λ n. IsSome (pages n)) u.at (node_is_used pages t.page _ u.holds.0)

same_length : (d : ℕ) (cells : List (List ℕ)) (rest : List (Key × Tree d)) → map branch_of cells ≡ map (branch_to d) rest → length cells ≡ length rest
same_length d [] [] e = refl
same_length d [] (c ∷ rest) e = cc
same_length d (x ∷ cells) [] e = cc
same_length d (x ∷ cells) (c ∷ rest) e = let f : map branch_of cells ≡ map (branch_to d) rest = cc in ap suc (same_length d cells rest f)

as_many : (pages : PageMap) (page : ℕ) (view : PageView) (d : ℕ) (t : Tree (suc d)) (lo : Key) (hi : Option Key) → Sees pages page view → view.kind ≡ Inner → IsUnder pages page (suc d) t lo hi
    → length view.cells ≡ length t.rest
as_many pages page view d t lo hi s k u =
    let e : InnerNode view.link (map branch_of view.cells) ≡ InnerNode (page_of d t.first) (map (branch_to d) t.rest) =
    sym (inner_shown pages page view k) ∙ sees_inner pages page view d t lo hi s u in
    let eb : map branch_of view.cells ≡ map (branch_to d) t.rest = cc in same_length d view.cells t.rest eb

-- ---- a leaf

pub dropped_leaf : (old mid new : PageMap) (page : ℕ) (view : PageView) (result : Result ⊤ SpaceError) → mid ≡ old → Sees old page view → view.kind ≡ Leaf
    → OnOk result (new page ≡ None) → ((n : ℕ) → n ≢ page → new n ≡ mid n) → DropsBelow old new page result
dropped_leaf old mid new page view (Err f) m s k e g d t lo hi u = tt
dropped_leaf old mid new page view (Ok x) m s k e g zero t lo hi u =
    subst (λ n. AreDropped old new (n ∷ [])) (sym u.at) (drop_page old mid new page [] (drop_none old mid m) e g)
dropped_leaf old mid new page view (Ok x) m s k e g (suc d) t lo hi u = absurd (no_inner old page view d t lo hi s k u)

pub leaf_not_freed : (old mid : PageMap) (page levels : ℕ) (W0 W1 : Type 0) → mid ≡ old → (W0 → W1) → (W1 → IsSome (mid page) → ⊥) → HasNoTreeIn old page levels W0
leaf_not_freed old mid page levels W0 W1 m g f d t lo hi l u w = f (g w) (subst (λ p. IsSome (p page)) (sym m) (in_use old page d t lo hi u))

-- ---- the children of an inner page

abbrev pub StaysDropped : PageMap → PageMap → ℕ → ℕ → Type 0
StaysDropped old mid page n = (d : ℕ) (t : Tree (suc d)) (lo : Key) (hi : Option Key) → IsUnder old page (suc d) t lo hi → AreDropped old mid (pages_in (done d t.first t.rest n))

pub none_dropped : (old mid : PageMap) (page : ℕ) → mid ≡ old → StaysDropped old mid page 0
none_dropped old mid page m d t lo hi u = drop_none old mid m

module _ (old mid : PageMap) (page : ℕ) (view : PageView) (at child : ℕ) (sees : Sees old page view) (kind : view.kind ≡ Inner) (within : at ≤ length view.cells)
    (leads : child ≡ child_at view.link (map branch_of view.cells) at) (stays : StaysDropped old mid page at) where
  next_of : (d : ℕ) (t : Tree (suc d)) (lo : Key) (hi : Option Key) → IsUnder old page (suc d) t lo hi → IsNext d t.first t.rest at
  next_of d t lo hi u = let m = as_many old page view d t lo hi sees kind u in next_child d t.first t.rest at (omega (arith, m, within))

  apart_of : (d : ℕ) (t : Tree (suc d)) (lo : Key) (hi : Option Key) (u : IsUnder old page (suc d) t lo hi) (w : IsNext d t.first t.rest at)
      → (n : ℕ) → Has n (pages_in (done d t.first t.rest at)) → Has n (pages_in (nodes_of d (kid_at t.first t.rest at))) → ⊥
  apart_of d t lo hi u w n a k =
      let kid : List (ℕ × Node) = nodes_of d (kid_at t.first t.rest at) in
      let parts = apart_parts (pages_in (done d t.first t.rest at)) (pages_in kid ++ pages_in w.after)
      (subst Apart (pages_middle (done d t.first t.rest at) kid w.after) (subst (λ ns. Apart (pages_in ns)) w.all u.apart.1)) in
      parts.none n a (has_left n (pages_in kid) (pages_in w.after) k)

  -- the next child still lies there
  child_left : (d : ℕ) (t : Tree (suc d)) (lo : Key) (hi : Option Key) → IsUnder old page (suc d) t lo hi
      → IsUnder mid child d (kid_at t.first t.rest at) (low_at lo t.rest at) (high_at hi t.rest at)
  child_left d t lo hi u =
      let c = child_found old page view child d t lo hi at sees kind leads u in
      let w = next_of d t lo hi u in
      record {
        at = c.at;
        holds = holds_kept old mid (nodes_of d (kid_at t.first t.rest at)) c.holds (λ n g. (stays d t lo hi u).others n (λ a. apart_of d t lo hi u w n a g));
        apart = c.apart;
        order = c.order;
      }

  pub one_more_dropped : (new : PageMap) → DropsBelow mid new child (Ok tt) → StaysDropped old new page (suc at)
  one_more_dropped new f d t lo hi u =
      let w = next_of d t lo hi u in
      let kid : List (ℕ × Node) = nodes_of d (kid_at t.first t.rest at) in
      let both = drop_both old mid new (pages_in (done d t.first t.rest at)) (pages_in kid) (stays d t lo hi u) (f d (kid_at t.first t.rest at) _ _ (child_left d t lo hi u)) (apart_of d t lo hi u w) in
      subst (λ ns. AreDropped old new (pages_in ns)) (sym w.next) (subst (AreDropped old new) (sym (pages_append (done d t.first t.rest at) kid)) both)

  pub child_not_dropped : (levels less : ℕ) (W0 W1 : Type 0) → levels ≤ less + 1 → (W0 → W1) → HasNoTreeIn mid child less W1 → HasNoTreeIn old page levels W0
  child_not_dropped levels less W0 W1 o g f zero t lo hi l u w = no_leaf old page view t lo hi sees kind u
  child_not_dropped levels less W0 W1 o g f (suc d) t lo hi l u w = f d (kid_at t.first t.rest at) _ _ (omega arith) (child_left d t lo hi u) (g w)

pub one_more : (old new : PageMap) (page at : ℕ) → StaysDropped old new page (suc at) → StaysDropped old new page (at + 1)
one_more old new page at f = subst (StaysDropped old new page) (sym (add-one at)) f

pub after_last : (old new : PageMap) (page at : ℕ) → StaysDropped old new page (at + 1) → StaysDropped old new page (suc at)
after_last old new page at f = subst (StaysDropped old new page) (add-one at) f

-- ---- the page itself

module _ (old mid : PageMap) (page : ℕ) (view : PageView) (n : ℕ) (sees : Sees old page view) (kind : view.kind ≡ Inner) (all : n ≡ length view.cells) (stays : StaysDropped old mid page (suc n)) where
  all_dropped : (d : ℕ) (t : Tree (suc d)) (lo : Key) (hi : Option Key) → IsUnder old page (suc d) t lo hi → AreDropped old mid (pages_in (flat_map (nodes_of d) (kids t.first t.rest)))
  all_dropped d t lo hi u =
      let m = as_many old page view d t lo hi sees kind u in
      subst (λ ns. AreDropped old mid (pages_in ns)) (ap (λ k. done d t.first t.rest (suc k)) (all ∙ m) ∙ done_all d t.first t.rest) (stays d t lo hi u)

  pub dropped_inner : (new : PageMap) (result : Result ⊤ SpaceError) → OnOk result (new page ≡ None) → ((n : ℕ) → n ≢ page → new n ≡ mid n) → DropsBelow old new page result
  dropped_inner new (Err f) e g d t lo hi u = tt
  dropped_inner new (Ok x) e g zero t lo hi u = absurd (no_leaf old page view t lo hi sees kind u)
  dropped_inner new (Ok x) e g (suc d) t lo hi u =
      subst (λ p. AreDropped old new (p ∷ pages_in (flat_map (nodes_of d) (kids t.first t.rest)))) (sym u.at) (drop_page old mid new page (pages_in (flat_map (nodes_of d) (kids t.first t.rest))) (all_dropped d t lo hi u) e g)

  pub inner_not_freed : (levels : ℕ) (W0 W1 : Type 0) → (W0 → W1) → (W1 → IsSome (mid page) → ⊥) → HasNoTreeIn old page levels W0
  inner_not_freed levels W0 W1 g f zero t lo hi l u w = no_leaf old page view t lo hi sees kind u
  inner_not_freed levels W0 W1 g f (suc d) t lo hi l u w =
      let same : mid page ≡ old page = (all_dropped d t lo hi u).others page (λ h. u.apart.0 (subst (λ p. Has p (pages_in (flat_map (nodes_of d) (kids t.first t.rest)))) (sym u.at) h)) in
      f (g w) (rw same (in_use old page (suc d) t lo hi u))

-- ---- no tree

pub no_tree_in : (pages : PageMap) (page levels : ℕ) (W : Type 0) → HasNoTree pages page levels → HasNoTreeIn pages page levels W
no_tree_in pages page levels W f d t lo hi l u w = f d t lo hi l u

pub no_node_in : (pages : PageMap) (page levels : ℕ) (W : Type 0) → ((node : Node) → HasNode pages page node → ⊥) → HasNoTreeIn pages page levels W
no_node_in pages page levels W f = no_tree_in pages page levels W (no_node_no_tree pages page levels f)

-- ---- at the root

pub dropped_root : (old new : PageMap) (root : ℕ) (result : Result ⊤ SpaceError) → (root ≡ 0 → ⊥) → DropsBelow old new root result → Drops old new root result
dropped_root old new zero result nz f owned entries w = absurd (nz refl)
dropped_root old new (suc r) result nz f owned entries w =
    subst (λ ps. OnOk result (AreDropped old new ps)) w.owns (f w.depth w.tree [] None (under_root old (suc r) owned entries w))

pub dropped_nothing : (old : PageMap) (root : ℕ) → root ≡ 0 → (owned : List ℕ) (entries : List Entry) → IsTree old root owned entries → AreDropped old old owned
dropped_nothing old zero e owned entries w = subst (AreDropped old old) (sym w.0) (drop_none old old refl)
dropped_nothing old (suc r) e owned entries w = absurd (omega arith)

pub root_not_dropped : (pages : PageMap) (root : ℕ) (W : Type 0) → ((n : ℕ) → IsSome (pages n) → (0 < n) × (n < 65536)) → (root ≡ 0 → ⊥) → HasNoTreeIn pages root 15 W → IsNoTreeIn pages root W
root_not_dropped pages zero W b nz f owned entries w wh = nz refl
root_not_dropped pages (suc r) W b nz f owned entries w wh =
    f w.depth w.tree [] None (few_levels pages w.depth w.tree b w.holds (subst Apart (sym w.owns) w.apart)) (under_root pages (suc r) owned entries w) wh

-- ---- read before it is dropped

pub dropped_again : (old seen new : PageMap) (root : ℕ) (result : Result ⊤ SpaceError) → seen ≡ old → (root ≡ 0 → ⊥) → DropsBelow seen new root result → Drops old new root result
dropped_again old seen new root result same nz f =
    dropped_root old new root result nz (subst (λ (p : PageMap). DropsBelow p new root result) same f)

pub linked_first : (pages : PageMap) (root : ℕ) (entries : List Entry) (result : Result ⊤ SpaceError)
    → ((d : ℕ) (t : Tree d) → IsUnder pages root d t [] None → (entries ≡ entries_of d t) × AreLinked d t) → DropsLinked pages root result
linked_first pages root entries (Ok u) f d t nz w = (f d t w).1
linked_first pages root entries (Err e) f d t nz w = tt

pub whole_first : (result : Result ⊤ SpaceError) (A B C : Type 0) → (A → B) → OnOk result (B → C) → OnOk result (A → C)
whole_first (Ok u) A B C f g = λ a. g (f a)
whole_first (Err e) A B C f g = tt

pub no_tree_seen : (old seen : PageMap) (root : ℕ) (W V : Type 0) → seen ≡ old → (W → V) → ((n : ℕ) → IsSome (old n) → (0 < n) × (n < 65536)) → (root ≡ 0 → ⊥)
    → HasNoTreeIn seen root 15 V → IsNoTreeIn old root W
no_tree_seen old seen root W V same f b nz none =
    root_not_dropped old root W b nz (λ d t lo hi few under w. none d t lo hi few (subst (λ (p : PageMap). IsUnder p root d t lo hi) (sym same) under) (f w))

pub no_tree_either : (pages : PageMap) (root : ℕ) (W : Type 0) → IsNoTree pages root → IsNoTreeIn pages root W
no_tree_either pages root W none owned entries w whole = none owned entries w
