-- One step of a removal, over plain variables.
use Rattle.std.proofs.Common.{Bool, true, false, if◌then◌else◌, ◌≡◌, ◌≢◌, ℕ, zero, suc, ◌+◌, ◌<◌, ◌≤◌, List, [], ◌∷◌, ◌++◌, map, length, take, drop, ◌⊎◌, inl, inr, refl, sym, ap, ◌∙◌, subst, Option, Some, None, IsSome, Result, Ok, Err, IfOk, OnOk, arith}
use Rattle.std.specs.Option.{option_to_list}
use Rattle.std.proofs.lemmas.List.{append-nil as append_nil, take-append-drop}
use Rattle.page_space.specs.declared.error.SpaceError.{SpaceError}
use Rattle.page_space.specs.Space.{PageMap}
use Rattle.sqlrecord.specs.declared.kind.PageKind.TheVariants.{Leaf, Inner}
use Rattle.sqlrecord.specs.Page.{PageView}
use Rattle.btree_read.specs.declared.entry.Entry.{Entry}
use Rattle.btree_read.specs.declared.entry.Branch.{Branch}
use Rattle.btree_read.specs.Lists.{Has, Apart}
use Rattle.btree_read.specs.Nodes.{Key, precedes, Node, LeafNode, InnerNode, HasNode, IsStocked, entry_of, branch_of}
use Rattle.btree_read.specs.Sorted.{get_of}
use Rattle.btree_read.specs.Tree.{Tree, page_of, branch_to, entries_of, nodes_of, pages_in, Holds, Chain, Ordered}
use Rattle.btree_read.specs.Search.{Sees, IsUnder, route_of}
use Rattle.btree_read.proofs.Kids.{kid_at, put_first, put_rest}
use Rattle.btree_read.proofs.ChainLemmas.{way}
use Rattle.btree_read.proofs.NodeLemmas.{node_is_used, node_kept}
use Rattle.btree_read.proofs.PageLemmas.{rest_branches}
use Rattle.btree_read.proofs.SearchLemmas.{if_ok, sees_leaf, sees_inner, leaf_shown, inner_shown, child_found, way_taken, get_on_way}
use Rattle.btree.specs.Grow.{flat_nodes, SamePages, InnerWritten}
use Rattle.btree.specs.Overfull.{RisesBehind}
use Rattle.btree.proofs.WithLemmas.{chain_rises}
use Rattle.btree_remove.specs.declared.outcome.Removed.{Removed}
use Rattle.btree_remove.specs.declared.outcome.Removed.TheVariants.{Absent, Done, Emptied, Lone}
use Rattle.btree_remove.specs.Removed.{AreChanged, AreShrunk, IsLess, LeafLess, Rewritten, IsTaken, TakesBelow, IsLeftBelow, Settles, CannotSettle, kid}
use Rattle.btree_remove.proofs.ExchangeLemmas.{used_stays}
use Rattle.btree_remove.proofs.RunLemmas.{AreTwo, among, kid_is, one_first, one_rest, skip, two_branches}
use Rattle.btree_remove.proofs.TopLemmas.{parent_written, parent_kept}
use Rattle.btree_remove.proofs.LeafLemmas.{leaf_shrunk}
use Rattle.btree_remove.proofs.PairLemmas.{IsShownBy, shown_by}

-- ---- a leaf

pub taken_of_leaf : (old mid new : PageMap) (page : ℕ) (view : PageView) (k : Key) (result : Result Removed SpaceError) → mid ≡ old → Sees old page view → view.kind ≡ Leaf
    → (IsSome (mid page) → IsStocked (LeafNode view.link (map entry_of view.cells)) → IfOk result (LeafLess mid new page view.link (map entry_of view.cells) k))
    → TakesBelow old new page k result
taken_of_leaf old mid new page view k result m s kind h (suc d) t lo hi u =
    let e : LeafNode view.link (map entry_of view.cells) ≡ InnerNode (page_of d t.first) (map (branch_to d) t.rest) = sym (leaf_shown old page view kind) ∙ sees_inner old page view d t lo hi s u in cc
taken_of_leaf old mid new page view k result m s kind h zero t lo hi u =
    let e : LeafNode view.link (map entry_of view.cells) ≡ LeafNode t.next t.entries = sym (leaf_shown old page view kind) ∙ sees_leaf old page view t lo hi s u in
    let el : view.link ≡ t.next = cc in
    let ee : map entry_of view.cells ≡ t.entries = cc in
    let used : IsSome (old page) = subst (λ n. IsSome (old n)) u.at (node_is_used old t.page _ u.holds.0) in
    let g = h (subst (λ p. IsSome (p page)) (sym m) used) (subst IsStocked (sym e) u.holds.0.stocked) in
    if_ok (LeafLess mid new page view.link (map entry_of view.cells) k) (IsTaken old new zero t k) result
    (λ r w. by r (subst (λ p. LeafLess p new page t.next t.entries k r) m (subst (λ n. LeafLess mid new page n t.entries k r) el (subst (λ es. LeafLess mid new page view.link es k r) ee w)))) g
  where
    by : (r : Removed) → LeafLess old new page t.next t.entries k r → IsTaken old new zero t k r
    by Absent w = w
    by (Done None) w =
        leaf_shrunk old new t k w.0 w.1 (subst (λ n. HasNode new n (LeafNode t.next w.0)) (sym u.at) w.2) (subst (λ p. SamePages old new (λ n. n ≡ p)) (sym u.at) w.3)
    by (Done (Some b)) w = absurd w
    by Emptied w = w
    by (Lone only) w = absurd w

-- ---- the children of an inner page after the change of one or two of them

-- these are the children now, and the branches are those but for the ones from `at` up to `behind`
pub record AreLeft (old low : PageMap) (d : ℕ) (t : Tree (suc d)) (k : Key) (at behind : ℕ) (branch : Option Branch) : Type 0 where
  pub first : Tree d
  pub rest : List (Key × Tree d)
  pub changed : AreChanged old low d t.first t.rest first rest k
  pub told : map (branch_to d) rest ≡ take at (map (branch_to d) t.rest) ++ (option_to_list branch ++ drop behind (map (branch_to d) t.rest))
  pub within : behind ≤ length (map (branch_to d) t.rest)

among_all : (old low : PageMap) (d : ℕ) (first : Tree d) (rest : List (Key × Tree d)) (at : ℕ) (x : Tree d) (more : List (Key × Tree d)) (y : Tree d) (others : List (Key × Tree d)) (k : Key)
    (g : Tree d) (gs : List (Key × Tree d)) → put_first first rest at x ≡ g → put_rest rest at x more ≡ gs → Holds old (flat_nodes d g gs) → Apart (pages_in (flat_nodes d g gs))
    → AreChanged old low d x more y others k → AreChanged old low d g gs (put_first first rest at y) (put_rest rest at y others) k
among_all old low d first rest at x more y others k g gs e f holds apart c =
    let F : Tree d = put_first first rest at x in
    let R : List (Key × Tree d) = put_rest rest at x more in
    let Y : Tree d = put_first first rest at y in
    let O : List (Key × Tree d) = put_rest rest at y others in
    let h1 : Holds old (flat_nodes d F R) = subst (λ a. Holds old (flat_nodes d a R)) (sym e) (subst (λ b. Holds old (flat_nodes d g b)) (sym f) holds) in
    let h2 : Apart (pages_in (flat_nodes d F R)) = subst (λ a. Apart (pages_in (flat_nodes d a R))) (sym e) (subst (λ b. Apart (pages_in (flat_nodes d g b))) (sym f) apart) in
    let w = among old low d first rest at x more y others k h1 h2 c in
    subst (λ a. AreChanged old low d a gs Y O k) e (subst (λ b. AreChanged old low d F b Y O k) f w)

pub one_left : (old low : PageMap) (d : ℕ) (t : Tree (suc d)) (k : Key) (at : ℕ) (split : Option Branch) → at ≤ length (map (branch_to d) t.rest) → Holds old (nodes_of (suc d) t)
    → Apart (pages_in (nodes_of (suc d) t)) → AreShrunk old low d (kid t.first t.rest at) [] k split → AreLeft old low d t k at at split
one_left old low d t k at split within holds apart w = record {
  within = within;
  first = put_first t.first t.rest at w.tree;
  rest = put_rest t.rest at w.tree w.more;
  changed = among_all old low d t.first t.rest at (kid t.first t.rest at) [] w.tree w.more k t.first t.rest (one_first t.first t.rest at) (one_rest t.first t.rest at) holds.1 apart.1 w.changed;
  told = rest_branches d t.first t.rest at w.tree w.more (w.changed.same ∙ ap (page_of d) (kid_is t.first t.rest at))
      ∙ ap (λ bs. take at (map (branch_to d) t.rest) ++ (bs ++ drop at (map (branch_to d) t.rest))) w.told;
}

pub two_left : (old low : PageMap) (d : ℕ) (t : Tree (suc d)) (k : Key) (place behind : ℕ) (two : AreTwo (page_of d) t.first t.rest place) (split : Option Branch) → behind ≡ suc place
    → behind ≤ length (map (branch_to d) t.rest) → Holds old (nodes_of (suc d) t) → Apart (pages_in (nodes_of (suc d) t))
    → AreShrunk old low d (kid t.first t.rest place) ((two.key, two.right) ∷ []) k split → AreLeft old low d t k place behind split
two_left old low d t k place behind two split e within holds apart w = record {
  within = within;
  first = put_first t.first (skip t.rest place) place w.tree;
  rest = put_rest (skip t.rest place) place w.tree w.more;
  changed = among_all old low d t.first (skip t.rest place) place (kid t.first t.rest place) ((two.key, two.right) ∷ []) w.tree w.more k t.first t.rest two.is_first two.is_rest holds.1 apart.1 w.changed;
  told = two_branches d t.first t.rest place w.tree w.more (w.changed.same ∙ ap (page_of d) (sym two.here))
      ∙ ap (λ bs. take place (map (branch_to d) t.rest) ++ (bs ++ drop (suc place) (map (branch_to d) t.rest))) w.told
      ∙ ap (λ n. take place (map (branch_to d) t.rest) ++ (option_to_list split ++ drop n (map (branch_to d) t.rest))) (sym e);
}

no_more : (d : ℕ) (rest : List (Key × Tree d)) → map (branch_to d) rest ≡ [] → rest ≡ []
no_more d [] e = refl
no_more d (c ∷ rest) e = cc

rewritten_taken : (old low new : PageMap) (page : ℕ) (d : ℕ) (t : Tree (suc d)) (lo : Key) (hi : Option Key) (k : Key) (first : Tree d) (rest : List (Key × Tree d)) (bs : List Branch) (r : Removed)
    → IsUnder old page (suc d) t lo hi → AreChanged old low d t.first t.rest first rest k → map (branch_to d) rest ≡ bs → Rewritten low new page (page_of d t.first) bs r
    → IsTaken old new (suc d) t k r
rewritten_taken old low new page d t lo hi k first rest [] r u c told w =
    subst (IsTaken old new (suc d) t k) (sym w.0) (record {
      tree = first;
      at = c.same;
      changed = subst (λ p. AreChanged old p d t.first t.rest first [] k) (sym w.1) (subst (λ cs. AreChanged old low d t.first t.rest first cs k) (no_more d rest told) c);
    })
rewritten_taken old low new page d t lo hi k first rest (b ∷ bs) r u c told w =
    subst (IsTaken old new (suc d) t k) (sym w.1)
    (parent_written old low new d t first rest k (b ∷ bs) w.0 u.holds u.apart c told (subst (λ n. InnerWritten low new n (page_of d t.first) (b ∷ bs) w.0) (sym u.at) w.2))

-- ---- what is left of an inner page

route_short : (k : Key) (bs : List Branch) → route_of k bs ≤ length bs
route_short k [] = omega arith
route_short k (b ∷ bs) = by (precedes k b.key) (route_short k bs)
  where
    by : (p : Bool) → route_of k bs ≤ length bs → (if p then 0 else suc (route_of k bs)) ≤ suc (length bs)
    by true h = omega arith
    by false h = omega (arith, h)

-- a key leads to a child that is there
pub way_within : (before low : PageMap) (page : ℕ) (view : PageView) (d : ℕ) (t : Tree (suc d)) (lo : Key) (hi : Option Key) (k : Key) (at : ℕ) (below : Removed) → view.kind ≡ Inner
    → IsLeftBelow before low page view at below k d t lo hi → at ≤ length (map (branch_to d) t.rest)
way_within before low page view d t lo hi k at below kind w =
    let shown = shown_by before page view d t lo hi w.sees kind w.under in
    let short = route_short k (map branch_of view.cells) in
    omega (arith, short, w.way, ap length shown.branches)

module _ (before low : PageMap) (page : ℕ) (view : PageView) (d : ℕ) (t : Tree (suc d)) (lo : Key) (hi : Option Key) (k : Key) (at behind : ℕ) (branch : Option Branch)
    (sees : Sees before page view) (kind : view.kind ≡ Inner) (under : IsUnder before page (suc d) t lo hi) (left : AreLeft before low d t k at behind branch) where
  Bs : List Branch
  Bs = map branch_of view.cells

  shown : IsShownBy view d t
  shown = shown_by before page view d t lo hi sees kind under

  told : map (branch_to d) left.rest ≡ take at (map branch_of view.cells) ++ (option_to_list branch ++ drop behind (map branch_of view.cells))
  told = left.told ∙ ap (λ bs. take at bs ++ (option_to_list branch ++ drop behind bs)) (sym shown.branches)

  page_node : HasNode low page (InnerNode view.link (map branch_of view.cells))
  page_node =
      let was : IsSome (before t.page) = node_is_used before t.page _ under.holds.0 in
      let now : low t.page ≡ before t.page = used_stays before low (flat_nodes d t.first t.rest) (flat_nodes d left.first left.rest) left.changed.pages t.page under.apart.0 was in
      let node : HasNode low t.page (InnerNode (page_of d t.first) (map (branch_to d) t.rest)) = node_kept before low t.page _ now under.holds.0 in
      let e : InnerNode view.link (map branch_of view.cells) ≡ InnerNode (page_of d t.first) (map (branch_to d) t.rest) = rw (shown.link, shown.branches) in
      subst (HasNode low page) (sym e) (subst (λ n. HasNode low n (InnerNode (page_of d t.first) (map (branch_to d) t.rest))) under.at node)

  within : behind ≤ length (map branch_of view.cells)
  within = subst (λ bs. behind ≤ length bs) (sym shown.branches) left.within

  pub settled : (new : PageMap) (result : Result Removed SpaceError)
      → ((first : ℕ) (bs : List Branch) → HasNode low page (InnerNode first bs) → behind ≤ length bs
      → IfOk result (Rewritten low new page first (take at bs ++ (option_to_list branch ++ drop behind bs))))
      → IfOk result (IsTaken before new (suc d) t k)
  settled new result h =
      let bs : List Branch = take at (map branch_of view.cells) ++ (option_to_list branch ++ drop behind (map branch_of view.cells)) in
      if_ok (Rewritten low new page view.link bs) (IsTaken before new (suc d) t k) result
      (λ r w. rewritten_taken before low new page d t lo hi k left.first left.rest bs r under left.changed told (subst (λ n. Rewritten low new page n bs r) shown.link w))
      (h view.link (map branch_of view.cells) page_node within)

  pub not_settled : (W : Type 0)
      → ((a : Key) (first : ℕ) (bs : List Branch) → HasNode low page (InnerNode first bs) → behind ≤ length bs → W
      → RisesBehind a (take at bs ++ (option_to_list branch ++ drop behind bs)) → ⊥) → W → ⊥
  not_settled W f w =
      f lo view.link (map branch_of view.cells) page_node within w
      (subst (RisesBehind lo) told (chain_rises (Ordered d) (page_of d) lo hi left.first left.rest (left.changed.order lo hi under.order)))

-- nothing is written at the page
pub settled_below : (before low : PageMap) (page : ℕ) (view : PageView) (d : ℕ) (t : Tree (suc d)) (lo : Key) (hi : Option Key) (k : Key) (at : ℕ)
    → at ≤ length (map (branch_to d) t.rest) → IsUnder before page (suc d) t lo hi → AreShrunk before low d (kid t.first t.rest at) [] k None → AreShrunk before low (suc d) t [] k None
settled_below before low page view d t lo hi k at within u w =
    let left = one_left before low d t k at None within u.holds u.apart w in
    parent_kept before low d t left.first left.rest k u.holds u.apart left.changed (left.told ∙ take-append-drop at (map (branch_to d) t.rest))

pub settled_absent : (before low : PageMap) (page : ℕ) (view : PageView) (d : ℕ) (t : Tree (suc d)) (lo : Key) (hi : Option Key) (k : Key) (at : ℕ) → view.kind ≡ Inner
    → IsLeftBelow before low page view at Absent k d t lo hi → IsTaken before low (suc d) t k Absent
settled_absent before low page view d t lo hi k at kind w =
    let n : way d k t.rest ≡ at = way_taken before page view d t lo hi k at w.sees kind w.way w.under in (
      get_on_way d lo hi k t.first t.rest w.under.order ∙ ap (λ m. get_of k (entries_of d (kid_at t.first t.rest m))) n
          ∙ ap (λ x. get_of k (entries_of d x)) (sym (kid_is t.first t.rest at)) ∙ w.taken.0,
      w.taken.1,
    )
