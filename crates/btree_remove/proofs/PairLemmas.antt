-- Two neighbouring children of an inner page, of which one has too little left, over plain
-- variables.
use Rattle.std.proofs.Common.{◌≡◌, ◌≢◌, ℕ, zero, suc, ◌+◌, ◌<◌, ◌≤◌, List, [], ◌∷◌, ◌++◌, map, length, ◌⊎◌, inl, inr, refl, sym, ap, ◌∙◌, subst, Option, Some, None, IsSome, Result, Ok, Err, IfOk, OnOk, arith, add-one}
use Rattle.std.specs.Prelude.{⊤, slice_index_or}
use Rattle.std.proofs.lemmas.List.{append-nil as append_nil, map-append, length-map}
use Rattle.page_space.specs.declared.error.SpaceError.{SpaceError}
use Rattle.page_space.specs.Space.{PageMap}
use Rattle.sqlrecord.specs.declared.kind.PageKind.TheVariants.{Leaf, Inner}
use Rattle.sqlrecord.specs.Page.{key_of, PageView}
use Rattle.btree_read.specs.declared.entry.Entry.{Entry}
use Rattle.btree_read.specs.declared.entry.Branch.{Branch}
use Rattle.btree_read.specs.Lists.{Has, Apart}
use Rattle.btree_read.specs.Nodes.{Key, Node, LeafNode, InnerNode, HasNode, branch_of}
use Rattle.btree_read.specs.Tree.{Tree, page_of, branch_to, nodes_of, pages_in, Holds, Chain, Ordered}
use Rattle.btree_read.specs.Search.{Sees, IsUnder, child_at}
use Rattle.btree_read.proofs.Kids.{kid_at, put_first, put_rest}
use Rattle.btree_read.proofs.ListLemmas.{each_left, each_right, apart_parts}
use Rattle.btree_read.proofs.ChainLemmas.{child_is_kid, chain_cut}
use Rattle.btree_read.proofs.NodeLemmas.{node_is_used}
use Rattle.btree_read.proofs.PageLemmas.{around, pages_middle}
use Rattle.btree_read.proofs.SearchLemmas.{if_ok, sees_inner, inner_shown}
use Rattle.btree.specs.Grow.{flat_nodes}
use Rattle.btree.specs.Overfull.{RisesBehind}
use Rattle.btree.proofs.WithLemmas.{chain_rises}
use Rattle.btree_remove.specs.Removed.{AreChanged, AreShrunk, AreOne, AreLeavesJoined, AreInnersJoined, IsLess, IsPairAt, IsLone, IsEmptied, kid}
use Rattle.btree_remove.specs.declared.pair.Pair.{Pair}
use Rattle.btree_remove.proofs.ExchangeLemmas.{exchange_beside, used_stays}
use Rattle.btree_remove.proofs.RunLemmas.{AreTwo, skip, kid_is, two_at, among, last_first, last_rest}
use Rattle.btree_remove.proofs.TopLemmas.{two_nodes, inner_of, joined, made_of_two}
use Rattle.btree_remove.proofs.LeafLemmas.{left_emptied, right_emptied}

-- ---- what an inner page shows

pub record IsShownBy (view : PageView) (d : ℕ) (t : Tree (suc d)) : Type 0 where
  pub link : view.link ≡ page_of d t.first
  pub branches : map branch_of view.cells ≡ map (branch_to d) t.rest

pub shown_by : (pages : PageMap) (page : ℕ) (view : PageView) (d : ℕ) (t : Tree (suc d)) (lo : Key) (hi : Option Key) → Sees pages page view → view.kind ≡ Inner → IsUnder pages page (suc d) t lo hi
    → IsShownBy view d t
shown_by pages page view d t lo hi s k u =
    let e : InnerNode view.link (map branch_of view.cells) ≡ InnerNode (page_of d t.first) (map (branch_to d) t.rest) =
    sym (inner_shown pages page view k) ∙ sees_inner pages page view d t lo hi s u in
    record { link = cc; branches = cc }

-- ---- neighbours among other children

pub record HaveOrder (d : ℕ) (x : Tree d) (more : List (Key × Tree d)) : Type 0 where
  pub lo : Key
  pub hi : Option Key
  pub order : Chain (Ordered d) lo hi x more

order_of : (d : ℕ) (lo : Key) (hi : Option Key) (first : Tree d) (rest : List (Key × Tree d)) (at : ℕ) (x : Tree d) (more : List (Key × Tree d))
    → Chain (Ordered d) lo hi (put_first first rest at x) (put_rest rest at x more) → HaveOrder d x more
order_of d lo hi first [] at x more h = record { lo = lo; hi = hi; order = h }
order_of d lo hi first (c ∷ rest) zero x more h = record { lo = lo; hi = Some c.0; order = (chain_cut (Ordered d) lo hi x more c.0 c.1 rest h).left }
order_of d lo hi first (c ∷ rest) (suc at) x more h = order_of d c.0 hi c.1 rest at x more h.2

-- two children that stand side by side in the tree under a page
pub record ArePaired (pages : PageMap) (d : ℕ) (t : Tree (suc d)) (at : ℕ) (pair : Pair) (divider : Key) : Type 0 where
  pub two : AreTwo (page_of d) t.first t.rest pair.place
  pub holds : Holds pages (flat_nodes d (kid t.first t.rest pair.place) ((two.key, two.right) ∷ []))
  pub apart : Apart (pages_in (flat_nodes d (kid t.first t.rest pair.place) ((two.key, two.right) ∷ [])))
  pub order : HaveOrder d (kid t.first t.rest pair.place) ((two.key, two.right) ∷ [])
  pub left : pair.left ≡ page_of d (kid t.first t.rest pair.place)
  pub right : pair.right ≡ page_of d two.right
  pub key : divider ≡ two.key
  pub side : ((kid t.first t.rest at ≡ kid t.first t.rest pair.place) × (pair.kept ≡ pair.right)) ⊎ ((kid t.first t.rest at ≡ two.right) × (pair.kept ≡ pair.left))

pub paired : (pages : PageMap) (page : ℕ) (view : PageView) (d : ℕ) (t : Tree (suc d)) (lo : Key) (hi : Option Key) (at : ℕ) (pair : Pair) → IsShownBy view d t → IsUnder pages page (suc d) t lo hi
    → IsPairAt view.link (map branch_of view.cells) at pair → ArePaired pages d t at pair (key_of (slice_index_or view.cells pair.place []))
paired pages page view d t lo hi at pair shown u w =
    let n : length (map branch_of view.cells) ≡ length t.rest = ap length shown.branches ∙ length-map t.rest (branch_to d) in
    let two = two_at (page_of d) t.first t.rest pair.place (omega (arith, n, w.within)) in
    let x : Tree d = kid t.first t.rest pair.place in
    let more : List (Key × Tree d) = (two.key, two.right) ∷ [] in
    let F : Tree d = put_first t.first (skip t.rest pair.place) pair.place x in
    let R : List (Key × Tree d) = put_rest (skip t.rest pair.place) pair.place x more in
    let a = around (nodes_of d) t.first (skip t.rest pair.place) pair.place in
    let nodes : flat_nodes d t.first t.rest ≡ a.before ++ (flat_nodes d x more ++ a.after) =
    ap (λ f. flat_nodes d f t.rest) (sym two.is_first) ∙ ap (flat_nodes d F) (sym two.is_rest) ∙ a.new x more in
    let page_at : (place : ℕ) → child_at view.link (map branch_of view.cells) place ≡ page_of d (kid t.first t.rest place) =
    λ place. ap (λ l. child_at l (map branch_of view.cells) place) shown.link ∙ ap (λ bs. child_at (page_of d t.first) bs place) shown.branches
    ∙ child_is_kid (page_of d) t.first t.rest place ∙ ap (page_of d) (sym (kid_is t.first t.rest place)) in
    record {
      two = two;
      holds = each_left _ (flat_nodes d x more) a.after (each_right _ a.before (flat_nodes d x more ++ a.after) (subst (Holds pages) nodes u.holds.1));
      apart = (apart_parts (pages_in (flat_nodes d x more)) (pages_in a.after)
          (apart_parts (pages_in a.before) (pages_in (flat_nodes d x more) ++ pages_in a.after)
          (subst Apart (pages_middle a.before (flat_nodes d x more) a.after) (subst (λ ns. Apart (pages_in ns)) nodes u.apart.1))).right).left;
      order = order_of d lo hi t.first (skip t.rest pair.place) pair.place x more
          (subst (λ f. Chain (Ordered d) lo hi f R) (sym two.is_first) (subst (λ r. Chain (Ordered d) lo hi t.first r) (sym two.is_rest) u.order));
      left = w.left ∙ page_at pair.place;
      right = w.right ∙ page_at (pair.place + 1) ∙ ap (λ m. page_of d (kid t.first t.rest m)) (add-one pair.place) ∙ ap (page_of d) two.is_right;
      key = two.is_key view.cells shown.branches;
      side = side two w.kept;
    }
  where
    side : (two : AreTwo (page_of d) t.first t.rest pair.place) → ((at ≡ pair.place) × (pair.kept ≡ pair.right)) ⊎ ((at ≡ pair.place + 1) × (pair.kept ≡ pair.left))
        → ((kid t.first t.rest at ≡ kid t.first t.rest pair.place) × (pair.kept ≡ pair.right)) ⊎ ((kid t.first t.rest at ≡ two.right) × (pair.kept ≡ pair.left))
    side two (inl h) = inl (ap (kid t.first t.rest) h.0, h.1)
    side two (inr h) = inr (ap (kid t.first t.rest) (h.0 ∙ add-one pair.place) ∙ two.is_right, h.1)

-- ---- two leaves

module _ (pages : PageMap) (t : Tree (suc zero)) (at : ℕ) (pair : Pair) (divider : Key) (p : ArePaired pages zero t at pair divider) where
  -- what the code needs to know of the two
  pub record HaveLeaves : Type 0 where
    pub a : ℕ
    pub es : List Entry
    pub kept : HasNode pages pair.kept (LeafNode a es)
    pub right : HasNode pages pair.right (LeafNode p.two.right.next p.two.right.entries)
    pub used : IsSome (pages pair.left)
    pub differ : pair.left ≢ pair.right
    pub emptied : (k : Key) → IsLess k (kid t.first t.rest at).entries [] → (new : PageMap) → AreLeavesJoined pages new pair.left pair.right p.two.right.next es
        → AreShrunk pages new zero (kid t.first t.rest pair.place) ((p.two.key, p.two.right) ∷ []) k None

  pub have_leaves : HaveLeaves
  have_leaves = by p.side
    where
      l : Tree zero
      l = kid t.first t.rest pair.place

      r : Tree zero
      r = p.two.right

      at_left : HasNode pages pair.left (LeafNode l.next l.entries)
      at_left = subst (λ n. HasNode pages n (LeafNode l.next l.entries)) (sym p.left) p.holds.0

      at_right : HasNode pages pair.right (LeafNode r.next r.entries)
      at_right = subst (λ n. HasNode pages n (LeafNode r.next r.entries)) (sym p.right) p.holds.1.0

      ne : l.page ≢ r.page
      ne e = p.apart.0 (inl e)

      as_pages : (es : List Entry) (new : PageMap) → AreLeavesJoined pages new pair.left pair.right r.next es → AreLeavesJoined pages new l.page r.page r.next es
      as_pages es new w = subst (λ n. AreLeavesJoined pages new l.page n r.next es) p.right (subst (λ n. AreLeavesJoined pages new n pair.right r.next es) p.left w)

      by : ((kid t.first t.rest at ≡ l) × (pair.kept ≡ pair.right)) ⊎ ((kid t.first t.rest at ≡ r) × (pair.kept ≡ pair.left)) → HaveLeaves
      by (inl h) = record {
        a = r.next;
        es = r.entries;
        kept = subst (λ n. HasNode pages n (LeafNode r.next r.entries)) (sym h.1) at_right;
        right = at_right;
        used = node_is_used pages pair.left _ at_left;
        differ = λ e. ne (sym p.left ∙ e ∙ p.right);
        emptied = λ k less new w. left_emptied pages new l p.two.key r k ne (subst (λ (x : Tree zero). IsLess k x.entries []) h.0 less) (as_pages r.entries new w);
      }
      by (inr h) = record {
        a = l.next;
        es = l.entries;
        kept = subst (λ n. HasNode pages n (LeafNode l.next l.entries)) (sym h.1) at_left;
        right = at_right;
        used = node_is_used pages pair.left _ at_left;
        differ = λ e. ne (sym p.left ∙ e ∙ p.right);
        emptied = λ k less new w. right_emptied pages new l p.two.key r k ne (subst (λ (x : Tree zero). IsLess k x.entries []) h.0 less) (as_pages l.entries new w);
      }

-- ---- two inner pages

-- the children of both, where those of one of them are now but one
pub record AreMerged (pages low : PageMap) (d : ℕ) (l : Tree (suc d)) (s : Key) (r : Tree (suc d)) (k : Key) (link : ℕ) (bs : List Branch) : Type 0 where
  pub first : Tree d
  pub rest : List (Key × Tree d)
  pub changed : AreChanged pages low d l.first (l.rest ++ (s, r.first) ∷ r.rest) first rest k
  pub at : page_of d first ≡ link
  pub told : map (branch_to d) rest ≡ bs

module _ (pages low : PageMap) (d : ℕ) (l : Tree (suc d)) (s : Key) (r : Tree (suc d)) (k : Key) (only : ℕ)
    (holds : Holds pages (flat_nodes (suc d) l ((s, r) ∷ []))) (apart : Apart (pages_in (flat_nodes (suc d) l ((s, r) ∷ [])))) where
  Children : List (ℕ × Node)
  Children = flat_nodes d l.first (l.rest ++ (s, r.first) ∷ r.rest)

  children_hold : Holds pages (flat_nodes d l.first (l.rest ++ (s, r.first) ∷ r.rest))
  children_hold = let h = (two_nodes d l s r).held pages holds in each_left _ (flat_nodes d l.first (l.rest ++ (s, r.first) ∷ r.rest)) [] h.1.1

  children_apart : Apart (pages_in (flat_nodes d l.first (l.rest ++ (s, r.first) ∷ r.rest)))
  children_apart = let h = (two_nodes d l s r).parted apart in subst (λ ns. Apart (pages_in ns)) (append_nil (flat_nodes d l.first (l.rest ++ (s, r.first) ∷ r.rest))) h.1.1

  pub left_merged : AreOne pages low d l k only → AreMerged pages low d l s r k only (record { key = s; child = page_of d r.first } ∷ map (branch_to d) r.rest)
  left_merged w = record {
    first = w.tree;
    rest = (s, r.first) ∷ r.rest;
    changed = among pages low d l.first ((s, r.first) ∷ r.rest) 0 l.first l.rest w.tree [] k children_hold children_apart w.changed;
    at = w.at;
    told = refl;
  }

  pub right_merged : AreOne pages low d r k only → AreMerged pages low d l s r k (page_of d l.first) (map (branch_to d) l.rest ++ record { key = s; child = only } ∷ [])
  right_merged w =
      let base : List (Key × Tree d) = l.rest ++ (s, r.first) ∷ [] in
      let at : ℕ = suc (length l.rest) in
      let is_first = λ (x : Tree d). last_first l.first l.rest s r.first x in
      let is_rest = λ (x : Tree d) (more : List (Key × Tree d)). last_rest l.first l.rest s r.first x more in
      let holds : Holds pages (flat_nodes d (put_first l.first base at r.first) (put_rest base at r.first r.rest)) =
      subst (λ f. Holds pages (flat_nodes d f (put_rest base at r.first r.rest))) (sym (is_first r.first)) (subst (λ c. Holds pages (flat_nodes d l.first c)) (sym (is_rest r.first r.rest)) children_hold) in
      let apart : Apart (pages_in (flat_nodes d (put_first l.first base at r.first) (put_rest base at r.first r.rest))) =
      subst (λ f. Apart (pages_in (flat_nodes d f (put_rest base at r.first r.rest)))) (sym (is_first r.first))
      (subst (λ c. Apart (pages_in (flat_nodes d l.first c))) (sym (is_rest r.first r.rest)) children_apart) in
      let c = among pages low d l.first base at r.first r.rest w.tree [] k holds apart w.changed in
      let c1 = subst (λ f. AreChanged pages low d f (put_rest base at r.first r.rest) (put_first l.first base at w.tree) (put_rest base at w.tree []) k) (is_first r.first) c in
      let c2 = subst (λ f. AreChanged pages low d l.first f (put_first l.first base at w.tree) (put_rest base at w.tree []) k) (is_rest r.first r.rest) c1 in
      let c3 = subst (λ f. AreChanged pages low d l.first (l.rest ++ (s, r.first) ∷ r.rest) f (put_rest base at w.tree []) k) (is_first w.tree) c2 in
      record {
        first = l.first;
        rest = l.rest ++ (s, w.tree) ∷ [];
        changed = subst (λ f. AreChanged pages low d l.first (l.rest ++ (s, r.first) ∷ r.rest) l.first f k) (is_rest w.tree []) c3;
        at = refl;
        told = map-append (branch_to d) l.rest ((s, w.tree) ∷ []) ∙ ap (λ n. map (branch_to d) l.rest ++ record { key = s; child = n } ∷ []) w.at;
      }

  -- both pages still have their nodes
  pub record HaveInners (link : ℕ) (bs : List Branch) : Type 0 where
    pub left : HasNode low l.page (inner_of d l.first l.rest)
    pub right : HasNode low r.page (inner_of d r.first r.rest)
    pub differ : l.page ≢ r.page
    pub now : (new : PageMap) (split : Option Branch) → AreInnersJoined low new l.page r.page link bs split → AreShrunk pages new (suc d) l ((s, r) ∷ []) k split
    pub rises : (lo : Key) (hi : Option Key) → Chain (Ordered (suc d)) lo hi l ((s, r) ∷ []) → RisesBehind lo bs

  pub have_inners : (link : ℕ) (bs : List Branch) → AreMerged pages low d l s r k link bs → HaveInners link bs
  have_inners link bs m =
      let left : ℕ × Node = (l.page, inner_of d l.first l.rest) in
      let right : ℕ × Node = (r.page, inner_of d r.first r.rest) in
      let order = two_nodes d l s r in
      let a = exchange_beside pages low (left ∷ right ∷ []) (flat_nodes d l.first (l.rest ++ (s, r.first) ∷ r.rest)) (flat_nodes d m.first m.rest) [] (order.held pages holds) (order.parted apart) m.changed.pages in
      let differ = order.parted apart in
      record {
        left = a.holds.0;
        right = a.holds.1.0;
        differ = λ e. differ.0 (inl e);
        now = λ new split w. joined pages low new d l s r m.first m.rest k link bs split holds apart m.changed m.at m.told w;
        rises = λ lo hi h. subst (RisesBehind lo) m.told (chain_rises (Ordered d) (page_of d) lo hi m.first m.rest (m.changed.order lo hi (down lo hi h)));
      }
    where
      down : (lo : Key) (hi : Option Key) → Chain (Ordered (suc d)) lo hi l ((s, r) ∷ []) → Chain (Ordered d) lo hi l.first (l.rest ++ (s, r.first) ∷ r.rest)
      down lo hi h = (made_of_two d l s r).down lo hi h
