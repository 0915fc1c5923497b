-- One call of insertion, over plain variables.
use Rattle.std.proofs.Common.{◌≡◌, ℕ, zero, suc, ◌+◌, ◌≤◌, List, [], ◌∷◌, ◌++◌, map, refl, sym, ap, ◌∙◌, subst, Option, Some, None, IsSome, Bool, true, false, if◌then◌else◌, Result, Ok, IfOk, take, drop, arith}
use Rattle.std.specs.List.{flat_map, AllByRecursion}
use Rattle.page_space.specs.declared.error.SpaceError.{SpaceError}
use Rattle.page_space.specs.Space.{PageMap}
use Rattle.sqlrecord.specs.declared.kind.PageKind.TheVariants.{Leaf, Inner}
use Rattle.sqlrecord.specs.Cell.{IsLeafCell}
use Rattle.sqlrecord.specs.Page.{PageView}
use Rattle.btree_read.specs.declared.entry.Entry.{Entry}
use Rattle.btree_read.specs.declared.entry.Branch.{Branch}
use Rattle.btree_read.specs.Lists.{Has}
use Rattle.btree_read.specs.Nodes.{Key, precedes, LeafNode, InnerNode, IsStocked, IsSmall, IsSmallBranch, entry_of, branch_of}
use Rattle.btree_read.specs.Sorted.{put}
use Rattle.btree_read.specs.Tree.{Tree, page_of, branch_to, kids, entries_of, pages_in, IsWithin, Ordered}
use Rattle.btree_read.specs.Search.{Sees, IsUnder, route_of, child_at}
use Rattle.btree_read.proofs.Kids.{kid_at, put_first, put_rest, low_at, high_at}
use Rattle.btree_read.proofs.OrderLemmas.{not_both}
use Rattle.btree_read.proofs.NodeLemmas.{node_is_used}
use Rattle.btree_read.proofs.ChainLemmas.{Beside, beside, within_way}
use Rattle.btree_read.proofs.SearchLemmas.{if_ok, root_node, sees_leaf, sees_inner, leaf_shown, inner_shown, child_found, way_taken}
use Rattle.btree.specs.Grow.{flat_nodes, IsGrown, LeafWritten, InnerWritten, GrowsBelow}
use Rattle.btree.proofs.LeafLemmas.{leaf_grown, put_rising}
use Rattle.btree.specs.Overfull.{RisesBehind, HasNoTreeFor}
use Rattle.btree.proofs.WithLemmas.{chain_rises}
use Rattle.btree.proofs.GrowLemmas.{splice, whole, cut, kept, IsSpliced}

-- ---- a put beside other entries

choice_append : {X : Type 0} (p q : Bool) (a b c d e f ys : List X) → a ≡ b ++ ys → c ≡ d ++ ys → e ≡ f ++ ys
    → (if p then a else if q then c else e) ≡ (if p then b else if q then d else f) ++ ys
choice_append true q a b c d e f ys h g w = h
choice_append false true a b c d e f ys h g w = g
choice_append false false a b c d e f ys h g w = w

put_left : (k : Key) (v : List ℕ) (xs ys : List Entry) → AllByRecursion (λ e. precedes k e.key ≡ true) ys → put k v (xs ++ ys) ≡ put k v xs ++ ys
put_left k v [] [] h = refl
put_left k v [] (y ∷ ys) h = rw (not_both k y.key h.0, h.0)
put_left k v (x ∷ xs) ys h = choice_append (precedes x.key k) (precedes k x.key) _ (x ∷ put k v xs) _ (record { key = k; value = v } ∷ x ∷ xs) _ (record { key = k; value = v } ∷ xs) ys (ap (λ es. x ∷ es) (put_left k v xs ys h)) refl refl

put_right : (k : Key) (v : List ℕ) (xs ys : List Entry) → AllByRecursion (λ e. precedes e.key k ≡ true) xs → put k v (xs ++ ys) ≡ xs ++ put k v ys
put_right k v [] ys h = refl
put_right k v (x ∷ xs) ys h = rw h.0 (ap (λ es. x ∷ es) (put_right k v xs ys h.1))

-- ---- below the root

abbrev Holding : Key → Key → Option Key → Type 0
Holding k a b = IsWithin a b k

inner_is_no_leaf : (pages : PageMap) (page : ℕ) (view : PageView) (t : Tree zero) (lo : Key) (hi : Option Key) → Sees pages page view → view.kind ≡ Inner → IsUnder pages page zero t lo hi → ⊥
inner_is_no_leaf pages page view t lo hi s k u =
    let e : InnerNode view.link (map branch_of view.cells) ≡ LeafNode t.next t.entries = sym (inner_shown pages page view k) ∙ sees_leaf pages page view t lo hi s u in cc

module _ (old mid : PageMap) (page : ℕ) (view : PageView) (k : Key) (v : List ℕ) (same : mid ≡ old) (sees : Sees old page view) where
  pub grown_at_leaf : (new : PageMap) (result : Result (Option Branch) SpaceError) → view.kind ≡ Leaf
      → (IsSome (mid page) → IsStocked (LeafNode view.link (map entry_of view.cells)) → IfOk result (LeafWritten mid new page view.link (put k v (map entry_of view.cells))))
      → GrowsBelow old new page k v result
  grown_at_leaf new result kind h zero t lo hi u =
      let e : LeafNode view.link (map entry_of view.cells) ≡ LeafNode t.next t.entries = sym (leaf_shown old page view kind) ∙ sees_leaf old page view t lo hi sees u in
      let el : view.link ≡ t.next = cc in
      let ee : map entry_of view.cells ≡ t.entries = cc in
      let used : IsSome (old page) = node_is_used old page _ (root_node old page view zero t lo hi _ u u.holds.0) in
      if_ok (LeafWritten mid new page view.link (put k v (map entry_of view.cells))) (IsGrown old new zero t (Holding k) (put k v t.entries)) result
      (λ s w. leaf_grown old new page t lo hi (Holding k) (put k v t.entries) s u (λ a b o f. put_rising a b k v t.entries f o)
      (subst (λ es. LeafWritten old new page t.next (put k v es) s) ee
      (subst (λ n. LeafWritten old new page n (put k v (map entry_of view.cells)) s) el
      (subst (λ m. LeafWritten m new page view.link (put k v (map entry_of view.cells)) s) same w))))
      (h (subst (λ m. IsSome (m page)) (sym same) used) (subst IsStocked (sym e) u.holds.0.stocked))
  grown_at_leaf new result kind h (suc d) t lo hi u =
      let e : LeafNode view.link (map entry_of view.cells) ≡ InnerNode (page_of d t.first) (map (branch_to d) t.rest) =
      sym (leaf_shown old page view kind) ∙ sees_inner old page view d t lo hi sees u in cc

  pub leaf_refused : (levels : ℕ) (W0 W1 : Type 0) → view.kind ≡ Leaf → (W0 → W1) → (cell : List ℕ) → IsLeafCell cell k v → IsSmall (record { key = k; value = v })
      → ((value : List ℕ) → IsLeafCell cell k value → IsSmall (record { key = k; value = value }) → IsSome (mid page) → W1 → IsStocked (LeafNode view.link (map entry_of view.cells)) → ⊥)
      → HasNoTreeFor old page levels k W0
  leaf_refused levels W0 W1 kind g cell is small h zero t lo hi l u w wh =
      let e : LeafNode view.link (map entry_of view.cells) ≡ LeafNode t.next t.entries = sym (leaf_shown old page view kind) ∙ sees_leaf old page view t lo hi sees u in
      let used : IsSome (old page) = node_is_used old page _ (root_node old page view zero t lo hi _ u u.holds.0) in
      h v is small (subst (λ m. IsSome (m page)) (sym same) used) (g wh) (subst IsStocked (sym e) u.holds.0.stocked)
  leaf_refused levels W0 W1 kind g cell is small h (suc d) t lo hi l u w wh =
      let e : LeafNode view.link (map entry_of view.cells) ≡ InnerNode (page_of d t.first) (map (branch_to d) t.rest) =
      sym (leaf_shown old page view kind) ∙ sees_inner old page view d t lo hi sees u in cc

  module _ (low : PageMap) (at child : ℕ) (kind : view.kind ≡ Inner) (route : route_of k (map branch_of view.cells) ≡ at) (leads : child ≡ child_at view.link (map branch_of view.cells) at) where
    down : (d : ℕ) (t : Tree (suc d)) (lo : Key) (hi : Option Key) → IsUnder old page (suc d) t lo hi
        → (a : Key) (b : Option Key) → IsWithin a b k → IsWithin (low_at a t.rest at) (high_at b t.rest at) k
    down d t lo hi u a b f =
        subst (λ n. IsWithin (low_at a t.rest n) (high_at b t.rest n) k) (way_taken old page view d t lo hi k at sees kind route u) (within_way d a b k t.rest f)

    up : (d : ℕ) (t : Tree (suc d)) (lo : Key) (hi : Option Key) → IsUnder old page (suc d) t lo hi
        → (new : Tree d) (more : List (Key × Tree d)) → flat_map (entries_of d) (kids new more) ≡ put k v (entries_of d (kid_at t.first t.rest at))
        → flat_map (entries_of d) (kids (put_first t.first t.rest at new) (put_rest t.rest at new more)) ≡ put k v (flat_map (entries_of d) (kids t.first t.rest))
    up d t lo hi u new more e =
        let b = subst (Beside d k t.first t.rest) (way_taken old page view d t lo hi k at sees kind route u) (beside d lo hi k t.first t.rest u.order) in
        let es : List Entry = entries_of d (kid_at t.first t.rest at) in
        b.put_in new more ∙ ap (λ x. b.before ++ (x ++ b.after)) e
        ∙ sym (ap (put k v) b.all ∙ put_right k v b.before (es ++ b.after) b.low ∙ ap (λ x. b.before ++ x) (put_left k v es b.after b.high))

    grown : (d : ℕ) (t : Tree (suc d)) (lo : Key) (hi : Option Key) (split : Option Branch) → GrowsBelow mid low child k v (Ok split) → IsUnder old page (suc d) t lo hi
        → IsGrown old low d (kid_at t.first t.rest at) (Holding k) (put k v (entries_of d (kid_at t.first t.rest at))) split
    grown d t lo hi split g u = subst (λ m. GrowsBelow m low child k v (Ok split)) same g d (kid_at t.first t.rest at) _ _ (child_found old page view child d t lo hi at sees kind leads u)

    pub child_refused : (levels less : ℕ) (W0 W1 : Type 0) → levels ≤ less + 1 → (W0 → W1) → HasNoTreeFor mid child less k W1 → HasNoTreeFor old page levels k W0
    child_refused levels less W0 W1 o g f zero t lo hi l u w wh = inner_is_no_leaf old page view t lo hi sees kind u
    child_refused levels less W0 W1 o g f (suc d) t lo hi l u w wh =
        subst (λ m. HasNoTreeFor m child less k W1) same f d (kid_at t.first t.rest at) _ _ (omega arith) (child_found old page view child d t lo hi at sees kind leads u) (down d t lo hi u lo hi w) (g wh)

    pub inner_refused : (levels : ℕ) (W0 W2 : Type 0) (b x : Branch) → (W0 → W2) → x ≡ b → GrowsBelow mid low child k v (Ok (Some b)) → IsSmallBranch x
        → ((lo : Key) → IsSmallBranch x → IsSome (low page) → W2 → IsStocked (InnerNode view.link (map branch_of view.cells))
        → RisesBehind lo (take at (map branch_of view.cells) ++ x ∷ drop at (map branch_of view.cells)) → ⊥)
        → HasNoTreeFor old page levels k W0
    inner_refused levels W0 W2 b x g is grows small f zero t lo hi l u w wh = inner_is_no_leaf old page view t lo hi sees kind u
    inner_refused levels W0 W2 b x g is grows small f (suc d) t lo hi l u w wh =
        let e : InnerNode view.link (map branch_of view.cells) ≡ InnerNode (page_of d t.first) (map (branch_to d) t.rest) =
        sym (inner_shown old page view kind) ∙ sees_inner old page view d t lo hi sees u in
        let eb : map branch_of view.cells ≡ map (branch_to d) t.rest = cc in
        let sp = splice old low page d t lo hi at (Holding k) (put k v (entries_of (suc d) t)) (Some b) (put k v (entries_of d (kid_at t.first t.rest at))) u (down d t lo hi u) (up d t lo hi u) (grown d t lo hi (Some b) grows u) in
        let was : IsSome (old page) = node_is_used old page _ (root_node old page view (suc d) t lo hi _ u u.holds.0) in
        let used : IsSome (low page) = rw (sp.nodes.others page (λ y. u.apart.0 (subst (λ m. Has m (pages_in (flat_nodes d t.first t.rest))) (sym u.at) y)) was) was in
        let rises : RisesBehind lo (map (branch_to d) sp.rest) = chain_rises (Ordered d) (page_of d) lo hi sp.first sp.rest (sp.order lo hi u.order w) in
        let told : map (branch_to d) sp.rest ≡ take at (map branch_of view.cells) ++ x ∷ drop at (map branch_of view.cells) =
        sp.told ∙ ap (λ bs. take at bs ++ b ∷ drop at bs) (sym eb) ∙ ap (λ y. take at (map branch_of view.cells) ++ y ∷ drop at (map branch_of view.cells)) (sym is) in
        f lo small used (g wh) (subst IsStocked (sym e) u.holds.0.stocked) (subst (RisesBehind lo) told rises)

    pub grown_kept : GrowsBelow mid low child k v (Ok None) → GrowsBelow old low page k v (Ok None)
    grown_kept g zero t lo hi u = absurd (inner_is_no_leaf old page view t lo hi sees kind u)
    grown_kept g (suc d) t lo hi u =
        kept old low page d t lo hi at (Holding k) (put k v (entries_of (suc d) t)) (put k v (entries_of d (kid_at t.first t.rest at))) u (down d t lo hi u) (up d t lo hi u) (grown d t lo hi None g u)

    written : (new : PageMap) (d : ℕ) (t : Tree (suc d)) (lo : Key) (hi : Option Key) → IsUnder old page (suc d) t lo hi
        → (branches : List Branch) → IsSpliced old low d t (Holding k) (put k v (entries_of (suc d) t)) branches → (s : Option Branch)
        → InnerWritten low new page (page_of d t.first) branches s → IsGrown old new (suc d) t (Holding k) (put k v (entries_of (suc d) t)) s
    written new d t lo hi u branches sp None x = whole old low page d t lo hi at (Holding k) (put k v (entries_of (suc d) t)) new branches u sp x.0 x.1
    written new d t lo hi u branches sp (Some c) x = cut old low page d t lo hi at (Holding k) (put k v (entries_of (suc d) t)) new branches c u sp x

    pub grown_up : (new : PageMap) (b x : Branch) (result : Result (Option Branch) SpaceError) → GrowsBelow mid low child k v (Ok (Some b)) → x ≡ b
        → (IsSome (low page) → IsStocked (InnerNode view.link (map branch_of view.cells))
        → IfOk result (InnerWritten low new page view.link (take at (map branch_of view.cells) ++ x ∷ drop at (map branch_of view.cells))))
        → GrowsBelow old new page k v result
    grown_up new b x result g is put_in zero t lo hi u = absurd (inner_is_no_leaf old page view t lo hi sees kind u)
    grown_up new b x result g is put_in (suc d) t lo hi u =
        let h = subst (λ y. IsSome (low page) → IsStocked (InnerNode view.link (map branch_of view.cells))
        → IfOk result (InnerWritten low new page view.link (take at (map branch_of view.cells) ++ y ∷ drop at (map branch_of view.cells)))) is put_in in
        let e : InnerNode view.link (map branch_of view.cells) ≡ InnerNode (page_of d t.first) (map (branch_to d) t.rest) =
        sym (inner_shown old page view kind) ∙ sees_inner old page view d t lo hi sees u in
        let el : view.link ≡ page_of d t.first = cc in
        let eb : map branch_of view.cells ≡ map (branch_to d) t.rest = cc in
        let sp = splice old low page d t lo hi at (Holding k) (put k v (entries_of (suc d) t)) (Some b) (put k v (entries_of d (kid_at t.first t.rest at))) u (down d t lo hi u) (up d t lo hi u) (grown d t lo hi (Some b) g u) in
        let was : IsSome (old page) = node_is_used old page _ (root_node old page view (suc d) t lo hi _ u u.holds.0) in
        let used : IsSome (low page) = rw (sp.nodes.others page (λ x. u.apart.0 (subst (λ m. Has m (pages_in (flat_nodes d t.first t.rest))) (sym u.at) x)) was) was in
        if_ok (InnerWritten low new page view.link (take at (map branch_of view.cells) ++ b ∷ drop at (map branch_of view.cells))) (IsGrown old new (suc d) t (Holding k) (put k v (entries_of (suc d) t))) result
        (λ s x. written new d t lo hi u _ sp s
        (subst (λ bs. InnerWritten low new page (page_of d t.first) (take at bs ++ b ∷ drop at bs) s) eb
        (subst (λ n. InnerWritten low new page n (take at (map branch_of view.cells) ++ b ∷ drop at (map branch_of view.cells)) s) el x)))
        (h used (subst IsStocked (sym e) u.holds.0.stocked))
