-- Pages read, written and given back one after another, over plain variables.
use Rattle.std.proofs.Common.{◌≡◌, ◌≢◌, ℕ, zero, suc, ◌+◌, ◌<◌, ◌≤◌, List, [], ◌∷◌, ◌++◌, map, length, take, drop, refl, sym, ap, ◌∙◌, subst, Bool, true, false, not, Option, Some, None, IsSome, Result, Ok, Err, OnOk, IfOk, arith, inl, inr, ◌⊎◌}
use Rattle.std.specs.Prelude.{⊤, slice_index_or, MatchOption}
use Rattle.std.proofs.Math.Seq.{take-length}
use Rattle.std.proofs.lemmas.List.{append-nil as append_nil, length-map}
use Rattle.page_space.specs.declared.error.SpaceError.{SpaceError}
use Rattle.page_space.specs.Space.{PageMap, ReadRefused, ChangeRefused}
use Rattle.sqlrecord.specs.declared.kind.PageKind.{PageKind}
use Rattle.sqlrecord.specs.declared.kind.PageKind.TheVariants.{Leaf, Inner}
use Rattle.sqlrecord.specs.Page.{key_of, PageView}
use Rattle.btree_read.specs.declared.entry.Entry.{Entry}
use Rattle.btree_read.specs.declared.entry.Branch.{Branch}
use Rattle.btree_read.specs.Nodes.{Key, precedes, Node, LeafNode, InnerNode, HasNode, IsStocked, node_of, shown, entry_of, branch_of}
use Rattle.btree_read.specs.Search.{Sees}
use Rattle.btree_read.proofs.NodeLemmas.{node_is_used, node_kept, not_fresh}
use Rattle.btree_read.proofs.SearchLemmas.{if_ok}
use Rattle.btree.specs.Grow.{SamePages, InnerWritten}
use Rattle.btree.specs.Overfull.{RisesBehind}
use Rattle.btree_remove.specs.declared.outcome.Removed.{Removed}
use Rattle.btree_remove.specs.declared.outcome.Removed.TheVariants.{Absent, Done, Emptied, Lone}
use Rattle.btree_remove.specs.declared.pair.Pair.{Pair}
use Rattle.btree_remove.specs.Removed.{IsLess, LeafLess, AreLeavesJoined, AreInnersJoined, Rewritten}
use Rattle.btree.proofs.RefusalLemmas.{change_refused, read_as_change}
use Rattle.btree_remove.proofs.LeafLemmas.{cells_less, stocked_less}
use Rattle.btree_remove.proofs.WithoutLemmas.{on_ok, branches_without, stocked_without, rewritten_less, branch_put, none_put}
use Rattle.std.specs.Option.{option_to_list}

pub none_of : {A : Type 0} (P : Type 0) (Q : A → Type 0) (o : Option A) → MatchOption o P Q → ((x : A) → o ≡ Some x → ⊥) → P
none_of P Q None h f = h
none_of P Q (Some x) h f = absurd (f x refl)

pub not_before : (b : Bool) → not b ≡ true → b ≡ false
not_before true h = cc
not_before false h = refl

-- ---- a page written

pub written_without : (old new : PageMap) (page : ℕ) (kind other : PageKind) (link here : ℕ) (cells now : List (List ℕ)) (r : Result ⊤ SpaceError) → other ≡ kind → here ≡ link → now ≡ cells
    → OnOk r (IsSome (old page) → IsStocked (node_of other here now) → HasNode new page (node_of other here now))
    → IsSome (old page) → IsStocked (node_of kind link cells) → OnOk r (HasNode new page (node_of kind link cells))
written_without old new page kind other link here cells now r e l f h used stocked =
    let same : node_of other here now ≡ node_of kind link cells = ap (λ k. node_of k here now) e ∙ ap (λ n. node_of kind n now) l ∙ ap (node_of kind link) f in
    on_ok (IsSome (old page) → IsStocked (node_of other here now) → HasNode new page (node_of other here now)) (HasNode new page (node_of kind link cells)) r
    (λ g. subst (HasNode new page) same (g used (subst IsStocked (sym same) stocked))) h

pub leaf_taken : (old new : PageMap) (page link other : ℕ) (kind : PageKind) (cells : List (List ℕ)) (at : ℕ) (k : Key) → kind ≡ Leaf → other ≡ link → at < length cells
    → key_of (slice_index_or cells at []) ≡ k → (length cells ≡ 1 → ⊥)
    → (IsSome (old page) → IsStocked (node_of kind other (take at cells ++ drop (at + 1) cells)) → HasNode new page (node_of kind other (take at cells ++ drop (at + 1) cells)))
    → SamePages old new (λ n. n ≡ page) → IsSome (old page) → IsStocked (LeafNode link (map entry_of cells)) → LeafLess old new page link (map entry_of cells) k (Done None)
leaf_taken old new page link other kind cells at k e o l key one h same used stocked =
    let now : List (List ℕ) = take at cells ++ drop (at + 1) cells in
    let less = cells_less k cells at l key in
    let node : node_of kind other now ≡ LeafNode link (map entry_of now) = ap (λ x. node_of x other now) e ∙ ap (λ n. LeafNode n (map entry_of now)) o in
    let s : IsStocked (LeafNode link (map entry_of now)) = stocked_less link k (map entry_of cells) (map entry_of now) less (λ m. one (sym (length-map cells entry_of) ∙ m)) stocked in
    (map entry_of now, less, subst (HasNode new page) node (h used (subst IsStocked (sym node) s)), same)

-- ---- leaves

leaf_kind : (kind : PageKind) (link : ℕ) (cells : List (List ℕ)) (next : ℕ) (es : List Entry) → node_of kind link cells ≡ LeafNode next es → (link ≡ next) × ((other : ℕ) → node_of kind other cells ≡ LeafNode other es)
leaf_kind Leaf link cells next es e =
    let f : map entry_of cells ≡ es = cc in
    let g : link ≡ next = cc in
    (g, λ other. ap (LeafNode other) f)
leaf_kind Inner link cells next es e = cc

pub leaf_link : (pages : PageMap) (page : ℕ) (view : PageView) (next : ℕ) (es : List Entry) → Sees pages page view → HasNode pages page (LeafNode next es) → view.link ≡ next
leaf_link pages page view next es s h = (leaf_kind view.kind view.link view.cells next es (s _ h)).0

pub leaves_are_joined : (p0 p1 p2 p3 p4 : PageMap) (left right kept next a b : ℕ) (es ys : List Entry) (view : PageView) (r : Result ⊤ SpaceError) → p1 ≡ p0 → p2 ≡ p1 → Sees p1 kept view
    → ((next_of : ℕ) (xs : List Entry) → HasNode p0 right (LeafNode next_of xs) → next ≡ next_of)
    → (IsSome (p2 left) → IsStocked (node_of view.kind next view.cells) → HasNode p3 left (node_of view.kind next view.cells)) → SamePages p2 p3 (λ n. n ≡ left)
    → OnOk r (p4 right ≡ None) → SamePages p3 p4 (λ n. n ≡ right)
    → HasNode p0 kept (LeafNode a es) → HasNode p0 right (LeafNode b ys) → IsSome (p0 left) → left ≢ right → OnOk r (AreLeavesJoined p0 p4 left right b es)
leaves_are_joined p0 p1 p2 p3 p4 left right kept next a b es ys view r e1 e2 s f h same free others hk hr used ne =
    let hk1 : HasNode p1 kept (LeafNode a es) = subst (λ p. HasNode p kept (LeafNode a es)) (sym e1) hk in
    let is : node_of view.kind next view.cells ≡ LeafNode b es = (leaf_kind view.kind view.link view.cells a es (s _ hk1)).1 next ∙ ap (λ n. LeafNode n es) (f b ys hr) in
    let stocked : IsStocked (LeafNode b es) = hk.stocked in
    let used2 : IsSome (p2 left) = subst (λ p. IsSome (p left)) (sym (e2 ∙ e1)) used in
    let node : HasNode p3 left (LeafNode b es) = subst (HasNode p3 left) is (h used2 (subst IsStocked (sym is) stocked)) in
    on_ok (p4 right ≡ None) (AreLeavesJoined p0 p4 left right b es) r (λ g. record {
      node = node_kept p3 p4 left _ (others left ne) node;
      gone = g;
      others = λ n i. others n (λ x. i (inr x)) ∙ same n (λ x. i (inl x)) ∙ ap (λ p. p n) (e2 ∙ e1);
    }) free

-- ---- inner pages

pub inner_facts : (kind : PageKind) (link : ℕ) (cells : List (List ℕ)) (first : ℕ) (bs : List Branch) → node_of kind link cells ≡ InnerNode first bs → (kind ≡ Inner) × (link ≡ first) × (map branch_of cells ≡ bs)
inner_facts Leaf link cells first bs e = cc
inner_facts Inner link cells first bs e =
    let f : map branch_of cells ≡ bs = cc in
    let g : link ≡ first = cc in
    (refl, g, f)

-- what was freed, and then written
inners_joined : (p0 p1 p2 : PageMap) (left right link first : ℕ) (now bs : List Branch) (r : Result (Option Branch) SpaceError) (Stocked : Type 0) → IsSome (p0 left) → left ≢ right → p1 right ≡ None
    → SamePages p0 p1 (λ n. n ≡ right) → link ≡ first → now ≡ bs → (IsSome (p1 left) → Stocked → IfOk r (InnerWritten p1 p2 left link now)) → Stocked → IfOk r (AreInnersJoined p0 p2 left right first bs)
inners_joined p0 p1 p2 left right link first now bs r Stocked used ne freed same e f write s =
    if_ok (InnerWritten p1 p2 left link now) (AreInnersJoined p0 p2 left right first bs) r
    (λ split w. record { mid = p1; freed = freed; kept = same; written = subst (λ n. InnerWritten p1 p2 left n bs split) e (subst (λ x. InnerWritten p1 p2 left link x split) f w) })
    (write (subst IsSome (sym (same left ne)) used) s)

drop_end : (bs : List Branch) (n : ℕ) → n ≡ length bs → drop n bs ≡ []
drop_end [] zero e = refl
drop_end [] (suc n) e = refl
drop_end (b ∷ bs) zero e = absurd (omega (arith, e))
drop_end (b ∷ bs) (suc n) e = drop_end bs n (omega (arith, e))

take_end : (bs : List Branch) (n : ℕ) → n ≡ length bs → take n bs ≡ bs
take_end bs n e = ap (λ m. take m bs) e ∙ take-length bs

pub branches_at_end : (cells : List (List ℕ)) (n : ℕ) (b x : Branch) → n ≡ length cells → b ≡ x → take n (map branch_of cells) ++ b ∷ drop n (map branch_of cells) ≡ map branch_of cells ++ x ∷ []
branches_at_end cells n b x e f =
    let l : n ≡ length (map branch_of cells) = e ∙ sym (length-map cells branch_of) in
    ap (λ bs. bs ++ b ∷ drop n (map branch_of cells)) (take_end (map branch_of cells) n l) ∙ ap (λ bs. map branch_of cells ++ b ∷ bs) (drop_end (map branch_of cells) n l)
    ∙ ap (λ y. map branch_of cells ++ y ∷ []) f

pub joined_before : (p0 p1 p2 : PageMap) (left right only : ℕ) (cells : List (List ℕ)) (b x : Branch) (r : Result (Option Branch) SpaceError) (Stocked : Type 0) → b ≡ x → p1 right ≡ None
    → SamePages p0 p1 (λ n. n ≡ right) → (IsSome (p1 left) → Stocked → IfOk r (InnerWritten p1 p2 left only (take 0 (map branch_of cells) ++ b ∷ drop 0 (map branch_of cells))))
    → IsSome (p0 left) → left ≢ right → Stocked → IfOk r (AreInnersJoined p0 p2 left right only (x ∷ map branch_of cells))
joined_before p0 p1 p2 left right only cells b x r Stocked e freed same write used ne s =
    inners_joined p0 p1 p2 left right only only _ (x ∷ map branch_of cells) r Stocked used ne freed same refl (ap (λ y. y ∷ map branch_of cells) e) write s

pub joined_behind : (p0 p1 p2 : PageMap) (left right link first n : ℕ) (cells : List (List ℕ)) (b x : Branch) (r : Result (Option Branch) SpaceError) (Stocked : Type 0) → b ≡ x → link ≡ first → n ≡ length cells
    → p1 right ≡ None → SamePages p0 p1 (λ n. n ≡ right) → (IsSome (p1 left) → Stocked → IfOk r (InnerWritten p1 p2 left link (take n (map branch_of cells) ++ b ∷ drop n (map branch_of cells))))
    → IsSome (p0 left) → left ≢ right → Stocked → IfOk r (AreInnersJoined p0 p2 left right first (map branch_of cells ++ x ∷ []))
joined_behind p0 p1 p2 left right link first n cells b x r Stocked e l m freed same write used ne s =
    inners_joined p0 p1 p2 left right link first _ (map branch_of cells ++ x ∷ []) r Stocked used ne freed same l (branches_at_end cells n b x m e) write s

-- why a branch was not put into the one of two inner pages
abbrev pub InnersWith : PageMap → Pair → ℕ → List Branch → Branch → Type 0 → Type 0
InnersWith pages pair first bs b W =
    (lo : Key) → IsSome (pages pair.left) → IsSome (pages pair.right) → pair.left ≢ pair.right → W → IsStocked (InnerNode first bs)
    → (pair.kept ≡ pair.right → RisesBehind lo (b ∷ bs)) → (pair.kept ≢ pair.right → RisesBehind lo (bs ++ b ∷ [])) → ⊥

pub second_not_freed : (p0 : PageMap) (pair : Pair) (first : ℕ) (bs : List Branch) (b : Branch) (W : Type 0) → (W → IsSome (p0 pair.right) → ⊥) → InnersWith p0 pair first bs b W
second_not_freed p0 pair first bs b W f lo used there ne w s before behind = f w there

pub before_refused : (p0 p1 : PageMap) (pair : Pair) (first : ℕ) (cells : List (List ℕ)) (b : Branch) (W0 W1 : Type 0) → pair.kept ≡ pair.right → SamePages p0 p1 (λ n. n ≡ pair.right) → (W0 → W1)
    → ((lo : Key) → IsSome (p1 pair.left) → W1 → IsStocked (InnerNode first (map branch_of cells)) → RisesBehind lo (take 0 (map branch_of cells) ++ b ∷ drop 0 (map branch_of cells)) → ⊥)
    → InnersWith p0 pair first (map branch_of cells) b W0
before_refused p0 p1 pair first cells b W0 W1 k same wh f lo used there ne w s before behind = f lo (subst IsSome (sym (same pair.left ne)) used) (wh w) s (before k)

pub behind_refused : (p0 p1 : PageMap) (pair : Pair) (first n : ℕ) (cells : List (List ℕ)) (b : Branch) (W0 W1 : Type 0) → pair.kept ≢ pair.right → n ≡ length cells → SamePages p0 p1 (λ n. n ≡ pair.right)
    → (W0 → W1) → ((lo : Key) → IsSome (p1 pair.left) → W1 → IsStocked (InnerNode first (map branch_of cells)) → RisesBehind lo (take n (map branch_of cells) ++ b ∷ drop n (map branch_of cells)) → ⊥)
    → InnersWith p0 pair first (map branch_of cells) b W0
behind_refused p0 p1 pair first n cells b W0 W1 k m same wh f lo used there ne w s before behind =
    f lo (subst IsSome (sym (same pair.left ne)) used) (wh w) s (subst (RisesBehind lo) (sym (branches_at_end cells n b b m refl)) (behind k))

-- the branch by its key and child
pub before_as : (p1 p2 : PageMap) (pair : Pair) (only : ℕ) (bs : List Branch) (b x : Branch) (Stocked : Type 0) (r : Result (Option Branch) SpaceError) → (pair.kept ≡ pair.right → b ≡ x)
    → (pair.kept ≡ pair.right → IsSome (p1 pair.left) → pair.left ≢ pair.right → Stocked → IfOk r (AreInnersJoined p1 p2 pair.left pair.right only (b ∷ bs)))
    → pair.kept ≡ pair.right → IsSome (p1 pair.left) → pair.left ≢ pair.right → Stocked → IfOk r (AreInnersJoined p1 p2 pair.left pair.right only (x ∷ bs))
before_as p1 p2 pair only bs b x Stocked r is f k used ne s = subst (λ y. IfOk r (AreInnersJoined p1 p2 pair.left pair.right only (y ∷ bs))) (is k) (f k used ne s)

pub behind_as : (p1 p2 : PageMap) (pair : Pair) (link : ℕ) (bs : List Branch) (b x : Branch) (Stocked : Type 0) (r : Result (Option Branch) SpaceError) → (pair.kept ≢ pair.right → b ≡ x)
    → (pair.kept ≢ pair.right → IsSome (p1 pair.left) → pair.left ≢ pair.right → Stocked → IfOk r (AreInnersJoined p1 p2 pair.left pair.right link (bs ++ b ∷ [])))
    → pair.kept ≢ pair.right → IsSome (p1 pair.left) → pair.left ≢ pair.right → Stocked → IfOk r (AreInnersJoined p1 p2 pair.left pair.right link (bs ++ x ∷ []))
behind_as p1 p2 pair link bs b x Stocked r is f k used ne s = subst (λ y. IfOk r (AreInnersJoined p1 p2 pair.left pair.right link (bs ++ y ∷ []))) (is k) (f k used ne s)

-- a page of which the node was read
pub inner_read : (p0 p1 p2 : PageMap) (pair : Pair) (divider : Key) (only : ℕ) (view : PageView) (r : Result (Option Branch) SpaceError) → p1 ≡ p0 → Sees p0 pair.kept view
    → (pair.kept ≡ pair.right → IsSome (p1 pair.left) → pair.left ≢ pair.right → IsStocked (InnerNode view.link (map branch_of view.cells))
    → IfOk r (AreInnersJoined p1 p2 pair.left pair.right only (record { key = divider; child = view.link } ∷ map branch_of view.cells)))
    → (first : ℕ) (bs : List Branch) → pair.kept ≡ pair.right → HasNode p0 pair.kept (InnerNode first bs) → IsSome (p0 pair.left) → pair.left ≢ pair.right
    → IfOk r (AreInnersJoined p0 p2 pair.left pair.right only (record { key = divider; child = first } ∷ bs))
inner_read p0 p1 p2 pair divider only view r e s f first bs k h used ne =
    let x = inner_facts view.kind view.link view.cells first bs (s _ h) in
    let stocked : IsStocked (InnerNode view.link (map branch_of view.cells)) = rw x.2 h.stocked in
    let g = f k (subst (λ p. IsSome (p pair.left)) (sym e) used) ne stocked in
    if_ok (AreInnersJoined p1 p2 pair.left pair.right only (record { key = divider; child = view.link } ∷ map branch_of view.cells)) (AreInnersJoined p0 p2 pair.left pair.right only (record { key = divider; child = first } ∷ bs)) r
    (λ split w. subst (λ p. AreInnersJoined p p2 pair.left pair.right only (record { key = divider; child = first } ∷ bs) split) e
    (subst (λ c. AreInnersJoined p1 p2 pair.left pair.right only (record { key = divider; child = c } ∷ bs) split) x.1
    (subst (λ cs. AreInnersJoined p1 p2 pair.left pair.right only (record { key = divider; child = view.link } ∷ cs) split) x.2 w))) g

pub inner_read_behind : (p0 p1 p2 : PageMap) (pair : Pair) (divider : Key) (only : ℕ) (view : PageView) (r : Result (Option Branch) SpaceError) → p1 ≡ p0 → Sees p0 pair.kept view
    → (pair.kept ≢ pair.right → IsSome (p1 pair.left) → pair.left ≢ pair.right → IsStocked (InnerNode view.link (map branch_of view.cells))
    → IfOk r (AreInnersJoined p1 p2 pair.left pair.right view.link (map branch_of view.cells ++ record { key = divider; child = only } ∷ [])))
    → (first : ℕ) (bs : List Branch) → pair.kept ≢ pair.right → HasNode p0 pair.kept (InnerNode first bs) → IsSome (p0 pair.left) → pair.left ≢ pair.right
    → IfOk r (AreInnersJoined p0 p2 pair.left pair.right first (bs ++ record { key = divider; child = only } ∷ []))
inner_read_behind p0 p1 p2 pair divider only view r e s f first bs k h used ne =
    let x = inner_facts view.kind view.link view.cells first bs (s _ h) in
    let stocked : IsStocked (InnerNode view.link (map branch_of view.cells)) = rw x.2 h.stocked in
    let g = f k (subst (λ p. IsSome (p pair.left)) (sym e) used) ne stocked in
    if_ok (AreInnersJoined p1 p2 pair.left pair.right view.link (map branch_of view.cells ++ record { key = divider; child = only } ∷ [])) (AreInnersJoined p0 p2 pair.left pair.right first (bs ++ record { key = divider; child = only } ∷ [])) r
    (λ split w. subst (λ p. AreInnersJoined p p2 pair.left pair.right first (bs ++ record { key = divider; child = only } ∷ []) split) e
    (subst (λ c. AreInnersJoined p1 p2 pair.left pair.right c (bs ++ record { key = divider; child = only } ∷ []) split) x.1
    (subst (λ cs. AreInnersJoined p1 p2 pair.left pair.right view.link (cs ++ record { key = divider; child = only } ∷ []) split) x.2 w))) g

-- why the node was not read, or not joined
abbrev pub InnersFound : PageMap → Pair → Key → ℕ → Type 0 → Type 0
InnersFound pages pair divider only W =
    (lo : Key) (first : ℕ) (bs : List Branch) → HasNode pages pair.kept (InnerNode first bs) → IsSome (pages pair.left) → IsSome (pages pair.right) → pair.left ≢ pair.right → length divider ≤ 600 → W
    → (pair.kept ≡ pair.right → RisesBehind lo (record { key = divider; child = first } ∷ bs))
    → (pair.kept ≢ pair.right → RisesBehind lo (bs ++ record { key = divider; child = only } ∷ [])) → ⊥

pub inner_not_read : (p0 : PageMap) (pair : Pair) (divider : Key) (only : ℕ) (W : Type 0) → ((node : Node) → HasNode p0 pair.kept node → ⊥) → InnersFound p0 pair divider only W
inner_not_read p0 pair divider only W f lo first bs h used there ne short w before behind = f _ h

pub inner_is_leaf : (p0 : PageMap) (pair : Pair) (divider : Key) (only : ℕ) (view : PageView) (W : Type 0) → Sees p0 pair.kept view → view.kind ≡ Leaf → InnersFound p0 pair divider only W
inner_is_leaf p0 pair divider only view W s k lo first bs h used there ne short w before behind =
    let x = inner_facts view.kind view.link view.cells first bs (s _ h) in
    let e : Leaf ≡ Inner = sym k ∙ x.0 in cc

pub inner_not_joined : (p0 p1 : PageMap) (pair : Pair) (divider : Key) (only : ℕ) (view : PageView) (b : Branch) (W0 W1 : Type 0) → p1 ≡ p0 → Sees p0 pair.kept view → (W0 → W1)
    → (pair.kept ≡ pair.right → b ≡ record { key = divider; child = view.link }) → (pair.kept ≢ pair.right → b ≡ record { key = divider; child = only })
    → InnersWith p1 pair view.link (map branch_of view.cells) b W1 → InnersFound p0 pair divider only W0
inner_not_joined p0 p1 pair divider only view b W0 W1 e s wh first_is last_is f lo first bs h used there ne short w before behind =
    let x = inner_facts view.kind view.link view.cells first bs (s _ h) in
    let stocked : IsStocked (InnerNode view.link (map branch_of view.cells)) = rw x.2 h.stocked in
    f lo (subst (λ p. IsSome (p pair.left)) (sym e) used) (subst (λ p. IsSome (p pair.right)) (sym e) there) ne (wh w) stocked
    (λ k. let up : RisesBehind lo (record { key = divider; child = view.link } ∷ map branch_of view.cells) = rw x.2 (before k) in
    subst (λ y. RisesBehind lo (y ∷ map branch_of view.cells)) (sym (first_is k)) up)
    (λ k. let up : RisesBehind lo (map branch_of view.cells ++ record { key = divider; child = only } ∷ []) = rw x.2 (behind k) in
    subst (λ y. RisesBehind lo (map branch_of view.cells ++ y ∷ [])) (sym (last_is k)) up)

pub divider_is_long : (p0 : PageMap) (pair : Pair) (divider : Key) (only : ℕ) (W : Type 0) → 600 < length divider → InnersFound p0 pair divider only W
divider_is_long p0 pair divider only W l lo first bs h used there ne short w before behind = omega (arith, l, short)

-- ---- refusals

pub read_then : (L : SpaceError → Type 0) (H G : Type 0) (a b c : ℕ) (f : SpaceError) → a ≤ b → (H → G) → ReadRefused H b c f → ChangeRefused L G a c f
read_then L H G a b c f o g h = change_refused L G G a b c f o (λ x. x) (read_as_change L H G b c f g h)

-- what the code needs to know of two leaves
abbrev pub Leaves : PageMap → ℕ → ℕ → ℕ → Type 0 → Type 0
Leaves pages left right kept W =
    (a b : ℕ) (es ys : List Entry) → HasNode pages kept (LeafNode a es) → HasNode pages right (LeafNode b ys) → IsSome (pages left) → left ≢ right → W → ⊥

pub right_not_read : (p0 : PageMap) (left right kept : ℕ) (W : Type 0) → ((node : Node) → HasNode p0 right node → ⊥) → Leaves p0 left right kept W
right_not_read p0 left right kept W f a b es ys hk hr used ne w = f _ hr

pub kept_not_read : (p0 p1 : PageMap) (left right kept : ℕ) (W : Type 0) → p1 ≡ p0 → ((node : Node) → HasNode p1 kept node → ⊥) → Leaves p0 left right kept W
kept_not_read p0 p1 left right kept W e f a b es ys hk hr used ne w = f _ (subst (λ p. HasNode p kept (LeafNode a es)) (sym e) hk)

pub left_not_written : (p0 p2 : PageMap) (left right kept : ℕ) (W : Type 0) → p2 ≡ p0 → p2 left ≡ None → Leaves p0 left right kept W
left_not_written p0 p2 left right kept W e n a b es ys hk hr used ne w = not_fresh p2 left (subst (λ p. IsSome (p left)) (sym e) used) n

pub right_not_freed : (p0 p2 p3 : PageMap) (left right kept : ℕ) (W0 W3 : Type 0) → p2 ≡ p0 → SamePages p2 p3 (λ n. n ≡ left) → (W0 → W3) → (W3 → IsSome (p3 right) → ⊥) → Leaves p0 left right kept W0
right_not_freed p0 p2 p3 left right kept W0 W3 e same wh f a b es ys hk hr used ne w =
    f (wh w) (subst IsSome (sym (same right (λ g. ne (sym g)) ∙ ap (λ p. p right) e)) (node_is_used p0 right _ hr))

-- ---- branches taken out

pub branches_taken : (old new : PageMap) (page link other : ℕ) (kind : PageKind) (cells : List (List ℕ)) (a b : ℕ) → kind ≡ Inner → other ≡ link
    → (take a (map branch_of cells) ++ drop b (map branch_of cells) ≡ [] → ⊥)
    → (IsSome (old page) → IsStocked (node_of kind other (take a cells ++ drop b cells)) → HasNode new page (node_of kind other (take a cells ++ drop b cells)))
    → SamePages old new (λ n. n ≡ page) → IsSome (old page) → IsStocked (InnerNode link (map branch_of cells))
    → Rewritten old new page link (take a (map branch_of cells) ++ drop b (map branch_of cells)) (Done None)
branches_taken old new page link other kind cells a b e o some h same used stocked =
    let now : List Branch = take a (map branch_of cells) ++ drop b (map branch_of cells) in
    let node : node_of kind other (take a cells ++ drop b cells) ≡ InnerNode link now =
    ap (λ x. node_of x other (take a cells ++ drop b cells)) e ∙ ap (λ n. InnerNode n (map branch_of (take a cells ++ drop b cells))) o ∙ ap (InnerNode link) (branches_without a b cells) in
    let s : IsStocked (InnerNode link now) = stocked_without link (map branch_of cells) a b some stocked in
    rewritten_less old new page link now some (subst (HasNode new page) node (h used (subst IsStocked (sym node) s))) same

-- ---- branches exchanged, in a page that was read

pub is_none : {A : Type 0} (o : Option A) → ((x : A) → o ≡ Some x → ⊥) → o ≡ None
is_none None f = refl
is_none (Some x) f = absurd (f x refl)

-- why they were not
abbrev pub NotExchanged : PageMap → ℕ → ℕ → ℕ → Option Branch → Type 0 → Type 0
NotExchanged pages page at behind branch W =
    (lo : Key) (first : ℕ) (bs : List Branch) → HasNode pages page (InnerNode first bs) → behind ≤ length bs → W → RisesBehind lo (take at bs ++ (option_to_list branch ++ drop behind bs)) → ⊥

pub page_not_read : (p0 : PageMap) (page at behind : ℕ) (branch : Option Branch) (W : Type 0) → ((node : Node) → HasNode p0 page node → ⊥) → NotExchanged p0 page at behind branch W
page_not_read p0 page at behind branch W f lo first bs h l w r = f _ h

pub page_is_other : (p0 : PageMap) (page : ℕ) (view : PageView) (at behind : ℕ) (branch : Option Branch) (W : Type 0) → Sees p0 page view → (view.kind ≡ Inner → behind ≤ length view.cells → ⊥)
    → NotExchanged p0 page at behind branch W
page_is_other p0 page view at behind branch W s f lo first bs h l w r =
    let x = inner_facts view.kind view.link view.cells first bs (s _ h) in f x.0 (omega (arith, l, ap length x.2, length-map view.cells branch_of))

pub none_not_left_out : (p0 p1 : PageMap) (page at behind : ℕ) (branch : Option Branch) (W : Type 0) → p1 ≡ p0 → p1 page ≡ None → NotExchanged p0 page at behind branch W
none_not_left_out p0 p1 page at behind branch W e none lo first bs h l w r = not_fresh p1 page (subst (λ p. IsSome (p page)) (sym e) (node_is_used p0 page _ h)) none

pub branch_not_written : (p0 p1 : PageMap) (page : ℕ) (view : PageView) (at behind : ℕ) (branch : Option Branch) (x b : Branch) (W0 W1 : Type 0) → p1 ≡ p0 → Sees p0 page view → branch ≡ Some x → b ≡ x → (W0 → W1)
    → ((lo : Key) → IsSome (p1 page) → W1 → IsStocked (InnerNode view.link (map branch_of view.cells)) → RisesBehind lo (take at (map branch_of view.cells) ++ b ∷ drop behind (map branch_of view.cells)) → ⊥)
    → NotExchanged p0 page at behind branch W0
branch_not_written p0 p1 page view at behind branch x b W0 W1 e s is same wh f lo first bs h l w r =
    let y = inner_facts view.kind view.link view.cells first bs (s _ h) in
    let stocked : IsStocked (InnerNode view.link (map branch_of view.cells)) = rw y.2 h.stocked in
    let up : RisesBehind lo (take at bs ++ b ∷ drop behind bs) =
    subst (λ c. RisesBehind lo (take at bs ++ c ∷ drop behind bs)) (sym same) (subst (λ o. RisesBehind lo (take at bs ++ (option_to_list o ++ drop behind bs))) is r) in
    f lo (subst (λ p. IsSome (p page)) (sym e) (node_is_used p0 page _ h)) (wh w) stocked (subst (λ cs. RisesBehind lo (take at cs ++ b ∷ drop behind cs)) (sym y.2) up)

pub without_branch : (p0 p1 p2 : PageMap) (page : ℕ) (view : PageView) (at behind : ℕ) (branch : Option Branch) (r : Result Removed SpaceError) → p1 ≡ p0 → Sees p0 page view → branch ≡ None
    → (IsSome (p1 page) → IsStocked (InnerNode view.link (map branch_of view.cells))
    → IfOk r (Rewritten p1 p2 page view.link (take at (map branch_of view.cells) ++ drop behind (map branch_of view.cells))))
    → (first : ℕ) (bs : List Branch) → HasNode p0 page (InnerNode first bs) → behind ≤ length bs → IfOk r (Rewritten p0 p2 page first (take at bs ++ (option_to_list branch ++ drop behind bs)))
without_branch p0 p1 p2 page view at behind branch r e s none f first bs h l =
    let y = inner_facts view.kind view.link view.cells first bs (s _ h) in
    let stocked : IsStocked (InnerNode view.link (map branch_of view.cells)) = rw y.2 h.stocked in
    if_ok (Rewritten p1 p2 page view.link (take at (map branch_of view.cells) ++ drop behind (map branch_of view.cells))) (Rewritten p0 p2 page first (take at bs ++ (option_to_list branch ++ drop behind bs))) r
    (λ x w. none_put p0 p2 page first bs at behind branch x none
    (subst (λ p. Rewritten p p2 page first (take at bs ++ drop behind bs) x) e
    (subst (λ n. Rewritten p1 p2 page n (take at bs ++ drop behind bs) x) y.1
    (subst (λ cs. Rewritten p1 p2 page view.link (take at cs ++ drop behind cs) x) y.2 w))))
    (f (subst (λ p. IsSome (p page)) (sym e) (node_is_used p0 page _ h)) stocked)

pub with_branch : (p0 p1 p2 : PageMap) (page link : ℕ) (view : PageView) (at behind : ℕ) (branch : Option Branch) (x b : Branch) (split : Option Branch) → p1 ≡ p0 → Sees p0 page view → branch ≡ Some x → b ≡ x
    → link ≡ view.link
    → (IsSome (p1 page) → IsStocked (InnerNode view.link (map branch_of view.cells)) → InnerWritten p1 p2 page link (take at (map branch_of view.cells) ++ b ∷ drop behind (map branch_of view.cells)) split)
    → (first : ℕ) (bs : List Branch) → HasNode p0 page (InnerNode first bs) → behind ≤ length bs → Rewritten p0 p2 page first (take at bs ++ (option_to_list branch ++ drop behind bs)) (Done split)
with_branch p0 p1 p2 page link view at behind branch x b split e s is same l f first bs h within =
    let y = inner_facts view.kind view.link view.cells first bs (s _ h) in
    let stocked : IsStocked (InnerNode view.link (map branch_of view.cells)) = rw y.2 h.stocked in
    let w = f (subst (λ p. IsSome (p page)) (sym e) (node_is_used p0 page _ h)) stocked in
    let w1 = subst (λ c. InnerWritten p1 p2 page link (take at (map branch_of view.cells) ++ c ∷ drop behind (map branch_of view.cells)) split) same w in
    let w2 = subst (λ cs. InnerWritten p1 p2 page link (take at cs ++ x ∷ drop behind cs) split) y.2 w1 in
    branch_put p0 p2 page link first bs at behind branch x split is (l ∙ y.1) (subst (λ p. InnerWritten p p2 page link (take at bs ++ x ∷ drop behind bs) split) e w2)
