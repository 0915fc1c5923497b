-- Lists of cells: parts of them, and the entries and branches that they show.
use Rattle.std.proofs.Common.{◌≡◌, ℕ, zero, suc, ◌+◌, ◌<◌, ◌≤◌, List, [], ◌∷◌, ◌++◌, map, length, take, drop, min, refl, sym, ap, ◌∙◌, subst, Bool, true, false, not, if◌then◌else◌, arith, add-one, length-drop, inl, inr, ◌⊎◌, Option, None, IsSome, ◌-◌, Result, IfOk}
use Rattle.std.proofs.Math.Seq.{take-length}
use Rattle.std.specs.Borrow.{Bor}
use Rattle.std.proofs.lemmas.List.{get_or-take, get_or-drop, length-take, length-take-le}
use Rattle.page_space.specs.Space.{PageMap}
use Rattle.sqlrecord.specs.Build.{lent, Fits}
use Rattle.sqlrecord.specs.Cell.{IsLeafCell, IsInnerCell}
use Rattle.page_space.specs.declared.error.SpaceError.{SpaceError}
use Rattle.sqlrecord.specs.Page.{child_of}
use Rattle.btree_read.specs.Nodes.{LeafNode, InnerNode, HasNode, IsStocked, IsSmall, IsSmallBranch}
use Rattle.btree_read.proofs.ListLemmas.{each_append, each_left, each_right}
use Rattle.btree_read.proofs.NodeLemmas.{node_kept}
use Rattle.btree.specs.Grow.{SamePages, IsLeafCut, IsInnerCut, LeafWritten, InnerWritten}
use Rattle.btree.proofs.LeafLemmas.{put_each, used_not_fresh}
use Rattle.std.specs.Prelude.{slice_index_or}
use Rattle.std.specs.List.{AllByRecursion}
use Rattle.std.proofs.Math.Seq.{take-nil, drop-nil}
use Rattle.std.proofs.lemmas.List.{take-append-drop, map-append, take-map, drop-map}
use Rattle.sqlrecord.specs.declared.kind.PageKind.{PageKind}
use Rattle.sqlrecord.specs.Page.{key_of, AreCells, IsCell}
use Rattle.btree_read.specs.declared.entry.Entry.{Entry}
use Rattle.btree_read.specs.declared.entry.Branch.{Branch}
use Rattle.btree_read.specs.declared.entry.Start.TheVariants.{At}
use Rattle.btree_read.specs.Nodes.{Key, precedes, entry_of, branch_of}
use Rattle.btree_read.specs.Sorted.{is_from, put}
use Rattle.btree_read.proofs.OrderLemmas.{not_both}
use Rattle.btree_read.proofs.PlaceLemmas.{key_at}

parts_of_none : (at : ℕ) (cell : List ℕ) → take at [] ++ cell ∷ drop at [] ≡ cell ∷ []
parts_of_none at cell = rw (take-nil at, drop-nil at)

pub put_new : (k : Key) (v : List ℕ) (cells : List (List ℕ)) (at : ℕ) (cell : List ℕ) → at ≤ length cells → ((i : ℕ) → i < at → is_from At k (key_at cells i) ≡ false)
    → (at < length cells → precedes k (key_at cells at) ≡ true) → entry_of cell ≡ record { key = k; value = v }
    → put k v (map entry_of cells) ≡ map entry_of (take at cells ++ cell ∷ drop at cells)
put_new k v [] at cell l f g e = ap (λ x. x ∷ []) (sym e) ∙ ap (λ cs. map entry_of cs) (sym (parts_of_none at cell))
put_new k v (c ∷ cells) zero cell l f g e =
    let h : precedes k (key_of c) ≡ true = g (omega arith) in
    rw (not_both k (key_of c) h, h) (ap (λ x. x ∷ entry_of c ∷ map entry_of cells) (sym e))
put_new k v (c ∷ cells) (suc at) cell l f g e =
    by (precedes (key_of c) k) (f 0 (omega arith)) (put_new k v cells at cell (omega arith) (λ i h. f (suc i) (omega arith)) (λ h. g (omega arith)) e)
  where
    by : (p : Bool) → not p ≡ false → put k v (map entry_of cells) ≡ map entry_of (take at cells ++ cell ∷ drop at cells)
        → (if p then entry_of c ∷ put k v (map entry_of cells) else if precedes k (key_of c) then record { key = k; value = v } ∷ entry_of c ∷ map entry_of cells else record { key = k; value = v } ∷ map entry_of cells)
        ≡ entry_of c ∷ map entry_of (take at cells ++ cell ∷ drop at cells)
    by true n h = ap (λ es. entry_of c ∷ es) h
    by false n h = cc

pub put_over : (k : Key) (v : List ℕ) (cells : List (List ℕ)) (at : ℕ) (cell : List ℕ) → at < length cells → ((i : ℕ) → i < at → is_from At k (key_at cells i) ≡ false)
    → is_from At k (key_at cells at) ≡ true → precedes k (key_at cells at) ≡ false → entry_of cell ≡ record { key = k; value = v }
    → put k v (map entry_of cells) ≡ map entry_of (take at cells ++ cell ∷ drop (suc at) cells)
put_over k v [] at cell l f g n e = absurd (omega arith)
put_over k v (c ∷ cells) zero cell l f g n e = by (precedes (key_of c) k) (precedes k (key_of c)) g n
  where
    by : (p q : Bool) → not p ≡ true → q ≡ false
        → (if p then entry_of c ∷ put k v (map entry_of cells) else if q then record { key = k; value = v } ∷ entry_of c ∷ map entry_of cells else record { key = k; value = v } ∷ map entry_of cells)
        ≡ entry_of cell ∷ map entry_of cells
    by true q g n = cc
    by false true g n = cc
    by false false g n = ap (λ x. x ∷ map entry_of cells) (sym e)
put_over k v (c ∷ cells) (suc at) cell l f g n e =
    by (precedes (key_of c) k) (f 0 (omega arith)) (put_over k v cells at cell (omega arith) (λ i h. f (suc i) (omega arith)) g n e)
  where
    by : (p : Bool) → not p ≡ false → put k v (map entry_of cells) ≡ map entry_of (take at cells ++ cell ∷ drop (suc at) cells)
        → (if p then entry_of c ∷ put k v (map entry_of cells) else if precedes k (key_of c) then record { key = k; value = v } ∷ entry_of c ∷ map entry_of cells else record { key = k; value = v } ∷ map entry_of cells)
        ≡ entry_of c ∷ map entry_of (take at cells ++ cell ∷ drop (suc at) cells)
    by true w h = ap (λ es. entry_of c ∷ es) h
    by false w h = cc

pub put_over_to : (k : Key) (v : List ℕ) (cells : List (List ℕ)) (at : ℕ) (cell : List ℕ) → at < length cells → ((i : ℕ) → i < at → is_from At k (key_at cells i) ≡ false)
    → is_from At k (key_at cells at) ≡ true → precedes k (key_at cells at) ≡ false → entry_of cell ≡ record { key = k; value = v }
    → put k v (map entry_of cells) ≡ map entry_of (take at cells ++ cell ∷ drop (at + 1) cells)
put_over_to k v cells at cell l f g n e = put_over k v cells at cell l f g n e ∙ ap (λ x. map entry_of (take at cells ++ cell ∷ drop x cells)) (sym (add-one at))

-- ---- parts of a page's cells

pub are_take : (kind : PageKind) (cells : List (List ℕ)) (at : ℕ) → AreCells kind cells → AreCells kind (take at cells)
are_take kind cells at w = record {
  formed = λ i h. let l : length (take at cells) ≡ min at (length cells) = length-take at cells in
      let a : i < at = omega (arith, h, l) in
      subst (IsCell kind) (sym (get_or-take at cells i [] a)) (w.formed i (omega (arith, h, l)));
  rising = λ i h. let l : length (take at cells) ≡ min at (length cells) = length-take at cells in
      let a : i < at = omega (arith, h, l) in
      let b : i + 1 < at = omega (arith, h, l) in
      rw (get_or-take at cells i [] a, get_or-take at cells (i + 1) [] b) (w.rising i (omega (arith, h, l)));
}

sum_on : (a i : ℕ) → a + (i + 1) ≡ (a + i) + 1
sum_on a i = omega arith

pub are_drop : (kind : PageKind) (cells : List (List ℕ)) (at : ℕ) → AreCells kind cells → AreCells kind (drop at cells)
are_drop kind cells at w = record {
  formed = λ i h. subst (IsCell kind) (sym (get_or-drop at cells i [])) (w.formed (at + i) (omega (arith, h, length-drop at cells)));
  rising = λ i h. rw (get_or-drop at cells i [], get_or-drop at cells (i + 1) [], sum_on at i) (w.rising (at + i) (omega (arith, h, length-drop at cells)));
}

pub lent_take : (cells : List (Bor (List ℕ))) (at : ℕ) → lent (take at cells) ≡ take at (lent cells)
lent_take cells at = sym (take-map (λ (c : Bor (List ℕ)). c.now) at cells)

pub lent_drop : (cells : List (Bor (List ℕ))) (at : ℕ) → lent (drop at cells) ≡ drop at (lent cells)
lent_drop cells at = sym (drop-map (λ (c : Bor (List ℕ)). c.now) at cells)

pub now_at : (cells : List (Bor (List ℕ))) (i : ℕ) (d : Bor (List ℕ)) → i < length cells → slice_index_or (lent cells) i [] ≡ (slice_index_or cells i d).now
now_at [] i d h = absurd (omega arith)
now_at (c ∷ cells) zero d h = refl
now_at (c ∷ cells) (suc i) d h = now_at cells i d (omega arith)

-- the first of the second part
pub first_formed : (kind : PageKind) (cells right : List (Bor (List ℕ))) (at : ℕ) (d : Bor (List ℕ)) → AreCells kind (lent cells) → right ≡ drop at cells → at + 1 ≤ length cells
    → IsCell kind (slice_index_or right 0 d).now
first_formed kind cells right at d w e l =
    let n : 0 < length right = omega (arith, ap length e, length-drop at cells) in
    let all : AreCells kind (lent right) = subst (AreCells kind) (sym (ap lent e ∙ lent_drop cells at)) (are_drop kind (lent cells) at w) in
    let m : length (lent right) ≡ length right = same_length right in
    subst (IsCell kind) (now_at right 0 d n) (all.formed 0 (omega (arith, m, n)))
  where
    same_length : (xs : List (Bor (List ℕ))) → length (lent xs) ≡ length xs
    same_length [] = refl
    same_length (x ∷ xs) = ap suc (same_length xs)

-- ---- a page and a new one

pub record AreWritten (old new : PageMap) (page child : ℕ) (Left Right : PageMap → Type 0) : Type 0 where
  pub left_node : Left new
  pub right_node : Right new
  pub others : SamePages old new (λ n. (n ≡ page) ⊎ (n ≡ child))

pub two_pages : (old mid low new : PageMap) (page child : ℕ) (left right : _) → IsSome (old page) → old child ≡ None → IsSome (mid child)
    → SamePages old mid (λ n. n ≡ child)
    → (IsSome (mid page) → IsStocked left → HasNode low page left) → SamePages mid low (λ n. n ≡ page)
    → (IsSome (low child) → IsStocked right → HasNode new child right) → SamePages low new (λ n. n ≡ child)
    → IsStocked left → IsStocked right
    → AreWritten old new page child (λ pages. HasNode pages page left) (λ pages. HasNode pages child right)
two_pages old mid low new page child left right used fresh there a f b g c hl hr =
    let ne : page ≡ child → ⊥ = used_not_fresh old page child used fresh in
    let mid_used : IsSome (mid page) = rw (a page ne) used in
    let low_used : IsSome (low child) = rw (b child (λ e. ne (sym e))) there in
    record {
      left_node = node_kept low new page left (c page ne) (f mid_used hl);
      right_node = g low_used hr;
      others = λ n h. c n (λ e. h (inr e)) ∙ b n (λ e. h (inl e)) ∙ a n (λ e. h (inr e));
    }

no_cons : {X : Type 0} (x : X) (xs : List X) → (x ∷ xs) ≡ [] → ⊥
no_cons x xs e = cc

-- the left part is not empty, and the right part begins with a cell
record IsParted (cells left right : List (List ℕ)) : Type 0 where
  pub x : List ℕ
  pub xs : List (List ℕ)
  pub y : List ℕ
  pub ys : List (List ℕ)
  pub left_is : left ≡ x ∷ xs
  pub right_is : right ≡ y ∷ ys
  pub all : cells ≡ (x ∷ xs) ++ y ∷ ys

parted : (cells left right : List (List ℕ)) (at : ℕ) → 0 < at → at + 1 ≤ length cells → left ≡ take at cells → right ≡ drop at cells → IsParted cells left right
parted cells left right at lo hi e f = by left right refl refl
  where
    by : (l r : List (List ℕ)) → l ≡ left → r ≡ right → IsParted cells left right
    by [] r g h = absurd (omega (arith, ap length (g ∙ e), length-take-le at cells (omega arith)))
    by (x ∷ xs) [] g h = absurd (omega (arith, ap length (h ∙ f), length-drop at cells))
    by (x ∷ xs) (y ∷ ys) g h = record {
      x = x;
      xs = xs;
      y = y;
      ys = ys;
      left_is = sym g;
      right_is = sym h;
      all = sym (take-append-drop at cells) ∙ ap (λ l. l ++ drop at cells) (sym (g ∙ e)) ∙ ap (λ r. (x ∷ xs) ++ r) (sym (h ∙ f));
    }

pub leaf_is_cut : (old mid low new : PageMap) (page child next : ℕ) (cells left right : List (List ℕ)) (at : ℕ) (key : Key)
    → 0 < at → at + 1 ≤ length cells → left ≡ take at cells → right ≡ drop at cells → key ≡ key_of (slice_index_or right 0 [])
    → IsSome (old page) → old child ≡ None → IsSome (mid child)
    → SamePages old mid (λ n. n ≡ child)
    → (IsSome (mid page) → IsStocked (LeafNode child (map entry_of left)) → HasNode low page (LeafNode child (map entry_of left))) → SamePages mid low (λ n. n ≡ page)
    → (IsSome (low child) → IsStocked (LeafNode next (map entry_of right)) → HasNode new child (LeafNode next (map entry_of right))) → SamePages low new (λ n. n ≡ child)
    → IsStocked (LeafNode next (map entry_of cells))
    → IsLeafCut old new page next (map entry_of cells) (record { key = key; child = child })
leaf_is_cut old mid low new page child next cells left right at key lo hi e f k used fresh there a g b h c s =
    let p = parted cells left right at lo hi e f in
    let parts : map entry_of cells ≡ (entry_of p.x ∷ map entry_of p.xs) ++ entry_of p.y ∷ map entry_of p.ys = ap (map entry_of) p.all ∙ map-append entry_of (p.x ∷ p.xs) (p.y ∷ p.ys) in
    let small = subst (AllByRecursion IsSmall) parts s.1 in
    let el : map entry_of left ≡ entry_of p.x ∷ map entry_of p.xs = ap (map entry_of) p.left_is in
    let er : map entry_of right ≡ entry_of p.y ∷ map entry_of p.ys = ap (map entry_of) p.right_is in
    let w = two_pages old mid low new page child (LeafNode child (entry_of p.x ∷ map entry_of p.xs)) (LeafNode next (entry_of p.y ∷ map entry_of p.ys)) used fresh there a
    (subst (λ es. IsSome (mid page) → IsStocked (LeafNode child es) → HasNode low page (LeafNode child es)) el g) b
    (subst (λ es. IsSome (low child) → IsStocked (LeafNode next es) → HasNode new child (LeafNode next es)) er h) c
    (λ z. no_cons _ _ z, each_left IsSmall (entry_of p.x ∷ map entry_of p.xs) _ small)
    (λ z. no_cons _ _ z, each_right IsSmall (entry_of p.x ∷ map entry_of p.xs) _ small) in
    record {
      x = entry_of p.x;
      xs = map entry_of p.xs;
      y = entry_of p.y;
      ys = map entry_of p.ys;
      parts = parts;
      key = k ∙ ap (λ r. key_of (slice_index_or r 0 [])) p.right_is;
      fresh = fresh;
      left = w.left_node;
      right = w.right_node;
      others = w.others;
    }

pub inner_is_cut : (old mid low new : PageMap) (page child first below : ℕ) (cells left right rest : List (List ℕ)) (at : ℕ) (key : Key)
    → 0 < at → at + 2 ≤ length cells → left ≡ take at cells → right ≡ drop at cells → rest ≡ drop 1 right
    → key ≡ key_of (slice_index_or right 0 []) → below ≡ child_of (slice_index_or right 0 [])
    → IsSome (old page) → old child ≡ None → IsSome (mid child)
    → SamePages old mid (λ n. n ≡ child)
    → (IsSome (mid page) → IsStocked (InnerNode first (map branch_of left)) → HasNode low page (InnerNode first (map branch_of left))) → SamePages mid low (λ n. n ≡ page)
    → (IsSome (low child) → IsStocked (InnerNode below (map branch_of rest)) → HasNode new child (InnerNode below (map branch_of rest))) → SamePages low new (λ n. n ≡ child)
    → IsStocked (InnerNode first (map branch_of cells))
    → IsInnerCut old new page first (map branch_of cells) (record { key = key; child = child })
inner_is_cut old mid low new page child first below cells left right rest at key lo hi e f r k m used fresh there a g b h c s =
    let p = parted cells left right at lo (omega arith) e f in
    let parts : map branch_of cells ≡ map branch_of (p.x ∷ p.xs) ++ branch_of p.y ∷ map branch_of p.ys = ap (map branch_of) p.all ∙ map-append branch_of (p.x ∷ p.xs) (p.y ∷ p.ys) in
    let small = subst (AllByRecursion IsSmallBranch) parts s.1 in
    let el : map branch_of left ≡ map branch_of (p.x ∷ p.xs) = ap (map branch_of) p.left_is in
    let er : map branch_of rest ≡ map branch_of p.ys = ap (map branch_of) (r ∙ ap (drop 1) p.right_is) in
    let eb : below ≡ child_of p.y = m ∙ ap (λ x. child_of (slice_index_or x 0 [])) p.right_is in
    let some : map branch_of p.ys ≡ [] → ⊥ = λ z. not_empty p.ys (omega (arith, ap length p.right_is, ap length f, length-drop at cells)) z in
    let w = two_pages old mid low new page child (InnerNode first (map branch_of (p.x ∷ p.xs))) (InnerNode (child_of p.y) (map branch_of p.ys)) used fresh there a
    (subst (λ bs. IsSome (mid page) → IsStocked (InnerNode first bs) → HasNode low page (InnerNode first bs)) el g) b
    (subst (λ x. IsSome (low child) → IsStocked (InnerNode x (map branch_of p.ys)) → HasNode new child (InnerNode x (map branch_of p.ys))) eb
    (subst (λ bs. IsSome (low child) → IsStocked (InnerNode below bs) → HasNode new child (InnerNode below bs)) er h)) c
    (λ z. no_cons _ _ z, each_left IsSmallBranch (map branch_of (p.x ∷ p.xs)) _ small)
    (some, (each_right IsSmallBranch (map branch_of (p.x ∷ p.xs)) _ small).1) in
    record {
      xs = map branch_of (p.x ∷ p.xs);
      y = branch_of p.y;
      ys = map branch_of p.ys;
      parts = parts;
      key = k ∙ ap (λ r. key_of (slice_index_or r 0 [])) p.right_is;
      fresh = fresh;
      left = w.left_node;
      right = w.right_node;
      others = w.others;
    }
  where
    not_empty : (ys : List (List ℕ)) → 0 < length ys → map branch_of ys ≡ [] → ⊥
    not_empty [] l z = omega arith
    not_empty (y ∷ ys) l z = cc

-- ---- a page with one more cell

pub put_some : (k : Key) (v : List ℕ) (es : List Entry) → put k v es ≡ [] → ⊥
put_some k v [] e = cc
put_some k v (x ∷ es) e = by (precedes x.key k) (precedes k x.key) e
  where
    by : (p q : Bool) → (if p then x ∷ put k v es else if q then record { key = k; value = v } ∷ x ∷ es else record { key = k; value = v } ∷ es) ≡ [] → ⊥
    by true q e = cc
    by false true e = cc
    by false false e = cc

pub stocked_put : (next : ℕ) (k : Key) (v : List ℕ) (es : List Entry) → IsSmall (record { key = k; value = v }) → IsStocked (LeafNode next es) → IsStocked (LeafNode next (put k v es))
stocked_put next k v es h s = (put_some k v es, put_each IsSmall k v es h s.1)

pub stocked_branch : (first : ℕ) (at : ℕ) (b : Branch) (bs : List Branch) → IsSmallBranch b → IsStocked (InnerNode first bs) → IsStocked (InnerNode first (take at bs ++ b ∷ drop at bs))
stocked_branch first at b bs h s =
    let all = subst (AllByRecursion IsSmallBranch) (sym (take-append-drop at bs)) s.1 in (
      λ e. some (take at bs) (drop at bs) e,
      each_append IsSmallBranch (take at bs) (b ∷ drop at bs) (each_left IsSmallBranch (take at bs) (drop at bs) all) (h, each_right IsSmallBranch (take at bs) (drop at bs) all),
    )
  where
    some : (xs ys : List Branch) → (xs ++ b ∷ ys) ≡ [] → ⊥
    some [] ys e = cc
    some (x ∷ xs) ys e = cc

pub branches_with : (at : ℕ) (cell : List ℕ) (cells : List (List ℕ)) → map branch_of (take at cells ++ cell ∷ drop at cells) ≡ take at (map branch_of cells) ++ branch_of cell ∷ drop at (map branch_of cells)
branches_with at cell cells =
    map-append branch_of (take at cells) (cell ∷ drop at cells) ∙ ap (λ xs. xs ++ branch_of cell ∷ map branch_of (drop at cells)) (sym (take-map branch_of at cells))
    ∙ ap (λ ys. take at (map branch_of cells) ++ branch_of cell ∷ ys) (sym (drop-map branch_of at cells))

pub lent_length : (cells : List (Bor (List ℕ))) → length (lent cells) ≡ length cells
lent_length [] = refl
lent_length (c ∷ cells) = ap suc (lent_length cells)

pub entry_is : (cell key value : List ℕ) → IsLeafCell cell key value → entry_of cell ≡ record { key = key; value = value }
entry_is cell key value w = λ i. record { key = w.key_is i; value = w.value_is i }

pub branch_is : (cell key : List ℕ) (child : ℕ) → IsInnerCell cell key child → branch_of cell ≡ record { key = key; child = child }
branch_is cell key child w = λ i. record { key = w.key_is i; child = w.child_is i }

pub put_in_written : (old new : PageMap) (page next other : ℕ) (es now : List Entry) (result : Result (Option Branch) SpaceError) → other ≡ next → es ≡ now → IsStocked (LeafNode next es)
    → (IsStocked (LeafNode other now) → IfOk result (LeafWritten old new page other now)) → IfOk result (LeafWritten old new page next es)
put_in_written old new page next other es now result o e s f =
    subst (λ x. IfOk result (LeafWritten old new page next x)) (sym e)
    (subst (λ n. IsStocked (LeafNode n now) → IfOk result (LeafWritten old new page n now)) o f (subst (λ x. IsStocked (LeafNode next x)) e s))

pub put_in_inner_written : (old new : PageMap) (page first other : ℕ) (bs now : List Branch) (result : Result (Option Branch) SpaceError) → other ≡ first → bs ≡ now → IsStocked (InnerNode first bs)
    → (IsStocked (InnerNode other now) → IfOk result (InnerWritten old new page other now)) → IfOk result (InnerWritten old new page first bs)
put_in_inner_written old new page first other bs now result o e s f =
    subst (λ x. IfOk result (InnerWritten old new page first x)) (sym e)
    (subst (λ n. IsStocked (InnerNode n now) → IfOk result (InnerWritten old new page n now)) o f (subst (λ x. IsStocked (InnerNode first x)) e s))

-- ---- the parts of an inner page's cut

pub rest_is : (xs : List (Bor (List ℕ))) → lent (take (length xs - 1) (drop 1 xs)) ≡ drop 1 (lent xs)
rest_is [] = refl
rest_is (x ∷ xs) = ap (λ n. lent (take n xs)) (sub_one xs) ∙ ap lent (take-length xs)
  where
    sub_one : (xs : List (Bor (List ℕ))) → suc (length xs) - 1 ≡ length xs
    sub_one xs = omega arith

pub fits_rest : (xs : List (List ℕ)) → Fits xs → Fits (drop 1 xs)
fits_rest [] h = h
fits_rest (x ∷ xs) h = omega arith

-- a leaf with an entry put in
pub spliced_in : (old new : PageMap) (page next link : ℕ) (cells now : List (List ℕ)) (es : List Entry) → link ≡ next → cells ≡ now → es ≡ map entry_of now → IsStocked (LeafNode next es)
    → (IsStocked (LeafNode link (map entry_of cells)) → HasNode new page (LeafNode link (map entry_of cells))) → SamePages old new (λ n. n ≡ page) → LeafWritten old new page next es None
spliced_in old new page next link cells now es l c e s f same =
    let shown : map entry_of cells ≡ es = ap (map entry_of) c ∙ sym e in (
      subst (λ n. HasNode new page (LeafNode n es)) l (subst (λ xs. HasNode new page (LeafNode link xs)) shown
          (f (subst (λ xs. IsStocked (LeafNode link xs)) (sym shown) (subst (λ n. IsStocked (LeafNode n es)) (sym l) s)))),
      same,
    )
