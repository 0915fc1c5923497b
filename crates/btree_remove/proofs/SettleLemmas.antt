-- A child with too little left joins a neighbour, over plain variables.
use Rattle.std.proofs.Common.{◌≡◌, ◌≢◌, ℕ, zero, suc, ◌+◌, ◌<◌, ◌≤◌, List, [], ◌∷◌, ◌++◌, map, length, take, drop, ◌⊎◌, inl, inr, refl, sym, ap, ◌∙◌, subst, Option, Some, None, IsSome, Result, Ok, IfOk, arith, add-one}
use Rattle.std.specs.Prelude.{slice_index_or}
use Rattle.std.specs.List.{AllByRecursion}
use Rattle.std.specs.Option.{option_to_list}
use Rattle.std.proofs.lemmas.List.{length-map}
use Rattle.page_space.specs.declared.error.SpaceError.{SpaceError}
use Rattle.page_space.specs.Space.{PageMap}
use Rattle.sqlrecord.specs.declared.kind.PageKind.TheVariants.{Leaf, Inner}
use Rattle.sqlrecord.specs.Page.{key_of, PageView}
use Rattle.btree_read.specs.declared.entry.Entry.{Entry}
use Rattle.btree_read.specs.declared.entry.Branch.{Branch}
use Rattle.btree_read.specs.Nodes.{Key, Node, LeafNode, InnerNode, HasNode, IsStocked, IsSmallBranch, branch_of}
use Rattle.btree_read.specs.Tree.{Tree, page_of, branch_to}
use Rattle.btree_read.specs.Search.{Sees, IsUnder}
use Rattle.btree_read.proofs.NodeLemmas.{node_is_used}
use Rattle.btree.specs.Overfull.{RisesBehind}
use Rattle.btree.proofs.RefusalLemmas.{small_branch_at}
use Rattle.btree_remove.specs.declared.outcome.Removed.{Removed}
use Rattle.btree_remove.specs.declared.outcome.Removed.TheVariants.{Absent, Done, Emptied, Lone}
use Rattle.btree_remove.specs.declared.pair.Pair.{Pair}
use Rattle.btree_remove.specs.Removed.{AreShrunk, AreOne, AreLeavesJoined, AreInnersJoined, IsPairAt, Rewritten, IsTaken, IsSmallOutcome, IsLeftBelow, Settles, CannotSettle, kid}
use Rattle.btree_remove.proofs.TopLemmas.{inner_of}
use Rattle.btree_remove.proofs.PairLemmas.{IsShownBy, shown_by, ArePaired, paired, HaveLeaves, have_leaves, HaveInners, have_inners, left_merged, right_merged}
use Rattle.btree_remove.proofs.StepLemmas.{AreLeft, one_left, two_left, settled, not_settled, settled_absent, settled_below, way_within}

-- what the exchange of branches gives, and why it is refused
abbrev Exchanged : PageMap → PageMap → ℕ → ℕ → ℕ → Option Branch → Result Removed SpaceError → Type 0
Exchanged low new page at behind branch result =
    (first : ℕ) (bs : List Branch) → HasNode low page (InnerNode first bs) → behind ≤ length bs
    → IfOk result (Rewritten low new page first (take at bs ++ (option_to_list branch ++ drop behind bs)))

abbrev NotExchanged : PageMap → ℕ → ℕ → ℕ → Option Branch → Type 0 → Type 0
NotExchanged low page at behind branch W =
    (a : Key) (first : ℕ) (bs : List Branch) → HasNode low page (InnerNode first bs) → behind ≤ length bs → W
    → RisesBehind a (take at bs ++ (option_to_list branch ++ drop behind bs)) → ⊥

-- ---- a second tree beside the child

pub split_settled : (old new : PageMap) (page : ℕ) (view : PageView) (at : ℕ) (split : Option Branch) (result : Result Removed SpaceError) → view.kind ≡ Inner
    → Exchanged old new page at at split result → Settles old new page view at (Done split) result
split_settled old new page view at split result kind f before k d t lo hi w =
    settled before old page view d t lo hi k at at split w.sees kind w.under (one_left before old d t k at split (way_within before old page view d t lo hi k at (Done split) kind w) w.under.holds w.under.apart w.taken) new result f

pub split_refused : (old : PageMap) (page : ℕ) (view : PageView) (at : ℕ) (split : Option Branch) (W : Type 0) → view.kind ≡ Inner
    → NotExchanged old page at at split W → CannotSettle old page view at (Done split) W
split_refused old page view at split W kind f before k d t lo hi w =
    not_settled before old page view d t lo hi k at at split w.sees kind w.under (one_left before old d t k at split (way_within before old page view d t lo hi k at (Done split) kind w) w.under.holds w.under.apart w.taken) W f

pair_within : (before : PageMap) (page : ℕ) (view : PageView) (d : ℕ) (t : Tree (suc d)) (lo : Key) (hi : Option Key) (at : ℕ) (pair : Pair) → view.kind ≡ Inner
    → IsPairAt view.link (map branch_of view.cells) at pair → Sees before page view → IsUnder before page (suc d) t lo hi → pair.place + 1 ≤ length (map (branch_to d) t.rest)
pair_within before page view d t lo hi at pair kind is sees under =
    let shown = shown_by before page view d t lo hi sees kind under in omega (arith, is.within, ap length shown.branches)

-- ---- an emptied leaf

-- what joining two leaves gives
abbrev Joined : PageMap → PageMap → Pair → Type 0
Joined old low pair =
    (a b : ℕ) (es ys : List Entry) → HasNode old pair.kept (LeafNode a es) → HasNode old pair.right (LeafNode b ys) → IsSome (old pair.left) → pair.left ≢ pair.right
    → AreLeavesJoined old low pair.left pair.right b es

emptied_left : (old low : PageMap) (page : ℕ) (view : PageView) (at : ℕ) (pair : Pair) → view.kind ≡ Inner → IsPairAt view.link (map branch_of view.cells) at pair → Joined old low pair
    → (before : PageMap) (k : Key) (d : ℕ) (t : Tree (suc d)) (lo : Key) (hi : Option Key) → IsLeftBelow before old page view at Emptied k d t lo hi
    → AreLeft before low d t k pair.place (pair.place + 1) None
emptied_left old low page view at pair kind is f before k (suc d) t lo hi w = absurd w.taken.0
emptied_left old low page view at pair kind is f before k zero t lo hi w =
    let p = paired before page view zero t lo hi at pair (shown_by before page view zero t lo hi w.sees kind w.under) w.under is in
    let h = have_leaves before t at pair _ p in
    let e : old ≡ before = w.taken.1 in
    let g : Joined before low pair = subst (λ m. Joined m low pair) e f in
    let j = g h.a p.two.right.next h.es p.two.right.entries h.kept h.right h.used h.differ in
    two_left before low zero t k pair.place (pair.place + 1) p.two None (add-one pair.place) (pair_within before page view _ t lo hi at pair kind is w.sees w.under) w.under.holds w.under.apart (h.emptied k w.taken.0 low j)

pub emptied_settled : (old low new : PageMap) (page : ℕ) (view : PageView) (at : ℕ) (pair : Pair) (result : Result Removed SpaceError) → view.kind ≡ Inner
    → IsPairAt view.link (map branch_of view.cells) at pair → Joined old low pair → Exchanged low new page pair.place (pair.place + 1) None result
    → Settles old new page view at Emptied result
emptied_settled old low new page view at pair result kind is f g before k d t lo hi w =
    settled before low page view d t lo hi k pair.place (pair.place + 1) None w.sees kind w.under (emptied_left old low page view at pair kind is f before k d t lo hi w) new result g

pub emptied_refused : (old low : PageMap) (page : ℕ) (view : PageView) (at : ℕ) (pair : Pair) (W0 W1 : Type 0) → view.kind ≡ Inner
    → IsPairAt view.link (map branch_of view.cells) at pair → Joined old low pair → (W0 → W1) → NotExchanged low page pair.place (pair.place + 1) None W1
    → CannotSettle old page view at Emptied W0
emptied_refused old low page view at pair W0 W1 kind is f wh g before k d t lo hi w whole =
    not_settled before low page view d t lo hi k pair.place (pair.place + 1) None w.sees kind w.under (emptied_left old low page view at pair kind is f before k d t lo hi w) W1 g (wh whole)

pub leaves_not_joined : (old : PageMap) (page : ℕ) (view : PageView) (at : ℕ) (pair : Pair) (W : Type 0) → view.kind ≡ Inner → IsPairAt view.link (map branch_of view.cells) at pair
    → ((a b : ℕ) (es ys : List Entry) → HasNode old pair.kept (LeafNode a es) → HasNode old pair.right (LeafNode b ys) → IsSome (old pair.left) → pair.left ≢ pair.right → W → ⊥)
    → CannotSettle old page view at Emptied W
leaves_not_joined old page view at pair W kind is f before k (suc d) t lo hi w whole = w.taken.0
leaves_not_joined old page view at pair W kind is f before k zero t lo hi w whole =
    let p = paired before page view zero t lo hi at pair (shown_by before page view zero t lo hi w.sees kind w.under) w.under is in
    let h = have_leaves before t at pair _ p in
    let e : before ≡ old = sym w.taken.1 in
    f h.a p.two.right.next h.es p.two.right.entries (subst (λ m. HasNode m pair.kept (LeafNode h.a h.es)) e h.kept)
    (subst (λ m. HasNode m pair.right (LeafNode p.two.right.next p.two.right.entries)) e h.right) (subst (λ m. IsSome (m pair.left)) e h.used) h.differ whole

-- ---- an inner page with one child

-- what joining two inner pages gives
abbrev JoinedBefore : PageMap → PageMap → Pair → Key → ℕ → Option Branch → Type 0
JoinedBefore old low pair divider only split =
    (first : ℕ) (bs : List Branch) → pair.kept ≡ pair.right → HasNode old pair.kept (InnerNode first bs) → IsSome (old pair.left) → pair.left ≢ pair.right
    → AreInnersJoined old low pair.left pair.right only (record { key = divider; child = first } ∷ bs) split

abbrev JoinedBehind : PageMap → PageMap → Pair → Key → ℕ → Option Branch → Type 0
JoinedBehind old low pair divider only split =
    (first : ℕ) (bs : List Branch) → pair.kept ≢ pair.right → HasNode old pair.kept (InnerNode first bs) → IsSome (old pair.left) → pair.left ≢ pair.right
    → AreInnersJoined old low pair.left pair.right first (bs ++ record { key = divider; child = only } ∷ []) split

-- what the code needs to know of two inner pages of which one keeps but one child, and what is then
-- there
record AreReady (before old : PageMap) (d : ℕ) (t : Tree (suc (suc d))) (pair : Pair) (divider : Key) (only : ℕ) (k : Key) (s : Key) (r : Tree (suc d)) : Type 0 where
  pub first : ℕ
  pub bs : List Branch
  pub kept : HasNode old pair.kept (InnerNode first bs)
  pub left : IsSome (old pair.left)
  pub right : IsSome (old pair.right)
  pub differ : pair.left ≢ pair.right
  pub lo : Key
  pub rises_before : pair.kept ≡ pair.right → RisesBehind lo (record { key = divider; child = first } ∷ bs)
  pub rises_behind : pair.kept ≢ pair.right → RisesBehind lo (bs ++ record { key = divider; child = only } ∷ [])
  pub now : (low : PageMap) (split : Option Branch) → JoinedBefore old low pair divider only split → JoinedBehind old low pair divider only split
      → AreShrunk before low (suc d) (kid t.first t.rest pair.place) ((s, r) ∷ []) k split

as_pages : (old low : PageMap) (a b p q link : ℕ) (bs cs : List Branch) (split : Option Branch) → a ≡ p → b ≡ q → bs ≡ cs → AreInnersJoined old low a b link bs split → AreInnersJoined old low p q link cs split
as_pages old low a b p q link bs cs split e f g w =
    subst (λ n. AreInnersJoined old low n q link cs split) e (subst (λ n. AreInnersJoined old low a n link cs split) f (subst (λ x. AreInnersJoined old low a b link x split) g w))

ready : (before old : PageMap) (d : ℕ) (t : Tree (suc (suc d))) (at : ℕ) (pair : Pair) (divider : Key) (only : ℕ) (k : Key) (p : ArePaired before (suc d) t at pair divider)
    → AreOne before old d (kid t.first t.rest at) k only → AreReady before old d t pair divider only k p.two.key p.two.right
ready before old d t at pair divider only k p one = by p.side
  where
    by : ((kid t.first t.rest at ≡ kid t.first t.rest pair.place) × (pair.kept ≡ pair.right)) ⊎ ((kid t.first t.rest at ≡ p.two.right) × (pair.kept ≡ pair.left))
        → AreReady before old d t pair divider only k p.two.key p.two.right
    by (inl h) =
        let l : Tree (suc d) = kid t.first t.rest pair.place in
        let r : Tree (suc d) = p.two.right in
        let m = left_merged before old d l p.two.key r k only p.holds p.apart (subst (λ (x : Tree (suc d)). AreOne before old d x k only) h.0 one) in
        let w = have_inners before old d l p.two.key r k only p.holds p.apart only _ m in
        let kept : HasNode old pair.kept (inner_of d r.first r.rest) = subst (λ n. HasNode old n (inner_of d r.first r.rest)) (sym (h.1 ∙ p.right)) w.right in
        let left : IsSome (old pair.left) = subst (λ n. IsSome (old n)) (sym p.left) (node_is_used old l.page _ w.left) in
        let differ : pair.left ≢ pair.right = λ e. w.differ (sym p.left ∙ e ∙ p.right) in
        record {
          first = page_of d r.first;
          bs = map (branch_to d) r.rest;
          kept = kept;
          left = left;
          right = subst (λ n. IsSome (old n)) (sym p.right) (node_is_used old r.page _ w.right);
          differ = differ;
          lo = p.order.lo;
          rises_before = λ e. subst (λ s. RisesBehind p.order.lo (record { key = s; child = page_of d r.first } ∷ map (branch_to d) r.rest)) (sym p.key) (w.rises p.order.lo p.order.hi p.order.order);
          rises_behind = λ e. absurd (e h.1);
          now = λ low split f g. w.now low split
              (as_pages old low pair.left pair.right l.page r.page only _ _ split p.left p.right (ap (λ s. record { key = s; child = page_of d r.first } ∷ map (branch_to d) r.rest) p.key)
              (f (page_of d r.first) (map (branch_to d) r.rest) h.1 kept left differ));
        }
    by (inr h) =
        let l : Tree (suc d) = kid t.first t.rest pair.place in
        let r : Tree (suc d) = p.two.right in
        let m = right_merged before old d l p.two.key r k only p.holds p.apart (subst (λ (x : Tree (suc d)). AreOne before old d x k only) h.0 one) in
        let w = have_inners before old d l p.two.key r k only p.holds p.apart (page_of d l.first) _ m in
        let kept : HasNode old pair.kept (inner_of d l.first l.rest) = subst (λ n. HasNode old n (inner_of d l.first l.rest)) (sym (h.1 ∙ p.left)) w.left in
        let left : IsSome (old pair.left) = subst (λ n. IsSome (old n)) (sym p.left) (node_is_used old l.page _ w.left) in
        let differ : pair.left ≢ pair.right = λ e. w.differ (sym p.left ∙ e ∙ p.right) in
        let other : pair.kept ≢ pair.right = λ e. differ (sym h.1 ∙ e) in
        record {
          first = page_of d l.first;
          bs = map (branch_to d) l.rest;
          kept = kept;
          left = left;
          right = subst (λ n. IsSome (old n)) (sym p.right) (node_is_used old r.page _ w.right);
          differ = differ;
          lo = p.order.lo;
          rises_before = λ e. absurd (other e);
          rises_behind = λ e. subst (λ s. RisesBehind p.order.lo (map (branch_to d) l.rest ++ record { key = s; child = only } ∷ [])) (sym p.key) (w.rises p.order.lo p.order.hi p.order.order);
          now = λ low split f g. w.now low split
              (as_pages old low pair.left pair.right l.page r.page (page_of d l.first) _ _ split p.left p.right (ap (λ s. map (branch_to d) l.rest ++ record { key = s; child = only } ∷ []) p.key)
              (g (page_of d l.first) (map (branch_to d) l.rest) other kept left differ));
        }

lone_left : (old low : PageMap) (page : ℕ) (view : PageView) (at : ℕ) (pair : Pair) (divider : Key) (only : ℕ) (split : Option Branch) → view.kind ≡ Inner
    → IsPairAt view.link (map branch_of view.cells) at pair → divider ≡ key_of (slice_index_or view.cells pair.place [])
    → JoinedBefore old low pair divider only split → JoinedBehind old low pair divider only split
    → (before : PageMap) (k : Key) (d : ℕ) (t : Tree (suc d)) (lo : Key) (hi : Option Key) → IsLeftBelow before old page view at (Lone only) k d t lo hi
    → AreLeft before low d t k pair.place (pair.place + 1) split
lone_left old low page view at pair divider only split kind is e f g before k zero t lo hi w = absurd w.taken
lone_left old low page view at pair divider only split kind is e f g before k (suc d) t lo hi w =
    let q = paired before page view (suc d) t lo hi at pair (shown_by before page view (suc d) t lo hi w.sees kind w.under) w.under is in
    let p : ArePaired before (suc d) t at pair divider = subst (ArePaired before (suc d) t at pair) (sym e) q in
    let r = ready before old d t at pair divider only k p w.taken in
    two_left before low (suc d) t k pair.place (pair.place + 1) p.two split (add-one pair.place) (pair_within before page view _ t lo hi at pair kind is w.sees w.under) w.under.holds w.under.apart (r.now low split f g)

pub lone_settled : (old low new : PageMap) (page : ℕ) (view : PageView) (at : ℕ) (pair : Pair) (divider : Key) (only : ℕ) (split : Option Branch) (result : Result Removed SpaceError) → view.kind ≡ Inner
    → IsPairAt view.link (map branch_of view.cells) at pair → divider ≡ key_of (slice_index_or view.cells pair.place [])
    → JoinedBefore old low pair divider only split → JoinedBehind old low pair divider only split → Exchanged low new page pair.place (pair.place + 1) split result
    → Settles old new page view at (Lone only) result
lone_settled old low new page view at pair divider only split result kind is e f g x before k d t lo hi w =
    settled before low page view d t lo hi k pair.place (pair.place + 1) split w.sees kind w.under
    (lone_left old low page view at pair divider only split kind is e f g before k d t lo hi w) new result x

pub lone_refused : (old low : PageMap) (page : ℕ) (view : PageView) (at : ℕ) (pair : Pair) (divider : Key) (only : ℕ) (split : Option Branch) (W0 W1 : Type 0) → view.kind ≡ Inner
    → IsPairAt view.link (map branch_of view.cells) at pair → divider ≡ key_of (slice_index_or view.cells pair.place [])
    → JoinedBefore old low pair divider only split → JoinedBehind old low pair divider only split → (W0 → W1) → NotExchanged low page pair.place (pair.place + 1) split W1
    → CannotSettle old page view at (Lone only) W0
lone_refused old low page view at pair divider only split W0 W1 kind is e f g wh x before k d t lo hi w whole =
    not_settled before low page view d t lo hi k pair.place (pair.place + 1) split w.sees kind w.under
    (lone_left old low page view at pair divider only split kind is e f g before k d t lo hi w) W1 x (wh whole)

pub inners_not_joined : (old : PageMap) (page : ℕ) (view : PageView) (at : ℕ) (pair : Pair) (divider : Key) (only : ℕ) (W : Type 0) → view.kind ≡ Inner
    → IsPairAt view.link (map branch_of view.cells) at pair → divider ≡ key_of (slice_index_or view.cells pair.place [])
    → ((lo : Key) (first : ℕ) (bs : List Branch) → HasNode old pair.kept (InnerNode first bs) → IsSome (old pair.left) → IsSome (old pair.right) → pair.left ≢ pair.right → length divider ≤ 600 → W
    → (pair.kept ≡ pair.right → RisesBehind lo (record { key = divider; child = first } ∷ bs))
    → (pair.kept ≢ pair.right → RisesBehind lo (bs ++ record { key = divider; child = only } ∷ [])) → ⊥)
    → CannotSettle old page view at (Lone only) W
inners_not_joined old page view at pair divider only W kind is e f before k zero t lo hi w whole = w.taken
inners_not_joined old page view at pair divider only W kind is e f before k (suc d) t lo hi w whole =
    let shown = shown_by before page view (suc d) t lo hi w.sees kind w.under in
    let q = paired before page view (suc d) t lo hi at pair shown w.under is in
    let p : ArePaired before (suc d) t at pair divider = subst (ArePaired before (suc d) t at pair) (sym e) q in
    let r = ready before old d t at pair divider only k p w.taken in
    let small : AllByRecursion IsSmallBranch (map branch_of view.cells) = subst (AllByRecursion IsSmallBranch) (sym shown.branches) w.under.holds.0.stocked.1 in
    let within = small_branch_at view.cells pair.place (omega (arith, is.within, length-map view.cells branch_of)) small in
    f r.lo r.first r.bs r.kept r.left r.right r.differ (omega (arith, within, ap length e)) whole r.rises_before r.rises_behind

-- ---- by what is left below

pub settles_as : (old new : PageMap) (page : ℕ) (view : PageView) (at : ℕ) (below other : Removed) (result : Result Removed SpaceError) → below ≡ other → Settles old new page view at other result
    → Settles old new page view at below result
settles_as old new page view at below other result e f = subst (λ r. Settles old new page view at r result) (sym e) f

pub cannot_as : (old : PageMap) (page : ℕ) (view : PageView) (at : ℕ) (below other : Removed) (W : Type 0) → below ≡ other → CannotSettle old page view at other W → CannotSettle old page view at below W
cannot_as old page view at below other W e f = subst (λ r. CannotSettle old page view at r W) (sym e) f

pub absent_settled : (old : PageMap) (page : ℕ) (view : PageView) (at : ℕ) (below : Removed) → view.kind ≡ Inner → below ≡ Absent → Settles old old page view at below (Ok Absent)
absent_settled old page view at below kind e = settles_as old old page view at below Absent (Ok Absent) e (λ before k d t lo hi w. settled_absent before old page view d t lo hi k at kind w)

pub kept_settled : (old : PageMap) (page : ℕ) (view : PageView) (at : ℕ) (below : Removed) → view.kind ≡ Inner → below ≡ Done None → Settles old old page view at below (Ok (Done None))
kept_settled old page view at below kind e = settles_as old old page view at below (Done None) (Ok (Done None)) e
    (λ before k d t lo hi w. settled_below before old page view d t lo hi k at (way_within before old page view d t lo hi k at (Done None) kind w) w.under w.taken)

pub small_split : (below : Removed) (b : Branch) → below ≡ Done (Some b) → IsSmallOutcome below → IsSmallBranch b
small_split below b e h = subst IsSmallOutcome e h
