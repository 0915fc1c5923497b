-- Entries put behind all that a tree has, into its last leaf.
use Rattle.std.proofs.Common.{◌≡◌, ◌≢◌, ℕ, zero, suc, ◌+◌, ◌<◌, ◌≤◌, List, [], ◌∷◌, ◌++◌, map, length, take, drop, refl, sym, ap, ◌∙◌, subst, Option, Some, None, IsSome, true, false, Result, Ok, Err, IfOk, arith, add-one, append_assoc}
use Rattle.std.specs.Prelude.{slice_index_or}
use Rattle.std.specs.List.{AllByRecursion, flat_map}
use Rattle.std.proofs.Math.Seq.{take-take}
use Rattle.std.proofs.lemmas.List.{append-nil as append_nil, length-map, map-append, map_push, take_more, take_all}
use Rattle.page_space.specs.declared.error.SpaceError.{SpaceError}
use Rattle.page_space.specs.Space.{PageMap}
use Rattle.sqlrecord.specs.declared.kind.PageKind.{PageKind}
use Rattle.sqlrecord.specs.declared.kind.PageKind.TheVariants.{Leaf, Inner}
use Rattle.sqlrecord.specs.Cell.{IsLeafCell}
use Rattle.sqlrecord.specs.Page.{key_of, AreCells, PageView}
use Rattle.btree_read.specs.declared.entry.Entry.{Entry}
use Rattle.btree_read.specs.declared.entry.Branch.{Branch}
use Rattle.btree_read.specs.Lists.{Has, Apart, Leads}
use Rattle.btree_read.specs.Nodes.{Key, precedes, Node, LeafNode, InnerNode, HasNode, IsSmall, IsStocked, entry_of, branch_of}
use Rattle.btree_read.specs.Sorted.{Ascends}
use Rattle.btree_read.specs.Tree.{Tree, LeafAt, page_of, branch_to, kids, entries_of, nodes_of, IsWithin, IsBelow, IsRising, IsTree}
use Rattle.btree_read.specs.Search.{Sees, IsUnder, HasNoTree, child_at}
use Rattle.btree_read.proofs.AscendLemmas.{root_ascends}
use Rattle.btree_read.proofs.ChainLemmas.{InBounds}
use Rattle.btree_read.proofs.CountLemmas.{few_levels}
use Rattle.btree_read.proofs.Kids.{kid_at, put_first, put_rest, low_at, high_at}
use Rattle.btree_read.proofs.ListLemmas.{each_append, each_left, each_right, each_map}
use Rattle.btree_read.proofs.NodeLemmas.{node_is_used, not_fresh}
use Rattle.btree_read.proofs.OrderLemmas.{le_lt, not_both}
use Rattle.btree_read.proofs.PlaceLemmas.{key_at, rising_all}
use Rattle.btree_read.proofs.SearchLemmas.{if_ok, root_node, sees_leaf, sees_inner, leaf_shown, inner_shown, child_found, no_leaf, no_node_no_tree, under_root}
use Rattle.btree.specs.Grow.{IsGrown, IsUnbounded, GrowsAtEnd, LeafWritten, SamePages, AreKept}
use Rattle.btree.specs.Overfull.{HasNoLastTree, IsNoTreeIn}
use Rattle.btree.specs.Written.{IsWritten, put_all}
use Rattle.btree.proofs.CellLemmas.{are_drop, entry_is}
use Rattle.btree.proofs.GrowLemmas.{kept}
use Rattle.btree.proofs.LeafLemmas.{leaf_grown}
use Rattle.btree.proofs.RootLemmas.{root_grown, keeps_all}

-- ---- cells of entries

pub run_on : (cells now : List (List ℕ)) (cell : List ℕ) (entries : List Entry) (i : ℕ) (d : Entry) (key value : List ℕ) → i < length entries
    → key ≡ (slice_index_or entries i d).key → value ≡ (slice_index_or entries i d).value → IsLeafCell cell key value → now ≡ cells ++ cell ∷ []
    → map entry_of cells ≡ take i entries → map entry_of now ≡ take (i + 1) entries
run_on cells now cell entries i d key value l ek ev w e h =
    let last : entry_of cell ≡ slice_index_or entries i d = entry_is cell key value w ∙ (λ j. record { key = ek j; value = ev j }) in
    ap (map entry_of) e ∙ map_push entry_of cells cell ∙ ap (λ es. es ++ entry_of cell ∷ []) h ∙ ap (λ x. take i entries ++ x ∷ []) last ∙ sym (take_more entries i d l)

pub shown_run : (page cells all : List (List ℕ)) (entries : List Entry) (n : ℕ) → all ≡ page ++ cells → map entry_of cells ≡ take n entries
    → map entry_of all ≡ map entry_of page ++ take n entries
shown_run page cells all entries n e h = ap (map entry_of) e ∙ map-append entry_of page cells ∙ ap (λ es. map entry_of page ++ es) h

all_after : (k : Key) (cells : List (List ℕ)) → ((i : ℕ) → i < length cells → precedes k (key_at cells i) ≡ true) → AllByRecursion (λ (e : Entry). precedes k e.key ≡ true) (map entry_of cells)
all_after k [] f = tt
all_after k (c ∷ cells) f = (f 0 (omega arith), all_after k cells (λ i l. f (suc i) (omega arith)))

-- the entries of a page's cells
pub cells_ascend : (kind : PageKind) (cells : List (List ℕ)) → AreCells kind cells → Ascends (map entry_of cells)
cells_ascend kind [] w = tt
cells_ascend kind (c ∷ cells) w = (all_after (key_of c) cells (λ i l. rising_all kind (c ∷ cells) w 0 (suc i) (omega arith) (omega arith)), cells_ascend kind cells (are_drop kind (c ∷ cells) 1 w))

small_first : (n : ℕ) (entries : List Entry) → AllByRecursion IsSmall entries → AllByRecursion IsSmall (take n entries)
small_first zero entries h = tt
small_first (suc n) [] h = tt
small_first (suc n) (e ∷ entries) h = (h.0, small_first n entries h.1)

pub small_rest : (n : ℕ) (entries : List Entry) → AllByRecursion IsSmall entries → AllByRecursion IsSmall (drop n entries)
small_rest zero entries h = h
small_rest (suc n) [] h = tt
small_rest (suc n) (e ∷ entries) h = small_rest n entries h.1

stocked_more : (next n : ℕ) (es more : List Entry) → AllByRecursion IsSmall more → IsStocked (LeafNode next es) → IsStocked (LeafNode next (es ++ take n more))
stocked_more next n [] more h s = absurd (s.0 refl)
stocked_more next n (e ∷ es) more h s = (λ w. cc, each_append IsSmall (e ∷ es) (take n more) s.1 (small_first n more h))

-- ---- a leaf

pub nothing_put : (pages : PageMap) (page next : ℕ) (es more : List Entry) → HasNode pages page (LeafNode next es) → LeafWritten pages pages page next (es ++ take 0 more) None
nothing_put pages page next es more h = (subst (λ xs. HasNode pages page (LeafNode next xs)) (sym (append_nil es)) h, λ n f. refl)

pub run_put : (old new : PageMap) (page next n link : ℕ) (es more now : List Entry) → AllByRecursion IsSmall more → link ≡ next → now ≡ es ++ take n more → HasNode old page (LeafNode next es)
    → (IsSome (old page) → IsStocked (LeafNode link now) → HasNode new page (LeafNode link now)) → SamePages old new (λ n. n ≡ page) → LeafWritten old new page next (es ++ take n more) None
run_put old new page next n link es more now small l e h f same =
    let stocked : IsStocked (LeafNode next (es ++ take n more)) = stocked_more next n es more small h.stocked in (
      subst (λ m. HasNode new page (LeafNode m (es ++ take n more))) l (subst (λ xs. HasNode new page (LeafNode link xs)) e
          (f (node_is_used old page _ h) (subst (λ xs. IsStocked (LeafNode link xs)) (sym e) (subst (λ m. IsStocked (LeafNode m (es ++ take n more))) (sym l) stocked)))),
      same,
    )

within_behind : (a : Key) (k : Key) (more : List Entry) → precedes k a ≡ false → AllByRecursion (λ (e : Entry). precedes k e.key ≡ true) more → AllByRecursion (InBounds a None) more
within_behind a k [] l h = tt
within_behind a k (e ∷ more) l h = (record { low = not_both a e.key (le_lt a k e.key l h.0); high = tt }, within_behind a k more l h.1)

rising_behind : (a : Key) (b : Option Key) (es more : List Entry) → es ≢ [] → Ascends (es ++ more) → IsRising a b es → IsUnbounded a b → IsRising a b (es ++ more)
rising_behind a b [] more f h r u = absurd (f refl)
rising_behind a b (e ∷ es) more f h r u = record {
  within = each_append (InBounds a b) (e ∷ es) more r.within
      (subst (λ c. AllByRecursion (InBounds a c) more) (sym u) (within_behind a e.key more r.within.0.low (each_right (λ (x : Entry). precedes e.key x.key ≡ true) es more h.0)));
  ascends = h;
}

module _ (old mid : PageMap) (page : ℕ) (view : PageView) (more : List Entry) (same : mid ≡ old) (sees : Sees old page view) where
  pub grown_at_last_leaf : (new : PageMap) (result : Result ℕ SpaceError) → view.kind ≡ Leaf
      → (HasNode mid page (LeafNode view.link (map entry_of view.cells)) → IfOk result (λ n. LeafWritten mid new page view.link (map entry_of view.cells ++ take n more) None))
      → (Ascends (map entry_of view.cells) → IfOk result (λ n. Ascends (map entry_of view.cells ++ take n more)))
      → GrowsAtEnd old new page more result
  grown_at_last_leaf new (Err x) kind f g d t lo u = tt
  grown_at_last_leaf new (Ok n) kind f g zero t lo u =
      let e : LeafNode view.link (map entry_of view.cells) ≡ LeafNode t.next t.entries = sym (leaf_shown old page view kind) ∙ sees_leaf old page view t lo None sees u in
      let el : view.link ≡ t.next = cc in
      let ee : map entry_of view.cells ≡ t.entries = cc in
      let node : HasNode old page (LeafNode t.next t.entries) = root_node old page view zero t lo None _ u u.holds.0 in
      let seen : HasNode mid page (LeafNode view.link (map entry_of view.cells)) = subst (λ m. HasNode m page (LeafNode view.link (map entry_of view.cells))) (sym same) (subst (HasNode old page) (sym e) node) in
      let w : LeafWritten old new page t.next (t.entries ++ take n more) None =
      subst (λ es. LeafWritten old new page t.next (es ++ take n more) None) ee (subst (λ k. LeafWritten old new page k (map entry_of view.cells ++ take n more) None) el
      (subst (λ m. LeafWritten m new page view.link (map entry_of view.cells ++ take n more) None) same (f seen))) in
      let asc : Ascends (t.entries ++ take n more) = subst (λ es. Ascends (es ++ take n more)) ee (g (subst Ascends (sym ee) u.order.ascends)) in
      leaf_grown old new page t lo None IsUnbounded (t.entries ++ take n more) None u (λ a b r o. rising_behind a b t.entries (take n more) node.stocked.0 asc r o) w
  grown_at_last_leaf new (Ok n) kind f g (suc d) t lo u =
      let e : LeafNode view.link (map entry_of view.cells) ≡ InnerNode (page_of d t.first) (map (branch_to d) t.rest) =
      sym (leaf_shown old page view kind) ∙ sees_inner old page view d t lo None sees u in cc

-- ---- the last child

high_last : {T : Type 0} (hi : Option Key) (rest : List (Key × T)) (at : ℕ) → at ≡ length rest → high_at hi rest at ≡ hi
high_last hi [] at e = refl
high_last hi (c ∷ rest) zero e = absurd (omega (arith, e))
high_last hi (c ∷ rest) (suc at) e = high_last hi rest at (omega (arith, e))

up_last : (d : ℕ) (first : Tree d) (rest : List (Key × Tree d)) (at : ℕ) (more : List Entry) → at ≡ length rest
    → (new : Tree d) (others : List (Key × Tree d)) → flat_map (entries_of d) (kids new others) ≡ entries_of d (kid_at first rest at) ++ more
    → flat_map (entries_of d) (kids (put_first first rest at new) (put_rest rest at new others)) ≡ flat_map (entries_of d) (kids first rest) ++ more
up_last d first [] at more l new others e = e ∙ ap (λ xs. xs ++ more) (sym (append_nil (entries_of d first)))
up_last d first (c ∷ rest) zero more l new others e = absurd (omega (arith, l))
up_last d first (c ∷ rest) (suc at) more l new others e =
    ap (λ xs. entries_of d first ++ xs) (up_last d c.1 rest at more (omega (arith, l)) new others e) ∙ sym (append_assoc (entries_of d first) (flat_map (entries_of d) (kids c.1 rest)) more)

module _ (old mid : PageMap) (page : ℕ) (view : PageView) (more : List Entry) (same : mid ≡ old) (sees : Sees old page view) (kind : view.kind ≡ Inner)
    (low : PageMap) (at child : ℕ) (last : at ≡ length view.cells) (leads : child ≡ child_at view.link (map branch_of view.cells) at) where
  last_place : (d : ℕ) (t : Tree (suc d)) (lo : Key) → IsUnder old page (suc d) t lo None → at ≡ length t.rest
  last_place d t lo u =
      let e : InnerNode view.link (map branch_of view.cells) ≡ InnerNode (page_of d t.first) (map (branch_to d) t.rest) =
      sym (inner_shown old page view kind) ∙ sees_inner old page view d t lo None sees u in
      let eb : map branch_of view.cells ≡ map (branch_to d) t.rest = cc in
      last ∙ sym (length-map view.cells branch_of) ∙ ap length eb ∙ length-map t.rest (branch_to d)

  last_under : (d : ℕ) (t : Tree (suc d)) (lo : Key) → IsUnder old page (suc d) t lo None → IsUnder old child d (kid_at t.first t.rest at) (low_at lo t.rest at) None
  last_under d t lo u =
      subst (IsUnder old child d (kid_at t.first t.rest at) (low_at lo t.rest at)) (high_last None t.rest at (last_place d t lo u)) (child_found old page view child d t lo None at sees kind leads u)

  pub grown_last : (result : Result ℕ SpaceError) → GrowsAtEnd mid low child more result → GrowsAtEnd old low page more result
  grown_last result g zero t lo u = absurd (no_leaf old page view t lo None sees kind u)
  grown_last result g (suc d) t lo u =
      let place = last_place d t lo u in
      if_ok (λ n. IsGrown old low d (kid_at t.first t.rest at) IsUnbounded (entries_of d (kid_at t.first t.rest at) ++ take n more) None) (λ n. IsGrown old low (suc d) t IsUnbounded (entries_of (suc d) t ++ take n more) None) result
      (λ n x. kept old low page d t lo None at IsUnbounded (entries_of (suc d) t ++ take n more) (entries_of d (kid_at t.first t.rest at) ++ take n more) u
      (λ a b e. high_last b t.rest at place ∙ e) (λ new others e. up_last d t.first t.rest at (take n more) place new others e) x)
      (subst (λ m. GrowsAtEnd m low child more result) same g d (kid_at t.first t.rest at) (low_at lo t.rest at) (last_under d t lo u))

  pub last_child_refused : (levels less : ℕ) (W0 W1 : Type 0) → levels ≤ less + 1 → (W0 → W1) → HasNoLastTree mid child less W1 → HasNoLastTree old page levels W0
  last_child_refused levels less W0 W1 o g f zero t lo l u wh = no_leaf old page view t lo None sees kind u
  last_child_refused levels less W0 W1 o g f (suc d) t lo l u wh =
      subst (λ m. HasNoLastTree m child less W1) same f d (kid_at t.first t.rest at) (low_at lo t.rest at) (omega arith) (last_under d t lo u) (g wh)

-- ---- refusals

pub no_last_tree : (pages : PageMap) (page levels : ℕ) (W : Type 0) → HasNoTree pages page levels → HasNoLastTree pages page levels W
no_last_tree pages page levels W f d t lo l u wh = f d t lo None l u

pub no_last_node : (pages : PageMap) (page levels : ℕ) (W : Type 0) → ((node : Node) → HasNode pages page node → ⊥) → HasNoLastTree pages page levels W
no_last_node pages page levels W f = no_last_tree pages page levels W (no_node_no_tree pages page levels f)

pub no_last_page : (pages mid : PageMap) (page levels : ℕ) (W : Type 0) → mid ≡ pages → mid page ≡ None → HasNoLastTree pages page levels W
no_last_page pages mid page levels W same e = no_last_node pages page levels W (λ node h. not_fresh pages page (node_is_used pages page node h) (subst (λ m. m page ≡ None) same e))

pub last_root_refused : (pages : PageMap) (root : ℕ) (W : Type 0) → ((n : ℕ) → IsSome (pages n) → (0 < n) × (n < 65536)) → (root ≡ 0 → ⊥) → HasNoLastTree pages root 15 W → IsNoTreeIn pages root W
last_root_refused pages zero W b nz f owned entries w wh = nz refl
last_root_refused pages (suc r) W b nz f owned entries w wh =
    f w.depth w.tree [] (few_levels pages w.depth w.tree b w.holds (subst Apart (sym w.owns) w.apart)) (under_root pages (suc r) owned entries w) wh

-- ---- the first of many entries

pub first_grown : (old new : PageMap) (page : ℕ) (entries more : List Entry) (n : ℕ) (result : Result ℕ SpaceError) → more ≡ take n entries → IfOk result (λ c. c ≤ n)
    → GrowsAtEnd old new page more result → GrowsAtEnd old new page entries result
first_grown old new page entries more n (Err x) e l g d t lo u = tt
first_grown old new page entries more n (Ok c) e l g d t lo u =
    subst (λ run. IsGrown old new d t IsUnbounded (entries_of d t ++ run) None) (ap (take c) e ∙ take-take c n entries l) (g d t lo u)

-- ---- at the root

pub root_appended : (old new : PageMap) (root : ℕ) (more : List Entry) (result : Result ℕ SpaceError) → (root ≡ 0 → ⊥) → GrowsAtEnd old new root more result
    → (owned : List ℕ) (held : List Entry) → IsTree old root owned held → IfOk result (λ n. IsWritten old new owned (held ++ take n more) root)
root_appended old new zero more result nz g owned held w = absurd (nz refl)
root_appended old new (suc r) more result nz g owned held w =
    if_ok (λ n. IsGrown old new w.depth w.tree IsUnbounded (entries_of w.depth w.tree ++ take n more) None) (λ n. IsWritten old new owned (held ++ take n more) (suc r)) result
    (λ n x. subst (λ es. IsWritten old new owned (es ++ take n more) (suc r)) w.shows (root_grown old new r owned held w IsUnbounded (entries_of w.depth w.tree ++ take n more) refl x).written)
    (g w.depth w.tree [] (under_root old (suc r) owned held w))

pub root_appended_keeps : (old new : PageMap) (root : ℕ) (more : List Entry) (result : Result ℕ SpaceError) → (root ≡ 0 → ⊥) → GrowsAtEnd old new root more result
    → (owned : List ℕ) (held : List Entry) → IsTree old root owned held
    → IfOk result (λ n. (now_owned : List ℕ) (after : List Entry) → IsTree new root now_owned after → AreKept old new owned now_owned)
root_appended_keeps old new zero more result nz g owned held w = absurd (nz refl)
root_appended_keeps old new (suc r) more result nz g owned held w =
    if_ok (λ n. IsGrown old new w.depth w.tree IsUnbounded (entries_of w.depth w.tree ++ take n more) None)
    (λ n. (now_owned : List ℕ) (after : List Entry) → IsTree new (suc r) now_owned after → AreKept old new owned now_owned) result
    (λ n x. let y = root_grown old new r owned held w IsUnbounded (entries_of w.depth w.tree ++ take n more) refl x in keeps_all old new owned (entries_of w.depth w.tree ++ take n more) (suc r) y.written y.kept)
    (g w.depth w.tree [] (under_root old (suc r) owned held w))
