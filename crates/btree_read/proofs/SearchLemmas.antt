-- One step of a search, over plain variables.
use Rattle.std.proofs.Common.{◌≡◌, ℕ, zero, suc, ◌+◌, ◌<◌, ◌≤◌, List, [], ◌∷◌, ◌++◌, map, length, refl, sym, ap, ◌∙◌, subst, Option, Some, None, Bool, true, false, if◌then◌else◌, not, ◌⊎◌, inl, inr, Result, Ok, Err, IfOk, arith, add-one, nat_lt}
use borrow.Author.Tests.{ltb-true, ltb-false}
use Rattle.std.specs.List.{flat_map, AllByRecursion}
use Rattle.std.proofs.lemmas.List.{append-nil as append_nil}
use Rattle.page_space.specs.declared.error.SpaceError.{SpaceError}
use Rattle.page_space.specs.Space.{PageMap}
use Rattle.sqlrecord.specs.declared.kind.PageKind.TheVariants.{Leaf, Inner}
use Rattle.sqlrecord.specs.Page.{PageView}
use Rattle.btree_read.specs.declared.entry.Entry.{Entry}
use Rattle.btree_read.specs.declared.entry.Start.{Start}
use Rattle.btree_read.specs.declared.entry.Start.TheVariants.{At, Behind}
use Rattle.btree_read.specs.Lists.{Apart}
use Rattle.btree_read.specs.Nodes.{Key, precedes, Node, LeafNode, InnerNode, HasNode, node_of, shown, entry_of, branch_of}
use Rattle.btree_read.specs.Sorted.{get_of, is_from, first_from}
use Rattle.btree_read.specs.Tree.{Tree, page_of, branch_to, kids, entries_of, nodes_of, pages_in, Holds, Chain, Ordered, IsTreeOf}
use Rattle.btree_read.specs.Search.{Sees, IsUnder, HasNoTree, route_of, child_at, Answers, AnswersAt}
use Rattle.btree_read.proofs.Kids.{kid_at, low_at, high_at}
use Rattle.btree_read.proofs.ListLemmas.{each_left, each_right, apart_parts}
use Rattle.btree_read.proofs.OrderLemmas.{not_both}
use Rattle.btree_read.proofs.ChainLemmas.{chain_at, child_is_kid, way, flat, beside, within_tree, within_chain, all_before, all_behind}
use Rattle.btree_read.proofs.PageLemmas.{around, pages_middle}

pub if_ok : {A E : Type 0} (P Q : A → Type 0) (r : Result A E) → ((x : A) → P x → Q x) → IfOk r P → IfOk r Q
if_ok P Q (Ok x) f h = f x h
if_ok P Q (Err e) f h = tt

-- ---- what a reader sees at the page of a tree

module _ (pages : PageMap) (page : ℕ) (view : PageView) where
  pub root_node : (d : ℕ) (t : Tree d) (lo : Key) (hi : Option Key) (node : Node) → IsUnder pages page d t lo hi → HasNode pages (page_of d t) node → HasNode pages page node
  root_node d t lo hi node u h = subst (λ n. HasNode pages n node) u.at h

  pub sees_leaf : (t : Tree zero) (lo : Key) (hi : Option Key) → Sees pages page view → IsUnder pages page zero t lo hi → shown view ≡ LeafNode t.next t.entries
  sees_leaf t lo hi s u = s _ (root_node zero t lo hi _ u u.holds.0)

  pub sees_inner : (d : ℕ) (t : Tree (suc d)) (lo : Key) (hi : Option Key) → Sees pages page view → IsUnder pages page (suc d) t lo hi
      → shown view ≡ InnerNode (page_of d t.first) (map (branch_to d) t.rest)
  sees_inner d t lo hi s u = s _ (root_node (suc d) t lo hi _ u u.holds.0)

  pub leaf_shown : view.kind ≡ Leaf → shown view ≡ LeafNode view.link (map entry_of view.cells)
  leaf_shown e = ap (λ k. node_of k view.link view.cells) e

  pub inner_shown : view.kind ≡ Inner → shown view ≡ InnerNode view.link (map branch_of view.cells)
  inner_shown e = ap (λ k. node_of k view.link view.cells) e

-- ---- the tree under a child

pub child_under : (pages : PageMap) (page : ℕ) (d : ℕ) (t : Tree (suc d)) (lo : Key) (hi : Option Key) (at : ℕ)
    → IsUnder pages page (suc d) t lo hi
    → IsUnder pages (child_at (page_of d t.first) (map (branch_to d) t.rest) at) d (kid_at t.first t.rest at) (low_at lo t.rest at) (high_at hi t.rest at)
child_under pages page d t lo hi at u =
    let a = around (nodes_of d) t.first t.rest at in
    let kid : List (ℕ × Node) = nodes_of d (kid_at t.first t.rest at) in
    let parts = apart_parts (pages_in a.before) (pages_in kid ++ pages_in a.after)
    (subst Apart (pages_middle a.before kid a.after) (subst (λ ns. Apart (pages_in ns)) a.old u.apart.1)) in
    record {
      at = sym (child_is_kid (page_of d) t.first t.rest at);
      holds = each_left _ kid a.after (each_right _ a.before (kid ++ a.after) (subst (Holds pages) a.old u.holds.1));
      apart = (apart_parts (pages_in kid) (pages_in a.after) parts.right).left;
      order = chain_at (Ordered d) lo hi t.first t.rest at u.order;
    }

-- the same, for the child that the code finds
pub child_found : (pages : PageMap) (page : ℕ) (view : PageView) (child : ℕ) (d : ℕ) (t : Tree (suc d)) (lo : Key) (hi : Option Key) (at : ℕ)
    → Sees pages page view → view.kind ≡ Inner → child ≡ child_at view.link (map branch_of view.cells) at
    → IsUnder pages page (suc d) t lo hi
    → IsUnder pages child d (kid_at t.first t.rest at) (low_at lo t.rest at) (high_at hi t.rest at)
child_found pages page view child d t lo hi at s k c u =
    let e : InnerNode view.link (map branch_of view.cells) ≡ InnerNode (page_of d t.first) (map (branch_to d) t.rest) =
    sym (inner_shown pages page view k) ∙ sees_inner pages page view d t lo hi s u in
    let el : view.link ≡ page_of d t.first = cc in
    let eb : map branch_of view.cells ≡ map (branch_to d) t.rest = cc in
    subst (λ n. IsUnder pages n d (kid_at t.first t.rest at) (low_at lo t.rest at) (high_at hi t.rest at))
    (sym (c ∙ ap (λ l. child_at l (map branch_of view.cells) at) el ∙ ap (λ bs. child_at (page_of d t.first) bs at) eb)) (child_under pages page d t lo hi at u)

-- ---- answers

pub answers_leaf : {A : Type 0} (pages : PageMap) (page : ℕ) (view : PageView) (f : List Entry → A) (result : Result A SpaceError)
    → Sees pages page view → view.kind ≡ Leaf → IfOk result (λ a. a ≡ f (map entry_of view.cells)) → Answers pages page f result
answers_leaf pages page view f result s k h zero t lo hi u =
    let e : LeafNode view.link (map entry_of view.cells) ≡ LeafNode t.next t.entries = sym (leaf_shown pages page view k) ∙ sees_leaf pages page view t lo hi s u in
    let es : map entry_of view.cells ≡ t.entries = cc in
    if_ok (λ a. a ≡ f (map entry_of view.cells)) (λ a. a ≡ f t.entries) result (λ a w. w ∙ ap f es) h
answers_leaf pages page view f result s k h (suc d) t lo hi u =
    let e : LeafNode view.link (map entry_of view.cells) ≡ InnerNode (page_of d t.first) (map (branch_to d) t.rest) =
    sym (leaf_shown pages page view k) ∙ sees_inner pages page view d t lo hi s u in cc

pub no_leaf : (pages : PageMap) (page : ℕ) (view : PageView) (t : Tree zero) (lo : Key) (hi : Option Key) → Sees pages page view → view.kind ≡ Inner → IsUnder pages page zero t lo hi → ⊥
no_leaf pages page view t lo hi s k u =
    let e : InnerNode view.link (map branch_of view.cells) ≡ LeafNode t.next t.entries = sym (inner_shown pages page view k) ∙ sees_leaf pages page view t lo hi s u in cc

-- the way that the code takes is the tree's
pub way_taken : (pages : PageMap) (page : ℕ) (view : PageView) (d : ℕ) (t : Tree (suc d)) (lo : Key) (hi : Option Key) (k : Key) (at : ℕ)
    → Sees pages page view → view.kind ≡ Inner → route_of k (map branch_of view.cells) ≡ at → IsUnder pages page (suc d) t lo hi → way d k t.rest ≡ at
way_taken pages page view d t lo hi k at s kind r u =
    let e : InnerNode view.link (map branch_of view.cells) ≡ InnerNode (page_of d t.first) (map (branch_to d) t.rest) =
    sym (inner_shown pages page view kind) ∙ sees_inner pages page view d t lo hi s u in
    let eb : map branch_of view.cells ≡ map (branch_to d) t.rest = cc in
    ap (route_of k) (sym eb) ∙ r

-- ---- a look-up

get_left : (k : Key) (xs ys : List Entry) → AllByRecursion (λ e. precedes k e.key ≡ true) ys → get_of k (xs ++ ys) ≡ get_of k xs
get_left k [] [] h = refl
get_left k [] (y ∷ ys) h = rw (not_both k y.key h.0, h.0)
get_left k (x ∷ xs) ys h = rw (get_left k xs ys h)

get_right : (k : Key) (xs ys : List Entry) → AllByRecursion (λ e. precedes e.key k ≡ true) xs → get_of k (xs ++ ys) ≡ get_of k ys
get_right k [] ys h = refl
get_right k (x ∷ xs) ys h = rw h.0 (get_right k xs ys h.1)

pub get_on_way : (d : ℕ) (lo : Key) (hi : Option Key) (k : Key) (first : Tree d) (rest : List (Key × Tree d))
    → Chain (Ordered d) lo hi first rest → get_of k (flat d first rest) ≡ get_of k (entries_of d (kid_at first rest (way d k rest)))
get_on_way d lo hi k first rest h =
    let b = beside d lo hi k first rest h in
    ap (get_of k) b.all ∙ get_right k b.before _ b.low ∙ get_left k _ b.after b.high

pub got_below : (pages mid : PageMap) (page : ℕ) (view : PageView) (child at : ℕ) (k : Key) (result : Result (Option (List ℕ)) SpaceError)
    → mid ≡ pages → Sees pages page view → view.kind ≡ Inner → route_of k (map branch_of view.cells) ≡ at → child ≡ child_at view.link (map branch_of view.cells) at
    → Answers mid child (get_of k) result → Answers pages page (get_of k) result
got_below pages mid page view child at k result e s kind r c g zero t lo hi u = absurd (no_leaf pages page view t lo hi s kind u)
got_below pages mid page view child at k result e s kind r c g (suc d) t lo hi u =
    let w = way_taken pages page view d t lo hi k at s kind r u in
    if_ok (λ a. a ≡ get_of k (entries_of d (kid_at t.first t.rest at))) (λ a. a ≡ get_of k (entries_of (suc d) t)) result
    (λ a x. x ∙ sym (get_on_way d lo hi k t.first t.rest u.order ∙ ap (λ n. get_of k (entries_of d (kid_at t.first t.rest n))) w))
    (subst (λ m. Answers m child (get_of k) result) e g d (kid_at t.first t.rest at) _ _ (child_found pages page view child d t lo hi at s kind c u))

-- ---- the first entry from a key on

from_behind : (start : Start) (k x : Key) → precedes k x ≡ true → is_from start k x ≡ true
from_behind At k x h = ap not (not_both k x h)
from_behind Behind k x h = h

pub not_from_before : (start : Start) (k x : Key) → precedes x k ≡ true → is_from start k x ≡ false
not_from_before At k x h = ap not h
not_from_before Behind k x h = not_both x k h

first_right : (start : Start) (k : Key) (xs ys : List Entry) → AllByRecursion (λ e. precedes e.key k ≡ true) xs → first_from start k (xs ++ ys) ≡ first_from start k ys
first_right start k [] ys h = refl
first_right start k (x ∷ xs) ys h = rw (not_from_before start k x.key h.0) (first_right start k xs ys h.1)

-- the first of either list
abbrev pub or_else : Option Entry → Option Entry → Option Entry
or_else None other = other
or_else (Some e) other = Some e

first_either : (start : Start) (k : Key) (xs ys : List Entry) → first_from start k (xs ++ ys) ≡ or_else (first_from start k xs) (first_from start k ys)
first_either start k [] ys = refl
first_either start k (x ∷ xs) ys = by (is_from start k x.key) (first_either start k xs ys)
  where
    by : (p : Bool) → first_from start k (xs ++ ys) ≡ or_else (first_from start k xs) (first_from start k ys)
        → (if p then Some x else first_from start k (xs ++ ys)) ≡ or_else (if p then Some x else first_from start k xs) (first_from start k ys)
    by true e = refl
    by false e = e

-- behind the key an entry is first where it stands first
first_head : (start : Start) (k : Key) (x : Entry) (xs ys : List Entry) → precedes k x.key ≡ true → first_from start k ((x ∷ xs) ++ ys) ≡ first_from start k (x ∷ xs)
first_head start k x xs ys h = rw (from_behind start k x.key h)

pub some_entries : (pages : PageMap) (d : ℕ) (t : Tree d) → Holds pages (nodes_of d t) → (x : Entry) × (xs : List Entry) × (entries_of d t ≡ x ∷ xs)
some_entries pages zero t h = by t.entries refl (h.0.stocked.0)
  where
    by : (es : List Entry) → es ≡ t.entries → (t.entries ≡ [] → ⊥) → (x : Entry) × (xs : List Entry) × (t.entries ≡ x ∷ xs)
    by [] e f = absurd (f (sym e))
    by (x ∷ xs) e f = (x, xs, sym e)
some_entries pages (suc d) t h =
    let w = some_entries pages d t.first (each_left _ (nodes_of d t.first) _ h.1) in
    (w.0, w.1 ++ flat_map (entries_of d) (map (λ c. c.1) t.rest), ap (λ es. es ++ flat_map (entries_of d) (map (λ c. c.1) t.rest)) w.2)

kid_first : {T : Type 0} (first : T) (rest : List (Key × T)) → kid_at first rest 0 ≡ first
kid_first first [] = refl
kid_first first (c ∷ rest) = refl

-- where all stands behind the key, the first entry is the first child's
first_of_next : (pages : PageMap) (d : ℕ) (hi : Option Key) (start : Start) (k s : Key) (first : Tree d) (rest : List (Key × Tree d)) → precedes k s ≡ true
    → Holds pages (nodes_of d first) → Chain (Ordered d) s hi first rest → first_from start k (flat d first rest) ≡ first_from start k (entries_of d first)
first_of_next pages d hi start k s first rest h holds o =
    let w = some_entries pages d first holds in
    let tail : List Entry = flat_map (entries_of d) (map (λ c. c.1) rest) in
    let behind = subst (λ es. AllByRecursion (λ x. precedes k x.key ≡ true) (es ++ tail)) w.2
    (all_behind hi s k h (flat d first rest) (within_chain (Ordered d) (entries_of d) (within_tree d) s hi first rest o)) in
    subst (λ es. first_from start k (es ++ tail) ≡ first_from start k es) (sym w.2) (first_head start k w.0 w.1 tail behind.0)

-- the entries of the child on the way, then those of the child behind it
pub record Onward (d : ℕ) (start : Start) (k : Key) (first : Tree d) (rest : List (Key × Tree d)) (at : ℕ) : Type 0 where
  pub last : length rest ≤ at → first_from start k (flat d first rest) ≡ first_from start k (entries_of d (kid_at first rest at))
  pub more : at < length rest → first_from start k (flat d first rest)
      ≡ or_else (first_from start k (entries_of d (kid_at first rest at))) (first_from start k (entries_of d (kid_at first rest (suc at))))

pub onward : (pages : PageMap) (d : ℕ) (lo : Key) (hi : Option Key) (start : Start) (k : Key) (first : Tree d) (rest : List (Key × Tree d))
    → Holds pages (flat_map (nodes_of d) (kids first rest)) → Chain (Ordered d) lo hi first rest → Onward d start k first rest (way d k rest)
onward pages d lo hi start k first [] h o = record { last = λ l. ap (first_from start k) (append_nil (entries_of d first)); more = λ l. absurd (omega arith) }
onward pages d lo hi start k first (c ∷ rest) h o = by (precedes k c.0) refl (onward pages d c.0 hi start k c.1 rest (each_right _ (nodes_of d first) _ h) o.2)
  where
    by : (p : Bool) → p ≡ precedes k c.0 → Onward d start k c.1 rest (way d k rest) → Onward d start k first (c ∷ rest) (if p then 0 else suc (way d k rest))
    by true e next = record {
      last = λ l. absurd (omega arith);
      more = λ l. first_either start k (entries_of d first) (flat d c.1 rest) ∙ ap (or_else (first_from start k (entries_of d first))) head;
    }
      where
        head : first_from start k (flat d c.1 rest) ≡ first_from start k (entries_of d (kid_at c.1 rest 0))
        head = first_of_next pages d hi start k c.0 c.1 rest (sym e) (each_left _ (nodes_of d c.1) _ (each_right _ (nodes_of d first) _ h)) o.2
            ∙ ap (λ x. first_from start k (entries_of d x)) (sym (kid_first c.1 rest))
    by false e next = record {
      last = λ l. first_right start k (entries_of d first) (flat d c.1 rest) low ∙ next.last (omega arith);
      more = λ l. first_right start k (entries_of d first) (flat d c.1 rest) low ∙ next.more (omega arith);
    }
      where
        low : AllByRecursion (λ x. precedes x.key k ≡ true) (entries_of d first)
        low = all_before lo hi c.0 k (sym e) _ (within_tree d lo (Some c.0) first o.1)

or_else_some : (found other : Option Entry) → (found ≡ None → ⊥) → or_else found other ≡ found
or_else_some None other h = absurd (h refl)
or_else_some (Some e) other h = refl

same_length : (d : ℕ) (cells : List (List ℕ)) (rest : List (Key × Tree d)) → map branch_of cells ≡ map (branch_to d) rest → length cells ≡ length rest
same_length d [] [] e = refl
same_length d [] (c ∷ rest) e = cc
same_length d (x ∷ cells) [] e = cc
same_length d (x ∷ cells) (c ∷ rest) e = let f : map branch_of cells ≡ map (branch_to d) rest = cc in ap suc (same_length d cells rest f)

pub as_many : (pages : PageMap) (page : ℕ) (view : PageView) (d : ℕ) (t : Tree (suc d)) (lo : Key) (hi : Option Key)
    → Sees pages page view → view.kind ≡ Inner → IsUnder pages page (suc d) t lo hi → length view.cells ≡ length t.rest
as_many pages page view d t lo hi s k u =
    let e : InnerNode view.link (map branch_of view.cells) ≡ InnerNode (page_of d t.first) (map (branch_to d) t.rest) =
    sym (inner_shown pages page view k) ∙ sees_inner pages page view d t lo hi s u in
    let eb : map branch_of view.cells ≡ map (branch_to d) t.rest = cc in
    same_length d view.cells t.rest eb

one_of_two : (start : Start) (k : Key) (d : ℕ) (first : Tree d) (rest : List (Key × Tree d)) (at : ℕ) (found : Option Entry) → Onward d start k first rest at
    → found ≡ first_from start k (entries_of d (kid_at first rest at)) → (found ≡ None → ⊥) ⊎ (length rest ≤ at) → found ≡ first_from start k (flat d first rest)
one_of_two start k d first rest at found w e (inr l) = e ∙ sym (w.last l)
one_of_two start k d first rest at found w e (inl some) = by (nat_lt at (length rest)) refl
  where
    by : (p : Bool) → p ≡ nat_lt at (length rest) → found ≡ first_from start k (flat d first rest)
    by true l = sym (w.more (ltb-true at (length rest) (sym l)) ∙ ap (λ o. or_else o (first_from start k (entries_of d (kid_at first rest (suc at))))) (sym e) ∙ or_else_some found _ some)
    by false l = e ∙ sym (w.last (ltb-false at (length rest) (sym l)))

pub found_here : (pages mid : PageMap) (page : ℕ) (view : PageView) (child at : ℕ) (start : Start) (k : Key) (found : Option Entry)
    → mid ≡ pages → Sees pages page view → view.kind ≡ Inner → route_of k (map branch_of view.cells) ≡ at → child ≡ child_at view.link (map branch_of view.cells) at
    → ((found ≡ None → ⊥) ⊎ (length view.cells ≤ at))
    → Answers {A = Option Entry} mid child (first_from start k) (Ok found) → Answers {A = Option Entry} pages page (first_from start k) (Ok found)
found_here pages mid page view child at start k found e s kind r c some g zero t lo hi u = absurd (no_leaf pages page view t lo hi s kind u)
found_here pages mid page view child at start k found e s kind r c some g (suc d) t lo hi u =
    let w = way_taken pages page view d t lo hi k at s kind r u in
    let m = as_many pages page view d t lo hi s kind u in
    one_of_two start k d t.first t.rest at found (subst (Onward d start k t.first t.rest) w (onward pages d lo hi start k t.first t.rest u.holds.1 u.order))
    (subst (λ m. Answers {A = Option Entry} m child (first_from start k) (Ok found)) e g d (kid_at t.first t.rest at) _ _ (child_found pages page view child d t lo hi at s kind c u))
    (subst (λ n. (found ≡ None → ⊥) ⊎ (n ≤ at)) m some)

pub found_behind : (pages mid low : PageMap) (page : ℕ) (view : PageView) (child sibling at : ℕ) (start : Start) (k : Key) (result : Result (Option Entry) SpaceError)
    → mid ≡ pages → low ≡ pages → Sees pages page view → view.kind ≡ Inner → route_of k (map branch_of view.cells) ≡ at → child ≡ child_at view.link (map branch_of view.cells) at
    → at < length view.cells → sibling ≡ child_at view.link (map branch_of view.cells) (at + 1)
    → Answers {A = Option Entry} mid child (first_from start k) (Ok None) → Answers low sibling (first_from start k) result → Answers pages page (first_from start k) result
found_behind pages mid low page view child sibling at start k result e f s kind r c l sc g h zero t lo hi u = absurd (no_leaf pages page view t lo hi s kind u)
found_behind pages mid low page view child sibling at start k result e f s kind r c l sc g h (suc d) t lo hi u =
    let w = way_taken pages page view d t lo hi k at s kind r u in
    let m = as_many pages page view d t lo hi s kind u in
    let ow = subst (Onward d start k t.first t.rest) w (onward pages d lo hi start k t.first t.rest u.holds.1 u.order) in
    let none = subst (λ m. Answers {A = Option Entry} m child (first_from start k) (Ok None)) e g d (kid_at t.first t.rest at) _ _ (child_found pages page view child d t lo hi at s kind c u) in
    let next = subst (λ m. Answers m sibling (first_from start k) result) f h d (kid_at t.first t.rest (suc at)) _ _
    (child_found pages page view sibling d t lo hi (suc at) s kind (sc ∙ ap (child_at view.link (map branch_of view.cells)) (add-one at)) u) in
    if_ok (λ a. a ≡ first_from start k (entries_of d (kid_at t.first t.rest (suc at)))) (λ a. a ≡ first_from start k (entries_of (suc d) t)) result
    (λ a x. x ∙ sym (ow.more (omega (arith, l, m)) ∙ ap (λ o. or_else o (first_from start k (entries_of d (kid_at t.first t.rest (suc at))))) (sym none))) next

-- ---- no tree

pub no_node_no_tree : (pages : PageMap) (page levels : ℕ) → ((node : Node) → HasNode pages page node → ⊥) → HasNoTree pages page levels
no_node_no_tree pages page levels f zero t lo hi l u = f _ (subst (λ n. HasNode pages n (LeafNode t.next t.entries)) u.at u.holds.0)
no_node_no_tree pages page levels f (suc d) t lo hi l u = f _ (subst (λ n. HasNode pages n (InnerNode (page_of d t.first) (map (branch_to d) t.rest))) u.at u.holds.0)

pub no_level_left : (pages : PageMap) (page : ℕ) (view : PageView) (levels : ℕ) → Sees pages page view → view.kind ≡ Inner → levels ≡ 0 → HasNoTree pages page levels
no_level_left pages page view levels s k z zero t lo hi l u = no_leaf pages page view t lo hi s k u
no_level_left pages page view levels s k z (suc d) t lo hi l u = omega arith

pub no_child_no_tree : (pages mid : PageMap) (page : ℕ) (view : PageView) (child at levels low : ℕ) → mid ≡ pages → Sees pages page view → view.kind ≡ Inner
    → child ≡ child_at view.link (map branch_of view.cells) at → levels ≤ low + 1 → HasNoTree mid child low → HasNoTree pages page levels
no_child_no_tree pages mid page view child at levels low e s k c l f zero t lo hi g u = no_leaf pages page view t lo hi s k u
no_child_no_tree pages mid page view child at levels low e s k c l f (suc d) t lo hi g u =
    subst (λ m. HasNoTree m child low) e f d (kid_at t.first t.rest at) _ _ (omega arith) (child_found pages page view child d t lo hi at s k c u)

-- ---- at the root

pub under_root : (pages : PageMap) (root : ℕ) (owned : List ℕ) (entries : List Entry) (w : IsTreeOf pages root owned entries)
    → IsUnder pages root w.depth w.tree [] None
under_root pages root owned entries w = record {
  at = w.at;
  holds = w.holds;
  apart = subst Apart (sym w.owns) w.apart;
  order = w.order;
}

pub answers_root : {A : Type 0} (pages : PageMap) (root : ℕ) (f : List Entry → A) (result : Result A SpaceError) → (root ≡ 0 → ⊥)
    → Answers pages root f result → AnswersAt pages root f result
answers_root pages zero f result nz g owned entries w = absurd (nz refl)
answers_root pages (suc r) f result nz g owned entries w =
    if_ok (λ a. a ≡ f (entries_of w.depth w.tree)) (λ a. a ≡ f entries) result (λ a e. e ∙ ap f w.shows)
    (g w.depth w.tree [] None (under_root pages (suc r) owned entries w))
