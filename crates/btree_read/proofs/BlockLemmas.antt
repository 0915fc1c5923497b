-- Entries from a key on, over plain variables.
use Rattle.std.proofs.Common.{◌≡◌, ℕ, zero, suc, ◌+◌, ◌-◌, ◌<◌, ◌≤◌, List, [], ◌∷◌, ◌++◌, map, take, drop, length, slice_index_or, refl, sym, ap, ◌∙◌, subst, Option, Some, None, Bool, true, false, if◌then◌else◌, Result, Ok, Err, OnOk, arith, append_assoc, add-one, append-nil}
use Rattle.std.specs.Prelude.{⊤}
use Rattle.std.specs.List.{AllByRecursion}
use Rattle.page_space.specs.declared.error.SpaceError.{SpaceError}
use Rattle.page_space.specs.Space.{PageMap}
use Rattle.sqlrecord.specs.declared.kind.PageKind.TheVariants.{Leaf, Inner}
use Rattle.sqlrecord.specs.Page.{PageView, key_of}
use Rattle.btree_read.specs.declared.entry.Entry.{Entry}
use Rattle.btree_read.specs.declared.entry.Start.{Start}
use Rattle.btree_read.specs.Nodes.{Key, precedes, entry_of, branch_of}
use Rattle.btree_read.specs.Search.{IsUnder, Sees, TakesBelow, child_at, route_of}
use Rattle.btree_read.specs.Sorted.{from_on, is_from}
use Rattle.btree_read.specs.Tree.{Chain, Ordered, Tree, entries_of, IsTree}
use Rattle.btree_read.proofs.ChainLemmas.{all_before, way, within_tree}
use Rattle.btree_read.proofs.Kids.{kid_at}
use Rattle.btree_read.proofs.LeafLemmas.{as_many, firsts, firsts_all, leaf_is, next_child, no_inner, no_leaf}
use Rattle.btree_read.proofs.ListLemmas.{each_append}
use Rattle.btree_read.proofs.SearchLemmas.{child_found, not_from_before, under_root, way_taken}

-- ---- as far as there is room

pub room_left : {A : Type 0} (n : ℕ) (xs ys : List A) → take n (take n xs ++ ys) ≡ take n (xs ++ ys)
room_left zero xs ys = refl
room_left (suc n) [] ys = refl
room_left (suc n) (x ∷ xs) ys = ap (λ zs. x ∷ zs) (room_left n xs ys)

pub no_room : {A : Type 0} (n : ℕ) (xs ys : List A) → n ≤ length (take n xs) → take n (xs ++ ys) ≡ take n xs
no_room zero xs ys h = refl
no_room (suc n) [] ys h = absurd (omega (arith, h))
no_room (suc n) (x ∷ xs) ys h = ap (λ zs. x ∷ zs) (no_room n xs ys (omega (arith, h)))

pub all_room : {A : Type 0} (n : ℕ) (xs : List A) → length xs ≤ n → take n xs ≡ xs
all_room zero [] h = refl
all_room zero (x ∷ xs) h = absurd (omega (arith, h))
all_room (suc n) [] h = refl
all_room (suc n) (x ∷ xs) h = ap (λ zs. x ∷ zs) (all_room n xs (omega (arith, h)))

-- more behind what was taken
pub more_taken : {A : Type 0} (n : ℕ) (was now later xs ys : List A) → now ≡ take n (was ++ xs) → later ≡ take n (now ++ ys)
    → later ≡ take n (was ++ (xs ++ ys))
more_taken n was now later xs ys a b =
    b ∙ ap (λ zs. take n (zs ++ ys)) a ∙ room_left n (was ++ xs) ys ∙ ap (take n) (append_assoc was xs ys)

-- where there are enough nothing more is taken
pub enough : {A : Type 0} (n : ℕ) (was now xs ys : List A) → n ≤ length now → now ≡ take n (was ++ xs) → now ≡ take n (was ++ (xs ++ ys))
enough n was now xs ys full e =
    e ∙ sym (no_room n (was ++ xs) ys (subst (λ zs. n ≤ length zs) e full)) ∙ ap (take n) (append_assoc was xs ys)

take_and_drop : (n : ℕ) (cells : List (List ℕ)) → take n cells ++ drop n cells ≡ cells
take_and_drop zero cells = refl
take_and_drop (suc n) [] = refl
take_and_drop (suc n) (x ∷ cells) = ap (λ xs. x ∷ xs) (take_and_drop n cells)

map_parts : (xs ys : List (List ℕ)) → map entry_of xs ++ map entry_of ys ≡ map entry_of (xs ++ ys)
map_parts [] ys = refl
map_parts (x ∷ xs) ys = ap (λ zs. entry_of x ∷ zs) (map_parts xs ys)

pub parts_of : (n : ℕ) (cells : List (List ℕ)) → map entry_of (take n cells) ++ map entry_of (drop n cells) ≡ map entry_of cells
parts_of n cells = map_parts (take n cells) (drop n cells) ∙ ap (map entry_of) (take_and_drop n cells)

-- the next of the cells behind a place
next_cell : (cells : List (List ℕ)) (n m at : ℕ) → at ≡ n + m → at < length cells
    → take (suc m) (drop n cells) ≡ take m (drop n cells) ++ slice_index_or cells at [] ∷ []
next_cell [] n m at e h = absurd (omega (arith, h))
next_cell (x ∷ xs) zero zero zero e h = refl
next_cell (x ∷ xs) zero zero (suc at) e h = absurd (omega (arith, e))
next_cell (x ∷ xs) zero (suc m) zero e h = absurd (omega (arith, e))
next_cell (x ∷ xs) zero (suc m) (suc at) e h = ap (λ zs. x ∷ zs) (next_cell xs zero m at (omega (arith, e)) (omega (arith, h)))
next_cell (x ∷ xs) (suc n) m zero e h = absurd (omega (arith, e))
next_cell (x ∷ xs) (suc n) m (suc at) e h = next_cell xs n m at (omega (arith, e)) (omega (arith, h))

map_on : {A B : Type 0} (f : A → B) (xs : List A) (y : A) → map f (xs ++ y ∷ []) ≡ map f xs ++ f y ∷ []
map_on f [] y = refl
map_on f (x ∷ xs) y = ap (λ zs. f x ∷ zs) (map_on f xs y)

pub cells_on : (cells : List (List ℕ)) (first i : ℕ) → first ≤ i → i < length cells
    → map entry_of (take (i - first) (drop first cells)) ++ entry_of (slice_index_or cells i []) ∷ [] ≡ map entry_of (take (i + 1 - first) (drop first cells))
cells_on cells first i le h =
    let at : i ≡ first + (i - first) = omega (arith, le) in
    let more : suc (i - first) ≡ i + 1 - first = omega (arith, le) in
    sym (map_on entry_of (take (i - first) (drop first cells)) (slice_index_or cells i []))
    ∙ ap (map entry_of) (sym (next_cell cells first (i - first) i at h) ∙ ap (λ n. take n (drop first cells)) more)

left_of : {A : Type 0} (n : ℕ) (xs : List A) (m : ℕ) → length xs ≤ m → length (drop n xs) ≤ m - n
left_of zero xs m h = omega (arith, h)
left_of (suc n) [] m h = omega arith
left_of (suc n) (x ∷ xs) m h = let rest = left_of n xs (m - 1) (omega (arith, h)) in omega (arith, rest, h)

pub all_cells : (cells : List (List ℕ)) (first i : ℕ) → length cells ≤ i → take (i - first) (drop first cells) ≡ drop first cells
all_cells cells first i h = all_room (i - first) (drop first cells) (left_of first cells i h)

-- ---- entries from a key on

pub from_append : (start : Start) (k : Key) (xs ys : List Entry) → from_on start k (xs ++ ys) ≡ from_on start k xs ++ from_on start k ys
from_append start k [] ys = refl
from_append start k (x ∷ xs) ys = by (is_from start k x.key) (from_append start k xs ys)
  where
    by : (b : Bool) → from_on start k (xs ++ ys) ≡ from_on start k xs ++ from_on start k ys
        → (if b then x ∷ from_on start k (xs ++ ys) else from_on start k (xs ++ ys)) ≡ (if b then x ∷ from_on start k xs else from_on start k xs) ++ from_on start k ys
    by true e = ap (λ zs. x ∷ zs) e
    by false e = e

pub none_from : (start : Start) (k : Key) (xs : List Entry) → AllByRecursion (λ e. precedes e.key k ≡ true) xs → from_on start k xs ≡ []
none_from start k [] h = refl
none_from start k (x ∷ xs) h = rw (not_from_before start k x.key h.0) (none_from start k xs h.1)

-- those of a leaf, by the place of the first one
pub from_place : (start : Start) (k : Key) (cells : List (List ℕ)) (n : ℕ)
    → ((i : ℕ) → i < n → is_from start k (key_of (slice_index_or cells i [])) ≡ false)
    → ((i : ℕ) → n ≤ i → i < length cells → is_from start k (key_of (slice_index_or cells i [])) ≡ true)
    → from_on start k (map entry_of cells) ≡ map entry_of (drop n cells)
from_place start k [] zero before behind = refl
from_place start k [] (suc n) before behind = refl
from_place start k (x ∷ xs) zero before behind =
    rw (behind 0 (omega arith) (omega arith))
    (ap (λ zs. entry_of x ∷ zs) (from_place start k xs zero (λ i l. absurd (omega (arith, l))) (λ i l m. behind (suc i) (omega arith) (omega (arith, m)))))
from_place start k (x ∷ xs) (suc n) before behind =
    rw (before 0 (omega arith))
    (from_place start k xs n (λ i l. before (suc i) (omega (arith, l))) (λ i l m. behind (suc i) (omega (arith, l)) (omega (arith, m))))

-- those of the children before a key's way are none
pub before_way : (d : ℕ) (lo : Key) (hi : Option Key) (k : Key) (first : Tree d) (rest : List (Key × Tree d)) → Chain (Ordered d) lo hi first rest
    → AllByRecursion (λ e. precedes e.key k ≡ true) (firsts (entries_of d) first rest (way d k rest))
before_way d lo hi k first [] h = tt
before_way d lo hi k first (c ∷ rest) h = by (precedes k c.0) refl (before_way d c.0 hi k c.1 rest h.2)
  where
    by : (p : Bool) → p ≡ precedes k c.0 → AllByRecursion (λ e. precedes e.key k ≡ true) (firsts (entries_of d) c.1 rest (way d k rest))
        → AllByRecursion (λ e. precedes e.key k ≡ true) (firsts (entries_of d) first (c ∷ rest) (if p then 0 else suc (way d k rest)))
    by true e more = tt
    by false e more = each_append _ (entries_of d first) (firsts (entries_of d) c.1 rest (way d k rest))
        (all_before lo hi c.0 k (sym e) (entries_of d first) (within_tree d lo (Some c.0) first h.1)) more

-- ---- what was taken of the first children of an inner page

abbrev pub StaysTaken : PageMap → ℕ → Start → Key → ℕ → List Entry → List Entry → ℕ → Type 0
StaysTaken pages page start k most was now n = (d : ℕ) (t : Tree (suc d)) (lo : Key) (hi : Option Key) → IsUnder pages page (suc d) t lo hi
    → now ≡ take most (was ++ from_on start k (firsts (entries_of d) t.first t.rest n))

pub taken_leaf : (pages : PageMap) (page : ℕ) (view : PageView) (start : Start) (k : Key) (most : ℕ) (was now : List Entry) (result : Result ⊤ SpaceError)
    → Sees pages page view → view.kind ≡ Leaf → OnOk result (now ≡ take most (was ++ from_on start k (map entry_of view.cells)))
    → TakesBelow pages page start k most was now result
taken_leaf pages page view start k most was now (Ok x) s kind h zero t lo hi u =
    h ∙ ap (λ es. take most (was ++ from_on start k es)) (leaf_is pages page view t lo hi s kind u).1
taken_leaf pages page view start k most was now (Err e) s kind h zero t lo hi u = tt
taken_leaf pages page view start k most was now result s kind h (suc d) t lo hi u = absurd (no_inner pages page view d t lo hi s kind u)

module _ (pages mid : PageMap) (page : ℕ) (view : PageView) (child at : ℕ) (start : Start) (k : Key) (most : ℕ) (was now : List Entry)
    (e : mid ≡ pages) (sees : Sees pages page view) (kind : view.kind ≡ Inner) (inside : at ≤ length view.cells)
    (c : child ≡ child_at view.link (map branch_of view.cells) at) where
  -- before the first child that is looked at
  pub first_taken : route_of k (map branch_of view.cells) ≡ at → length was ≤ most → StaysTaken pages page start k most was was at
  first_taken r few d t lo hi u =
      let none = none_from start k (firsts (entries_of d) t.first t.rest (way d k t.rest)) (before_way d lo hi k t.first t.rest u.order) in
      let there = subst (λ n. from_on start k (firsts (entries_of d) t.first t.rest n) ≡ []) (way_taken pages page view d t lo hi k at sees kind r u) none in
      sym (ap (λ es. take most (was ++ es)) there ∙ ap (take most) (append-nil was) ∙ all_room most was few)

  -- a child more
  pub child_taken : (later : List Entry) → StaysTaken pages page start k most was now at → TakesBelow mid child start k most now later (Ok tt)
      → StaysTaken pages page start k most was later (suc at)
  child_taken later stays f d t lo hi u =
      let m = as_many pages page view d t lo hi sees kind u in
      let there = subst (λ m. TakesBelow m child start k most now later (Ok tt)) e f d (kid_at t.first t.rest at) _ _ (child_found pages page view child d t lo hi at sees kind c u) in
      let b = next_child (entries_of d) t.first t.rest at (omega (arith, inside, m)) in
      more_taken most was now later (from_on start k (firsts (entries_of d) t.first t.rest at)) (from_on start k (entries_of d (kid_at t.first t.rest at))) (stays d t lo hi u) there
      ∙ ap (λ es. take most (was ++ es)) (sym (from_append start k (firsts (entries_of d) t.first t.rest at) (entries_of d (kid_at t.first t.rest at))) ∙ ap (from_on start k) (sym b.next))

pub one_further : (pages : PageMap) (page : ℕ) (start : Start) (k : Key) (most : ℕ) (was now : List Entry) (at : ℕ)
    → StaysTaken pages page start k most was now (suc at) → StaysTaken pages page start k most was now (at + 1)
one_further pages page start k most was now at f = subst (StaysTaken pages page start k most was now) (sym (add-one at)) f

-- behind the last child
pub taken_inner : (pages : PageMap) (page : ℕ) (view : PageView) (n : ℕ) (start : Start) (k : Key) (most : ℕ) (was now : List Entry)
    → Sees pages page view → view.kind ≡ Inner → n ≡ length view.cells → StaysTaken pages page start k most was now (n + 1)
    → TakesBelow pages page start k most was now (Ok tt)
taken_inner pages page view n start k most was now s kind all f zero t lo hi u = absurd (no_leaf pages page view t lo hi s kind u)
taken_inner pages page view n start k most was now s kind all f (suc d) t lo hi u =
    let m = as_many pages page view d t lo hi s kind u in
    let e : n + 1 ≡ suc (length t.rest) = add-one n ∙ ap suc (all ∙ m) in
    subst (StaysTaken pages page start k most was now) e f d t lo hi u
    ∙ ap (λ es. take most (was ++ from_on start k es)) (firsts_all (entries_of d) t.first t.rest)

-- where there are enough, the other children are not looked at
pub taken_enough : (pages : PageMap) (page : ℕ) (view : PageView) (at : ℕ) (start : Start) (k : Key) (most : ℕ) (was now : List Entry)
    → Sees pages page view → view.kind ≡ Inner → at ≤ length view.cells → most ≤ length now → StaysTaken pages page start k most was now at
    → TakesBelow pages page start k most was now (Ok tt)
taken_enough pages page view at start k most was now s kind within full f zero t lo hi u = absurd (no_leaf pages page view t lo hi s kind u)
taken_enough pages page view at start k most was now s kind within full f (suc d) t lo hi u =
    let m = as_many pages page view d t lo hi s kind u in
    let b = next_child (entries_of d) t.first t.rest at (omega (arith, within, m)) in
    let xs : List Entry = firsts (entries_of d) t.first t.rest at in
    let ys : List Entry = entries_of d (kid_at t.first t.rest at) ++ b.after in
    enough most was now (from_on start k xs) (from_on start k ys) full (f d t lo hi u)
    ∙ ap (λ es. take most (was ++ es)) (sym (ap (from_on start k) b.all ∙ from_append start k xs ys))

-- ---- at the root

pub taken_at_root : (pages : PageMap) (root : ℕ) (start : Start) (k : Key) (most : ℕ) (was now : List Entry) → (root ≡ 0 → ⊥) → was ≡ []
    → TakesBelow pages root start k most was now (Ok tt)
    → (owned : List ℕ) (entries : List Entry) → IsTree pages root owned entries → now ≡ take most (from_on start k entries)
taken_at_root pages zero start k most was now nz e f owned entries w = absurd (nz refl)
taken_at_root pages (suc r) start k most was now nz e f owned entries w =
    f w.depth w.tree [] None (under_root pages (suc r) owned entries w)
    ∙ ap (λ es. take most (es ++ from_on start k (entries_of w.depth w.tree))) e
    ∙ ap (λ es. take most (from_on start k es)) w.shows
