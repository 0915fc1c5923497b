-- Leaves that are seen until they have enough entries, over plain variables.
use Rattle.std.proofs.Common.{◌≡◌, ℕ, zero, suc, ◌+◌, ◌-◌, ◌<◌, ◌≤◌, List, [], ◌∷◌, ◌++◌, map, take, drop, length, length-append, slice_index_or, refl, sym, ap, ◌∙◌, subst, Option, Some, None, IsSome, Bool, true, false, if◌then◌else◌, not, Result, Ok, Err, IfOk, OnOk, arith, append_assoc, add-one, append-nil, le_trans}
use Rattle.std.specs.Prelude.{⊤}
use Rattle.std.specs.List.{AllByRecursion}
use Rattle.std.proofs.lemmas.List.{length-map}
use Rattle.page_space.specs.declared.error.SpaceError.{SpaceError}
use Rattle.page_space.specs.Space.{PageMap}
use Rattle.sqlrecord.specs.declared.kind.PageKind.TheVariants.{Leaf, Inner}
use Rattle.sqlrecord.specs.Page.{PageView, key_of}
use Rattle.btree_read.specs.declared.entry.Entry.{Entry}
use Rattle.btree_read.specs.declared.entry.Start.{Start}
use Rattle.btree_read.specs.declared.entry.Start.TheVariants.{At, Behind}
use Rattle.btree_read.specs.declared.leaf_block.Seen.{Seen}
use Rattle.btree_read.specs.Blocks.{IsWanted, SeesSome, SeesMore, LeadTo, Begins, BeginsBelow, HasNoLinkedLeaves, HasFirst}
use Rattle.btree_read.specs.Leaves.{Names, LeadsOn}
use Rattle.btree_read.specs.Nodes.{Key, Node, HasNode, precedes, entry_of, branch_of}
use Rattle.btree_read.specs.Search.{IsUnder, IsNoTree, HasNoTree, Sees, child_at, route_of}
use Rattle.btree_read.specs.Sorted.{from_on, is_from}
use Rattle.btree_read.specs.Tree.{Tree, Chain, Ordered, entries_of, leaves_of}
use Rattle.btree_read.proofs.BlockLemmas.{room_left, no_room, from_append, none_from, from_place, before_way}
use Rattle.btree_read.proofs.ChainLemmas.{all_behind, way, flat, within_tree, within_chain}
use Rattle.btree_read.proofs.Kids.{kid_at, low_at, high_at}
use Rattle.btree_read.proofs.LeafLemmas.{as_many, firsts, firsts_all, first_leaf, leaf_is, leads_cut, leads_join, leads_one, next_child, no_inner, no_leaf, no_linked_no_tree, none_at_zero, tree_leads}
use Rattle.btree_read.proofs.ListLemmas.{each_left, each_right}
use Rattle.btree_read.proofs.OrderLemmas.{not_both}
use Rattle.btree_read.proofs.SearchLemmas.{child_found, no_node_no_tree, under_root, way_taken}

-- ---- the first of a list

-- what begins alike goes on alike
more_behind : {A : Type 0} (n : ℕ) (xs zs ys : List A) → take n xs ≡ take n zs → take n (xs ++ ys) ≡ take n (zs ++ ys)
more_behind n xs zs ys e = sym (room_left n xs ys) ∙ ap (λ es. take n (es ++ ys)) e ∙ room_left n zs ys

full_take : {A : Type 0} (n : ℕ) (xs : List A) → n ≤ length xs → n ≤ length (take n xs)
full_take zero xs h = omega arith
full_take (suc n) [] h = absurd (omega (arith, h))
full_take (suc n) (x ∷ xs) h = let rest = full_take n xs (omega (arith, h)) in omega (arith, rest)

-- where there are enough, more change nothing
enough : {A : Type 0} (n : ℕ) (xs zs ys : List A) → n ≤ length xs → take n xs ≡ take n zs → take n xs ≡ take n (zs ++ ys)
enough n xs zs ys h e = e ∙ sym (no_room n zs ys (subst (λ es. n ≤ length es) e (full_take n xs h)))

none_of_none : {A : Type 0} (m : ℕ) → take {A = A} m [] ≡ []
none_of_none zero = refl
none_of_none (suc m) = refl

drop_of_take : {A : Type 0} (f m n : ℕ) (xs : List A) → n ≡ f + m → drop f (take n xs) ≡ take m (drop f xs)
drop_of_take zero m n xs e = let same : n ≡ m = omega (arith, e) in ap (λ k. take k xs) same
drop_of_take (suc f) m zero xs e = absurd (omega (arith, e))
drop_of_take (suc f) m (suc n) [] e = sym (none_of_none m)
drop_of_take (suc f) m (suc n) (x ∷ xs) e = drop_of_take f m n xs (omega (arith, e))

drop_of_append : {A : Type 0} (f : ℕ) (xs ys : List A) → f ≤ length xs → drop f (xs ++ ys) ≡ drop f xs ++ ys
drop_of_append zero xs ys h = refl
drop_of_append (suc f) [] ys h = absurd (omega (arith, h))
drop_of_append (suc f) (x ∷ xs) ys h = drop_of_append f xs ys (omega (arith, h))

drop_of_map : {A B : Type 0} (g : A → B) (f : ℕ) (xs : List A) → drop f (map g xs) ≡ map g (drop f xs)
drop_of_map g zero xs = refl
drop_of_map g (suc f) [] = refl
drop_of_map g (suc f) (x ∷ xs) = drop_of_map g f xs

left_behind : {A : Type 0} (f : ℕ) (xs : List A) → length xs ≤ f + length (drop f xs)
left_behind zero xs = omega arith
left_behind (suc f) [] = omega arith
left_behind (suc f) (x ∷ xs) = let rest = left_behind f xs in omega (arith, rest)

-- ---- leaves behind others

pub none_more : (n : ℕ) (was : Seen) → IsWanted n was → SeesSome n [] [] was was
none_more n was w = record { taken = ap (take n) (sym (append-nil was.walk.entries)); wanted = w; grows = omega arith; links = λ h. refl }

pub seen_then : (n : ℕ) (xs ys : List Entry) (ls ms : List (ℕ × ℕ)) (was now later : Seen)
    → SeesSome n xs ls was now → SeesSome n ys ms now later → SeesSome n (xs ++ ys) (ls ++ ms) was later
seen_then n xs ys ls ms was now later a b = record {
  taken = b.taken ∙ more_behind n now.walk.entries (was.walk.entries ++ xs) ys a.taken ∙ ap (take n) (append_assoc was.walk.entries xs ys);
  wanted = b.wanted;
  grows = le_trans a.grows b.grows;
  links = λ h. leads_join ls ms was.walk.named now.walk.named later.walk.named (a.links (omega (arith, h, a.wanted, b.wanted, b.grows))) (b.links h);
}

pub seen_enough : (n : ℕ) (xs ys : List Entry) (ls ms : List (ℕ × ℕ)) (was now : Seen) → now.wanted ≡ 0
    → SeesSome n xs ls was now → SeesSome n (xs ++ ys) (ls ++ ms) was now
seen_enough n xs ys ls ms was now z a = record {
  taken = enough n now.walk.entries (was.walk.entries ++ xs) ys (omega (arith, z, a.wanted)) a.taken ∙ ap (take n) (append_assoc was.walk.entries xs ys);
  wanted = a.wanted;
  grows = a.grows;
  links = λ h. absurd (omega (arith, h, z));
}

-- ---- leaves behind the first ones of a block

lead_behind : (ms ls : List (ℕ × ℕ)) (to : Option ℕ) → LeadTo ls to → LeadTo (ms ++ ls) to
lead_behind ms ls to w = record {
  before = ms ++ w.before;
  leaf = w.leaf;
  behind = w.behind;
  all = ap (λ xs. ms ++ xs) w.all ∙ sym (append_assoc ms w.before (w.leaf ∷ w.behind));
  leads = w.leads;
}

lead_on : (ls ms : List (ℕ × ℕ)) (mid to : Option ℕ) → LeadTo ls mid → LeadsOn ms mid to → LeadTo (ls ++ ms) to
lead_on ls ms mid to w h = record {
  before = w.before;
  leaf = w.leaf;
  behind = w.behind ++ ms;
  all = ap (λ xs. xs ++ ms) w.all ∙ append_assoc w.before (w.leaf ∷ w.behind) ms;
  leads = leads_join w.behind ms (Some w.leaf.1) mid to w.leads h;
}

-- what the last leaves lead to is what all of them lead to
lead_one : (ls : List (ℕ × ℕ)) (from mid to : Option ℕ) → LeadTo ls mid → LeadsOn ls from to → mid ≡ to
lead_one ls from mid to w h =
    let cut = leads_cut w.before (w.leaf ∷ w.behind) from to (subst (λ xs. LeadsOn xs from to) w.all h) in
    leads_one w.behind (Some w.leaf.1) mid to w.leads cut.right.1

pub begun_then : (most : ℕ) (xs ys : List Entry) (ls ms : List (ℕ × ℕ)) (first : ℕ) (now later : Seen)
    → Begins most xs ls first now → SeesSome (first + most) ys ms now later → Begins most (xs ++ ys) (ls ++ ms) first later
begun_then most xs ys ls ms first now later a b = record {
  inside = le_trans a.inside b.grows;
  taken = sym (drop_of_take first most (first + most) later.walk.entries refl) ∙ ap (drop first) b.taken ∙ drop_of_take first most (first + most) (now.walk.entries ++ ys) refl
      ∙ ap (take most) (drop_of_append first now.walk.entries ys a.inside) ∙ more_behind most (drop first now.walk.entries) xs ys a.taken;
  wanted = b.wanted;
  links = λ h. lead_on ls ms now.walk.named later.walk.named (a.links (omega (arith, h, a.wanted, b.wanted, b.grows))) (b.links h);
}

pub begun_enough : (most : ℕ) (xs ys : List Entry) (ls ms : List (ℕ × ℕ)) (first : ℕ) (now : Seen) → now.wanted ≡ 0
    → Begins most xs ls first now → Begins most (xs ++ ys) (ls ++ ms) first now
begun_enough most xs ys ls ms first now z a = let left = left_behind first now.walk.entries in record {
  inside = a.inside;
  taken = enough most (drop first now.walk.entries) xs ys (omega (arith, z, a.wanted, left)) a.taken;
  wanted = a.wanted;
  links = λ h. absurd (omega (arith, h, z));
}

pub begun_behind : (most : ℕ) (xs : List Entry) (ms ls : List (ℕ × ℕ)) (first : ℕ) (now : Seen) → Begins most xs ls first now → Begins most xs (ms ++ ls) first now
begun_behind most xs ms ls first now a = record { inside = a.inside; taken = a.taken; wanted = a.wanted; links = λ h. lead_behind ms ls now.walk.named (a.links h) }

-- ---- a leaf

pub more_leaf : (pages : PageMap) (page : ℕ) (view : PageView) (was now : Seen) (result : Result ⊤ SpaceError) → Sees pages page view → view.kind ≡ Leaf
    → OnOk result (now.walk.entries ≡ was.walk.entries ++ map entry_of view.cells) → OnOk result (Names was.walk.named page)
    → OnOk result (now.walk.named ≡ Some view.link) → OnOk result (now.wanted ≡ was.wanted - length view.cells) → SeesMore pages page was now result
more_leaf pages page view was now (Err f) s k a b c w d t lo hi u n h = tt
more_leaf pages page view was now (Ok x) s k a b c w zero t lo hi u n h =
    let e = leaf_is pages page view t lo hi s k u in
    let long : length now.walk.entries ≡ length was.walk.entries + length view.cells =
    ap length a ∙ length-append was.walk.entries (map entry_of view.cells) ∙ ap (λ m. length was.walk.entries + m) (length-map view.cells entry_of) in
    record {
      taken = ap (take n) (a ∙ ap (λ es. was.walk.entries ++ es) e.1);
      wanted = omega (arith, long, w, h);
      grows = omega (arith, long);
      links = λ more. (subst (λ m. Names was.walk.named m) (sym u.at) b, sym (c ∙ ap Some e.0));
    }
more_leaf pages page view was now (Ok x) s k a b c w (suc d) t lo hi u n h = absurd (no_inner pages page view d t lo hi s k u)

pub first_begins : (page link : ℕ) (cells : List (List ℕ)) (start : Start) (k : Key) (most first : ℕ) (was : List Entry) (now : Seen) → was ≡ []
    → now.walk.entries ≡ was ++ map entry_of cells → now.walk.named ≡ Some link → now.wanted ≡ most - (length cells - first) → first ≤ length cells
    → ((i : ℕ) → i < first → is_from start k (key_of (slice_index_or cells i [])) ≡ false)
    → ((i : ℕ) → first ≤ i → i < length cells → is_from start k (key_of (slice_index_or cells i [])) ≡ true)
    → Begins most (from_on start k (map entry_of cells)) ((page, link) ∷ []) first now
first_begins page link cells start k most first was now none a c w inside before behind =
    let all : now.walk.entries ≡ map entry_of cells = a ∙ ap (λ es. es ++ map entry_of cells) none in
    let long : length now.walk.entries ≡ length cells = ap length all ∙ length-map cells entry_of in
    record {
      inside = omega (arith, long, inside);
      taken = ap (take most) (ap (drop first) all ∙ drop_of_map entry_of first cells ∙ sym (from_place start k cells first before behind));
      wanted = omega (arith, long, w, inside);
      links = λ more. record { before = []; leaf = (page, link); behind = []; all = refl; leads = sym c };
    }

pub block_leaf : (pages : PageMap) (page : ℕ) (view : PageView) (start : Start) (k : Key) (most : ℕ) (now : Seen) (result : Result ℕ SpaceError) → Sees pages page view → view.kind ≡ Leaf
    → IfOk result (λ first. Begins most (from_on start k (map entry_of view.cells)) ((page, view.link) ∷ []) first now) → BeginsBelow pages page start k most now result
block_leaf pages page view start k most now result s kind h zero t lo hi u =
    let e = leaf_is pages page view t lo hi s kind u in
    subst (λ (es : List Entry). IfOk result (λ first. Begins most (from_on start k es) ((t.page, t.next) ∷ []) first now)) e.1
    (subst (λ (n : ℕ). IfOk result (λ first. Begins most (from_on start k (map entry_of view.cells)) ((t.page, n) ∷ []) first now)) e.0
    (subst (λ (n : ℕ). IfOk result (λ first. Begins most (from_on start k (map entry_of view.cells)) ((n, view.link) ∷ []) first now)) (sym u.at) h))
block_leaf pages page view start k most now result s kind h (suc d) t lo hi u = absurd (no_inner pages page view d t lo hi s kind u)

-- ---- the children behind a key's way

all_from : (start : Start) (k : Key) (xs : List Entry) → AllByRecursion (λ e. precedes k e.key ≡ true) xs → from_on start k xs ≡ xs
all_from start k [] h = refl
all_from start k (x ∷ xs) h = rw (behind start x.key h.0) (ap (λ zs. x ∷ zs) (all_from start k xs h.1))
  where
    behind : (s : Start) (y : Key) → precedes k y ≡ true → is_from s k y ≡ true
    behind At y e = ap not (not_both k y e)
    behind Behind y e = e

kid_behind : (d : ℕ) (lo : Key) (hi : Option Key) (k : Key) (first : Tree d) (rest : List (Key × Tree d)) (at : ℕ) → Chain (Ordered d) lo hi first rest
    → way d k rest < at → at ≤ length rest → AllByRecursion (λ e. precedes k e.key ≡ true) (entries_of d (kid_at first rest at))
kid_behind d lo hi k first [] at h l b = absurd (omega (arith, l, b))
kid_behind d lo hi k first (c ∷ rest) zero h l b = absurd (omega (arith, l))
kid_behind d lo hi k first (c ∷ rest) (suc at) h l b =
    by (precedes k c.0) refl l (λ less. kid_behind d c.0 hi k c.1 rest at h.2 less (omega (arith, b)))
  where
    by : (p : Bool) → p ≡ precedes k c.0 → (if p then 0 else suc (way d k rest)) < suc at
        → (way d k rest < at → AllByRecursion (λ e. precedes k e.key ≡ true) (entries_of d (kid_at c.1 rest at)))
        → AllByRecursion (λ e. precedes k e.key ≡ true) (entries_of d (kid_at c.1 rest at))
    by true e less again =
        let next = next_child (entries_of d) c.1 rest at (omega (arith, b)) in
        let all = all_behind hi c.0 k (sym e) (flat d c.1 rest) (within_chain (Ordered d) (entries_of d) (within_tree d) c.0 hi c.1 rest h.2) in
        each_left _ (entries_of d (kid_at c.1 rest at)) next.after
        (each_right _ (firsts (entries_of d) c.1 rest at) (entries_of d (kid_at c.1 rest at) ++ next.after)
        (subst (λ es. AllByRecursion (λ e. precedes k e.key ≡ true) es) next.all all))
    by false e less again = again (omega (arith, less))

-- ---- the children of an inner page

-- the first of some leaves may be the first of all
leads_anyhow : (ls : List (ℕ × ℕ)) (first : ℕ × ℕ) (others : List (ℕ × ℕ)) (from to : Option ℕ) → ls ≡ first ∷ others → LeadsOn ls from to → LeadsOn ls None to
leads_anyhow ls first others from to e h =
    let g : LeadsOn (first ∷ others) from to = subst (λ xs. LeadsOn xs from to) e h in
    subst (λ xs. LeadsOn xs None to) (sym e) (tt, g.1)

abbrev pub StaysMore : PageMap → ℕ → Seen → Seen → ℕ → Type 0
StaysMore pages page was now m = (d : ℕ) (t : Tree (suc d)) (lo : Key) (hi : Option Key) → IsUnder pages page (suc d) t lo hi
    → (n : ℕ) → IsWanted n was → SeesSome n (firsts (entries_of d) t.first t.rest m) (firsts (leaves_of d) t.first t.rest m) was now

abbrev pub StaysBegun : PageMap → ℕ → Start → Key → ℕ → ℕ → Seen → ℕ → Type 0
StaysBegun pages page start k most first now m = (d : ℕ) (t : Tree (suc d)) (lo : Key) (hi : Option Key) → IsUnder pages page (suc d) t lo hi
    → Begins most (from_on start k (firsts (entries_of d) t.first t.rest m)) (firsts (leaves_of d) t.first t.rest m) first now

pub stays_none : (pages : PageMap) (page : ℕ) (was : Seen) → StaysMore pages page was was 0
stays_none pages page was d t lo hi u n w = none_more n was w

pub one_on : (pages : PageMap) (page at : ℕ) (was now : Seen) → StaysMore pages page was now (suc at) → StaysMore pages page was now (at + 1)
one_on pages page at was now f = subst (StaysMore pages page was now) (sym (add-one at)) f

pub begun_on : (pages : PageMap) (page : ℕ) (start : Start) (k : Key) (most first : ℕ) (now : Seen) (at : ℕ)
    → StaysBegun pages page start k most first now (suc at) → StaysBegun pages page start k most first now (at + 1)
begun_on pages page start k most first now at f = subst (StaysBegun pages page start k most first now) (sym (add-one at)) f

-- how far the leaves lead that were seen of the first children, where more entries are wanted
abbrev pub LeadsSo : PageMap → ℕ → Option ℕ → Option ℕ → ℕ → Type 0
LeadsSo pages page from named m = (d : ℕ) (t : Tree (suc d)) (lo : Key) (hi : Option Key) (to : Option ℕ) → IsUnder pages page (suc d) t lo hi
    → LeadsOn (firsts (leaves_of d) t.first t.rest m) from to → to ≡ named

pub leads_more : (pages : PageMap) (page at : ℕ) (was now : Seen) → StaysMore pages page was now at → (now.wanted ≡ 0 → ⊥) → LeadsSo pages page was.walk.named now.walk.named at
leads_more pages page at was now stays some d t lo hi to u h =
    let n : ℕ = was.wanted + length was.walk.entries in
    let w : IsWanted n was = omega arith in
    leads_one (firsts (leaves_of d) t.first t.rest at) was.walk.named to now.walk.named h ((stays d t lo hi u n w).links (omega (arith, some)))

pub leads_begun : (pages : PageMap) (page at : ℕ) (start : Start) (k : Key) (most first : ℕ) (now : Seen) → StaysBegun pages page start k most first now at → (now.wanted ≡ 0 → ⊥)
    → LeadsSo pages page None now.walk.named at
leads_begun pages page at start k most first now stays some d t lo hi to u h =
    sym (lead_one (firsts (leaves_of d) t.first t.rest at) None now.walk.named to ((stays d t lo hi u).links (omega (arith, some))) h)

pub leads_none : (pages : PageMap) (page : ℕ) (from : Option ℕ) → LeadsSo pages page from from 0
leads_none pages page from d t lo hi to u h = sym h

module _ (pages mid : PageMap) (page : ℕ) (view : PageView) (child at : ℕ) (same : mid ≡ pages) (sees : Sees pages page view) (kind : view.kind ≡ Inner) (within : at ≤ length view.cells)
    (leads : child ≡ child_at view.link (map branch_of view.cells) at) where
  few : (d : ℕ) (t : Tree (suc d)) (lo : Key) (hi : Option Key) → IsUnder pages page (suc d) t lo hi → at ≤ length t.rest
  few d t lo hi u = let m = as_many pages page view d t lo hi sees kind u in omega (arith, m, within)

  child_there : (d : ℕ) (t : Tree (suc d)) (lo : Key) (hi : Option Key) → IsUnder pages page (suc d) t lo hi
      → IsUnder mid child d (kid_at t.first t.rest at) (low_at lo t.rest at) (high_at hi t.rest at)
  child_there d t lo hi u =
      subst (λ p. IsUnder p child d (kid_at t.first t.rest at) (low_at lo t.rest at) (high_at hi t.rest at)) (sym same) (child_found pages page view child d t lo hi at sees kind leads u)

  -- a child more
  pub child_more : (was now later : Seen) → StaysMore pages page was now at → SeesMore mid child now later (Ok tt) → StaysMore pages page was later (suc at)
  child_more was now later stays f d t lo hi u n w =
      let s = stays d t lo hi u n w in
      let x = f d (kid_at t.first t.rest at) _ _ (child_there d t lo hi u) n s.wanted in
      let a = next_child (entries_of d) t.first t.rest at (few d t lo hi u) in
      let b = next_child (leaves_of d) t.first t.rest at (few d t lo hi u) in
      let both = seen_then n (firsts (entries_of d) t.first t.rest at) (entries_of d (kid_at t.first t.rest at)) (firsts (leaves_of d) t.first t.rest at) (leaves_of d (kid_at t.first t.rest at)) was now later s x in
      subst (λ (es : List Entry). SeesSome n es (firsts (leaves_of d) t.first t.rest (suc at)) was later) (sym a.next)
      (subst (λ (ls : List (ℕ × ℕ)). SeesSome n (firsts (entries_of d) t.first t.rest at ++ entries_of d (kid_at t.first t.rest at)) ls was later) (sym b.next) both)

  -- the first child of a block
  pub child_first : (start : Start) (k : Key) (most first : ℕ) (now : Seen) → route_of k (map branch_of view.cells) ≡ at
      → BeginsBelow mid child start k most now (Ok first) → StaysBegun pages page start k most first now (suc at)
  child_first start k most first now r f d t lo hi u =
      let a = next_child (entries_of d) t.first t.rest at (few d t lo hi u) in
      let b = next_child (leaves_of d) t.first t.rest at (few d t lo hi u) in
      let none = none_from start k (firsts (entries_of d) t.first t.rest (way d k t.rest)) (before_way d lo hi k t.first t.rest u.order) in
      let there = subst (λ (n : ℕ). from_on start k (firsts (entries_of d) t.first t.rest n) ≡ []) (way_taken pages page view d t lo hi k at sees kind r u) none in
      let kid : List Entry = entries_of d (kid_at t.first t.rest at) in
      let parts : from_on start k (firsts (entries_of d) t.first t.rest (suc at)) ≡ from_on start k kid =
      ap (from_on start k) a.next ∙ from_append start k (firsts (entries_of d) t.first t.rest at) kid ∙ ap (λ es. es ++ from_on start k kid) there in
      let x = f d (kid_at t.first t.rest at) _ _ (child_there d t lo hi u) in
      let behind = begun_behind most (from_on start k kid) (firsts (leaves_of d) t.first t.rest at) (leaves_of d (kid_at t.first t.rest at)) first now x in
      subst (λ (es : List Entry). Begins most es (firsts (leaves_of d) t.first t.rest (suc at)) first now) (sym parts)
      (subst (λ (ls : List (ℕ × ℕ)). Begins most (from_on start k kid) ls first now) (sym b.next) behind)

  -- a child behind it
  pub child_next : (start : Start) (k : Key) (most first : ℕ) (now later : Seen) (low : ℕ) → route_of k (map branch_of view.cells) ≡ low → low < at
      → StaysBegun pages page start k most first now at → SeesMore mid child now later (Ok tt) → StaysBegun pages page start k most first later (suc at)
  child_next start k most first now later low r less stays f d t lo hi u =
      let s = stays d t lo hi u in
      let x = f d (kid_at t.first t.rest at) _ _ (child_there d t lo hi u) (first + most) s.wanted in
      let a = next_child (entries_of d) t.first t.rest at (few d t lo hi u) in
      let b = next_child (leaves_of d) t.first t.rest at (few d t lo hi u) in
      let w = way_taken pages page view d t lo hi k low sees kind r u in
      let kid : List Entry = entries_of d (kid_at t.first t.rest at) in
      let all = all_from start k kid (kid_behind d lo hi k t.first t.rest at u.order (omega (arith, w, less)) (few d t lo hi u)) in
      let parts : from_on start k (firsts (entries_of d) t.first t.rest (suc at)) ≡ from_on start k (firsts (entries_of d) t.first t.rest at) ++ kid =
      ap (from_on start k) a.next ∙ from_append start k (firsts (entries_of d) t.first t.rest at) kid ∙ ap (λ es. from_on start k (firsts (entries_of d) t.first t.rest at) ++ es) all in
      let both = begun_then most (from_on start k (firsts (entries_of d) t.first t.rest at)) kid (firsts (leaves_of d) t.first t.rest at) (leaves_of d (kid_at t.first t.rest at)) first now later s x in
      subst (λ (es : List Entry). Begins most es (firsts (leaves_of d) t.first t.rest (suc at)) first later) (sym parts)
      (subst (λ (ls : List (ℕ × ℕ)). Begins most (from_on start k (firsts (entries_of d) t.first t.rest at) ++ kid) ls first later) (sym b.next) both)

  -- a child that is refused
  pub child_not_linked : (from named : Option ℕ) (levels less : ℕ) → levels ≤ less + 1 → LeadsSo pages page from named at → HasNoLinkedLeaves mid child less named
      → HasNoLinkedLeaves pages page levels from
  child_not_linked from named levels less o so f zero t lo hi to l u h = no_leaf pages page view t lo hi sees kind u
  child_not_linked from named levels less o so f (suc d) t lo hi to l u h =
      let kid : List (ℕ × ℕ) = leaves_of d (kid_at t.first t.rest at) in
      let b = next_child (leaves_of d) t.first t.rest at (few d t lo hi u) in
      let all : LeadsOn (firsts (leaves_of d) t.first t.rest at ++ (kid ++ b.after)) from to = subst (λ ls. LeadsOn ls from to) b.all h in
      let p = leads_cut (firsts (leaves_of d) t.first t.rest at) (kid ++ b.after) from to all in
      let r = leads_cut kid b.after p.mid to p.right in
      f d (kid_at t.first t.rest at) _ _ r.mid (omega arith) (child_there d t lo hi u) (subst (λ o. LeadsOn kid o r.mid) (so d t lo hi p.mid u p.left) r.left)

  pub first_not_linked : (from : Option ℕ) (levels less : ℕ) → levels ≤ less + 1 → HasNoLinkedLeaves mid child less None → HasNoLinkedLeaves pages page levels from
  first_not_linked from levels less o f zero t lo hi to l u h = no_leaf pages page view t lo hi sees kind u
  first_not_linked from levels less o f (suc d) t lo hi to l u h =
      let kid : List (ℕ × ℕ) = leaves_of d (kid_at t.first t.rest at) in
      let b = next_child (leaves_of d) t.first t.rest at (few d t lo hi u) in
      let all : LeadsOn (firsts (leaves_of d) t.first t.rest at ++ (kid ++ b.after)) from to = subst (λ ls. LeadsOn ls from to) b.all h in
      let p = leads_cut (firsts (leaves_of d) t.first t.rest at) (kid ++ b.after) from to all in
      let r = leads_cut kid b.after p.mid to p.right in
      let x = first_leaf d (kid_at t.first t.rest at) in
      f d (kid_at t.first t.rest at) _ _ r.mid (omega arith) (child_there d t lo hi u) (leads_anyhow kid x.first x.others p.mid r.mid x.is r.left)

-- where there are enough, the other children are not looked at
module _ (pages : PageMap) (page : ℕ) (view : PageView) (at : ℕ) (sees : Sees pages page view) (kind : view.kind ≡ Inner) (within : at ≤ length view.cells) where
  pub more_enough : (was now : Seen) → now.wanted ≡ 0 → StaysMore pages page was now at → SeesMore pages page was now (Ok tt)
  more_enough was now z stays zero t lo hi u n w = absurd (no_leaf pages page view t lo hi sees kind u)
  more_enough was now z stays (suc d) t lo hi u n w =
      let m = as_many pages page view d t lo hi sees kind u in
      let a = next_child (entries_of d) t.first t.rest at (omega (arith, m, within)) in
      let b = next_child (leaves_of d) t.first t.rest at (omega (arith, m, within)) in
      let ys : List Entry = entries_of d (kid_at t.first t.rest at) ++ a.after in
      let ms : List (ℕ × ℕ) = leaves_of d (kid_at t.first t.rest at) ++ b.after in
      let all = seen_enough n (firsts (entries_of d) t.first t.rest at) ys (firsts (leaves_of d) t.first t.rest at) ms was now z (stays d t lo hi u n w) in
      subst (λ (es : List Entry). SeesSome n es (leaves_of (suc d) t) was now) (sym a.all)
      (subst (λ (ls : List (ℕ × ℕ)). SeesSome n (firsts (entries_of d) t.first t.rest at ++ ys) ls was now) (sym b.all) all)

  pub block_enough : (start : Start) (k : Key) (most first : ℕ) (now : Seen) → now.wanted ≡ 0 → StaysBegun pages page start k most first now at
      → BeginsBelow pages page start k most now (Ok first)
  block_enough start k most first now z stays zero t lo hi u = absurd (no_leaf pages page view t lo hi sees kind u)
  block_enough start k most first now z stays (suc d) t lo hi u =
      let m = as_many pages page view d t lo hi sees kind u in
      let a = next_child (entries_of d) t.first t.rest at (omega (arith, m, within)) in
      let b = next_child (leaves_of d) t.first t.rest at (omega (arith, m, within)) in
      let xs : List Entry = firsts (entries_of d) t.first t.rest at in
      let ys : List Entry = entries_of d (kid_at t.first t.rest at) ++ a.after in
      let ms : List (ℕ × ℕ) = leaves_of d (kid_at t.first t.rest at) ++ b.after in
      let all = begun_enough most (from_on start k xs) (from_on start k ys) (firsts (leaves_of d) t.first t.rest at) ms first now z (stays d t lo hi u) in
      subst (λ (es : List Entry). Begins most es (leaves_of (suc d) t) first now) (sym (ap (from_on start k) a.all ∙ from_append start k xs ys))
      (subst (λ (ls : List (ℕ × ℕ)). Begins most (from_on start k xs ++ from_on start k ys) ls first now) (sym b.all) all)

-- behind the last child
pub more_inner : (pages : PageMap) (page : ℕ) (view : PageView) (n : ℕ) (was now : Seen) → Sees pages page view → view.kind ≡ Inner → n ≡ length view.cells
    → StaysMore pages page was now (n + 1) → SeesMore pages page was now (Ok tt)
more_inner pages page view n was now s kind all f zero t lo hi u most w = absurd (no_leaf pages page view t lo hi s kind u)
more_inner pages page view n was now s kind all f (suc d) t lo hi u most w =
    let m = as_many pages page view d t lo hi s kind u in
    let e : n + 1 ≡ suc (length t.rest) = add-one n ∙ ap suc (all ∙ m) in
    let x = subst (StaysMore pages page was now) e f d t lo hi u most w in
    subst (λ (es : List Entry). SeesSome most es (leaves_of (suc d) t) was now) (firsts_all (entries_of d) t.first t.rest)
    (subst (λ (ls : List (ℕ × ℕ)). SeesSome most (firsts (entries_of d) t.first t.rest (suc (length t.rest))) ls was now) (firsts_all (leaves_of d) t.first t.rest) x)

pub block_inner : (pages : PageMap) (page : ℕ) (view : PageView) (n : ℕ) (start : Start) (k : Key) (most first : ℕ) (now : Seen) → Sees pages page view → view.kind ≡ Inner → n ≡ length view.cells
    → StaysBegun pages page start k most first now (n + 1) → BeginsBelow pages page start k most now (Ok first)
block_inner pages page view n start k most first now s kind all f zero t lo hi u = absurd (no_leaf pages page view t lo hi s kind u)
block_inner pages page view n start k most first now s kind all f (suc d) t lo hi u =
    let m = as_many pages page view d t lo hi s kind u in
    let e : n + 1 ≡ suc (length t.rest) = add-one n ∙ ap suc (all ∙ m) in
    let x = subst (StaysBegun pages page start k most first now) e f d t lo hi u in
    subst (λ (es : List Entry). Begins most (from_on start k es) (leaves_of (suc d) t) first now) (firsts_all (entries_of d) t.first t.rest)
    (subst (λ (ls : List (ℕ × ℕ)). Begins most (from_on start k (firsts (entries_of d) t.first t.rest (suc (length t.rest)))) ls first now) (firsts_all (leaves_of d) t.first t.rest) x)

-- ---- no tree

pub no_tree_leaves : (pages : PageMap) (page levels : ℕ) (from : Option ℕ) → HasNoTree pages page levels → HasNoLinkedLeaves pages page levels from
no_tree_leaves pages page levels from f d t lo hi to l u h = f d t lo hi l u

pub no_node_leaves : (pages : PageMap) (page levels : ℕ) (from : Option ℕ) → ((node : Node) → HasNode pages page node → ⊥) → HasNoLinkedLeaves pages page levels from
no_node_leaves pages page levels from f = no_tree_leaves pages page levels from (no_node_no_tree pages page levels f)

pub leaf_of_another : (pages : PageMap) (page levels : ℕ) (view : PageView) (from : Option ℕ) → Sees pages page view → view.kind ≡ Leaf → (Names from page → ⊥) → HasNoLinkedLeaves pages page levels from
leaf_of_another pages page levels view from s k f zero t lo hi to l u h = f (subst (λ n. Names from n) u.at h.0)
leaf_of_another pages page levels view from s k f (suc d) t lo hi to l u h = no_inner pages page view d t lo hi s k u

-- ---- at the root

pub block_at_root : (pages : PageMap) (root : ℕ) (start : Start) (k : Key) (most first : ℕ) (now : Seen) → (root ≡ 0 → ⊥) → BeginsBelow pages root start k most now (Ok first)
    → HasFirst pages root start k most (Ok (record { leaves = now.walk.entries; first = first }))
block_at_root pages zero start k most first now nz f owned entries w = absurd (nz refl)
block_at_root pages (suc r) start k most first now nz f owned entries w =
    (f w.depth w.tree [] None (under_root pages (suc r) owned entries w)).taken ∙ ap (λ es. take most (from_on start k es)) w.shows

pub block_at_zero : (pages : PageMap) (root : ℕ) (start : Start) (k : Key) (most : ℕ) (now : List Entry) → root ≡ 0 → now ≡ []
    → HasFirst pages root start k most (Ok (record { leaves = now; first = 0 }))
block_at_zero pages root start k most now z e owned entries w =
    ap (take most) (e ∙ ap (from_on start k) (none_at_zero pages root z owned entries w))

pub block_not_ended : (pages : PageMap) (root : ℕ) (start : Start) (k : Key) (most first : ℕ) (now : Seen) → (root ≡ 0 → ⊥) → (0 < now.wanted) → (now.walk.named ≡ Some 0 → ⊥)
    → BeginsBelow pages root start k most now (Ok first) → IsNoTree pages root
block_not_ended pages zero start k most first now nz more g f owned entries w = nz refl
block_not_ended pages (suc r) start k most first now nz more g f owned entries w =
    let x = f w.depth w.tree [] None (under_root pages (suc r) owned entries w) in
    g (lead_one (leaves_of w.depth w.tree) None now.walk.named (Some 0) (x.links more) (tree_leads pages r owned entries w))

pub no_leaves_no_tree : (pages : PageMap) (root : ℕ) → ((n : ℕ) → IsSome (pages n) → (0 < n) × (n < 65536)) → (root ≡ 0 → ⊥) → HasNoLinkedLeaves pages root 15 None → IsNoTree pages root
no_leaves_no_tree pages root b nz f = no_linked_no_tree pages root (record { entries = []; named = None }) b nz refl f
