-- What is left behind a removal, and what stands beside it.
use Rattle.std.proofs.Common.{◌≡◌, ◌≢◌, ℕ, Bool, true, false, List, [], ◌∷◌, ◌++◌, ◌⊎◌, inl, inr, Option, Some, None, IsSome, refl, sym, ap, ◌∙◌, subst}
use Rattle.std.specs.Prelude.{if◌then◌else◌}
use Rattle.std.specs.List.{AllByRecursion}
use Rattle.page_space.specs.Space.{PageMap}
use Rattle.btree_read.specs.declared.entry.Entry.{Entry}
use Rattle.btree_read.specs.Lists.{Has}
use Rattle.btree_read.specs.Nodes.{Key, precedes}
use Rattle.btree_read.specs.Sorted.{Ascends, get_of}
use Rattle.btree_read.specs.Tree.{IsTree}
use Rattle.btree_read.proofs.ListLemmas.{each_right}
use Rattle.btree_read.proofs.NodeLemmas.{not_fresh}
use Rattle.btree_read.proofs.OrderLemmas.{lt_trans, not_both, not_self}
use Rattle.btree.proofs.GrowLemmas.{has_or_not}
use Rattle.btree.proofs.LawLemmas.{tree_stays, tree_used}
use Rattle.btree_remove.specs.Dropped.{AreDropped}
use Rattle.btree_remove.specs.Removed.{IsLess, IsRemoved}
use Rattle.btree_remove.proofs.LeafLemmas.{same_key}

-- ---- one key

none_before : (k : Key) (es : List Entry) → AllByRecursion (λ e. precedes k e.key ≡ true) es → get_of k es ≡ None
none_before k [] h = refl
none_before k (e ∷ es) h = rw (not_both k e.key h.0, h.0) refl

pub comes_first : (k : Key) (v : List ℕ) (e : Entry) (before after : List Entry) → AllByRecursion (λ x. precedes e.key x.key ≡ true) (before ++ record { key = k; value = v } ∷ after) → precedes e.key k ≡ true
comes_first k v e before after h = (each_right (λ (x : Entry). precedes e.key x.key ≡ true) before (record { key = k; value = v } ∷ after) h).0

key_gone : (k : Key) (v : List ℕ) (before after : List Entry) → Ascends (before ++ record { key = k; value = v } ∷ after) → get_of k (before ++ after) ≡ None
key_gone k v [] after h = none_before k after h.0
key_gone k v (e ∷ before) after h = rw (comes_first k v e before after h.0) (key_gone k v before after h.1)

pub one_gone : (k : Key) (was now : List Entry) → Ascends was → IsLess k was now → get_of k now ≡ None
one_gone k was now h w = ap (get_of k) w.left ∙ key_gone k w.value w.before w.after (subst Ascends w.parts h)

before_all : (j k : Key) (es : List Entry) → precedes j k ≡ true → AllByRecursion (λ e. precedes k e.key ≡ true) es → AllByRecursion (λ e. precedes j e.key ≡ true) es
before_all j k [] p h = tt
before_all j k (e ∷ es) p h = (lt_trans j k e.key p h.0, before_all j k es p h.1)

other_key : (j k : Key) (v : List ℕ) (before after : List Entry) → j ≢ k → Ascends (before ++ record { key = k; value = v } ∷ after)
    → get_of j (before ++ after) ≡ get_of j (before ++ record { key = k; value = v } ∷ after)
other_key j k v [] after ne h = by (precedes k j) refl (precedes j k) refl
  where
    by : (p : Bool) → precedes k j ≡ p → (q : Bool) → precedes j k ≡ q → get_of j after ≡ (if p then get_of j after else if q then None else Some v)
    by true e q f = refl
    by false e true f = none_before j after (before_all j k after f h.0)
    by false e false f = absurd (ne (same_key j k f e))
other_key j k v (e ∷ before) after ne h = ap (λ o. if precedes e.key j then o else if precedes j e.key then None else Some e.value) (other_key j k v before after ne h.1)

pub others_found : (k j : Key) (was now : List Entry) → Ascends was → IsLess k was now → j ≢ k → get_of j now ≡ get_of j was
others_found k j was now h w ne = ap (get_of j) w.left ∙ other_key j k w.value w.before w.after ne (subst Ascends w.parts h) ∙ ap (get_of j) (sym w.parts)

-- ---- pages

used_by : (old new : PageMap) (n : ℕ) → new n ≡ old n → IsSome (new n) → IsSome (old n)
used_by old new n e h = subst IsSome e h

pub removed_used : (old new : PageMap) (owned : List ℕ) (entries : List Entry) (k : Key) (root : ℕ) (w : IsRemoved old new owned entries k root) (n : ℕ)
    → IsSome (new n) → Has n w.now_owned ⊎ (IsSome (old n) × (Has n owned → ⊥))
removed_used old new owned entries k root w n h = by (has_or_not n w.now_owned) (has_or_not n owned)
  where
    by : Has n w.now_owned ⊎ (Has n w.now_owned → ⊥) → Has n owned ⊎ (Has n owned → ⊥) → Has n w.now_owned ⊎ (IsSome (old n) × (Has n owned → ⊥))
    by (inl g) o = inl g
    by (inr g) (inl o) = absurd (not_fresh new n h (w.gone n o g))
    by (inr g) (inr o) = inr (used_by old new n (w.others n o g) h, o)

pub beside_used : (old new : PageMap) (owned : List ℕ) (entries : List Entry) (k : Key) (root : ℕ) (w : IsRemoved old new owned entries k root) (n : ℕ) → IsSome (old n) → (Has n owned → ⊥) → Has n w.now_owned → ⊥
beside_used old new owned entries k root w n used o g = by (w.own n g)
  where
    by : Has n owned ⊎ (old n ≡ None) → ⊥
    by (inl h) = o h
    by (inr h) = not_fresh old n used h

pub removed_kept : (old new : PageMap) (owned : List ℕ) (entries : List Entry) (k : Key) (root : ℕ) (w : IsRemoved old new owned entries k root) (n : ℕ)
    → Has n w.now_owned ⊎ (IsSome (old n) × (Has n owned → ⊥)) → IsSome (new n)
removed_kept old new owned entries k root w n (inl g) = tree_used new root w.now_owned w.now_entries w.stored n g
removed_kept old new owned entries k root w n (inr g) = subst IsSome (sym (w.others n g.1 (beside_used old new owned entries k root w n g.0 g.1))) g.0

pub dropped_used : (old new : PageMap) (owned : List ℕ) → AreDropped old new owned → (n : ℕ) → IsSome (new n) → IsSome (old n) × (Has n owned → ⊥)
dropped_used old new owned w n h =
    let none : Has n owned → ⊥ = λ g. not_fresh new n h (w.gone n g) in
    (subst IsSome (w.others n none) h, none)

pub dropped_beside : (old new : PageMap) (owned : List ℕ) → AreDropped old new owned → (n : ℕ) → IsSome (old n) × (Has n owned → ⊥) → IsSome (new n)
dropped_beside old new owned w n h = subst IsSome (sym (w.others n h.1)) h.0

-- ---- other trees

pub still_apart : (old new : PageMap) (owned : List ℕ) (entries : List Entry) (k : Key) (root : ℕ) (w : IsRemoved old new owned entries k root)
    → (other : ℕ) (theirs : List ℕ) (kept : List Entry) → ((n : ℕ) → Has n theirs → Has n owned → ⊥) → IsTree old other theirs kept
    → (n : ℕ) → Has n theirs → Has n w.now_owned → ⊥
still_apart old new owned entries k root w other theirs kept apart t n h = beside_used old new owned entries k root w n (tree_used old other theirs kept t n h) (apart n h)

pub beside_stays : (old new : PageMap) (owned : List ℕ) (entries : List Entry) (k : Key) (root : ℕ) → IsRemoved old new owned entries k root
    → (other : ℕ) (theirs : List ℕ) (kept : List Entry) → ((n : ℕ) → Has n theirs → Has n owned → ⊥) → IsTree old other theirs kept → IsTree new other theirs kept
beside_stays old new owned entries k root w other theirs kept apart t =
    tree_stays old new other theirs kept (λ n h. w.others n (apart n h) (still_apart old new owned entries k root w other theirs kept apart t n h)) t

-- ---- an entry that is known to be there

behind_all : (e : Entry) (k : Key) (v : List ℕ) (c d es : List Entry) → AllByRecursion (λ x. precedes e.key x.key ≡ true) es → es ≡ c ++ record { key = k; value = v } ∷ d → precedes e.key k ≡ true
behind_all e k v c d es h is = (each_right (λ (x : Entry). precedes e.key x.key ≡ true) c (record { key = k; value = v } ∷ d) (subst (λ xs. AllByRecursion (λ x. precedes e.key x.key ≡ true) xs) is h)).0

pub own_key : (k : Key) → precedes k k ≡ true → ⊥
own_key k h = let bad : true ≡ false = sym h ∙ not_self k in cc

same_split : (k : Key) (v w : List ℕ) (b a c d : List Entry) → Ascends (b ++ record { key = k; value = v } ∷ a) → b ++ record { key = k; value = v } ∷ a ≡ c ++ record { key = k; value = w } ∷ d → c ++ d ≡ b ++ a
same_split k v w [] a [] d h e = let f : a ≡ d = cc in sym f
same_split k v w [] a (y ∷ c) d h e =
    let rest : a ≡ c ++ record { key = k; value = w } ∷ d = cc in
    absurd (own_key k (behind_all (record { key = k; value = v }) k w c d a h.0 rest))
same_split k v w (x ∷ b) a [] d h e =
    let first : x ≡ record { key = k; value = w } = cc in
    let key : x.key ≡ k = ap (λ (y : Entry). y.key) first in
    absurd (own_key k (subst (λ j. precedes j k ≡ true) key (comes_first k v x b a h.0)))
same_split k v w (x ∷ b) a (y ∷ c) d h e =
    let first : x ≡ y = cc in
    let rest : b ++ record { key = k; value = v } ∷ a ≡ c ++ record { key = k; value = w } ∷ d = cc in
    ap (λ z. z ∷ (c ++ d)) (sym first) ∙ ap (λ es. x ∷ es) (same_split k v w b a c d h.1 rest)

-- what is left is what stands beside it
pub less_is_one : (k : Key) (v : List ℕ) (before after now : List Entry) → Ascends (before ++ record { key = k; value = v } ∷ after) → IsLess k (before ++ record { key = k; value = v } ∷ after) now
    → now ≡ before ++ after
less_is_one k v before after now h w = w.left ∙ same_split k v w.value before after w.before w.after h w.parts

pub found_there : (k : Key) (v : List ℕ) (before after : List Entry) → Ascends (before ++ record { key = k; value = v } ∷ after) → get_of k (before ++ record { key = k; value = v } ∷ after) ≡ Some v
found_there k v [] after h = rw (not_self k) refl
found_there k v (e ∷ before) after h = rw (comes_first k v e before after h.0) (found_there k v before after h.1)
