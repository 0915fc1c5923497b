-- Places in a page's cells and in the lists that they show.
use Rattle.std.proofs.Common.{◌≡◌, ℕ, zero, suc, ◌<◌, ◌≤◌, List, [], ◌∷◌, map, length, refl, sym, ap, subst, ◌⊎◌, inl, inr, Option, Some, None, Bool, true, false, not, if◌then◌else◌, arith, add-one, nat_lt}
use Rattle.std.proofs.lemmas.Bool.{ltb-true, not-true}
use borrow.Author.Tests.{ltb-false}
use Rattle.std.specs.Prelude.{slice_index_or}
use Rattle.sqlrecord.specs.declared.kind.PageKind.{PageKind}
use Rattle.sqlrecord.specs.Page.{key_of, value_of, child_of, AreCells}
use Rattle.btree_read.specs.declared.entry.Start.{Start}
use Rattle.btree_read.specs.declared.entry.Start.TheVariants.{At, Behind}
use Rattle.btree_read.specs.Nodes.{Key, precedes, entry_of, branch_of}
use Rattle.btree_read.specs.Sorted.{get_of, is_from, first_from}
use Rattle.btree_read.specs.Search.{route_of, child_at}
use Rattle.btree_read.proofs.OrderLemmas.{lt_trans, le_lt, not_both}

abbrev pub key_at : List (List ℕ) → ℕ → Key
key_at cells i = key_of (slice_index_or cells i [])

rising_next : (kind : PageKind) (cells : List (List ℕ)) → AreCells kind cells → (i : ℕ) → suc i < length cells → precedes (key_at cells i) (key_at cells (suc i)) ≡ true
unfolding precedes
rising_next kind cells w i h = subst (λ n. precedes (key_at cells i) (key_at cells n) ≡ true) (add-one i) (w.rising i (omega arith))

at_or_before : (i j : ℕ) → i ≤ j → (i ≡ j) ⊎ (i < j)
at_or_before i j h = by (nat_lt i j) refl
  where
    by : (p : Bool) → p ≡ nat_lt i j → (i ≡ j) ⊎ (i < j)
    by true e = inr (ltb-true i j (sym e))
    by false e = let f : j ≤ i = ltb-false i j (sym e) in inl (omega arith)

-- keys rise over the whole page
pub rising_all : (kind : PageKind) (cells : List (List ℕ)) → AreCells kind cells → (i j : ℕ) → i < j → j < length cells → precedes (key_at cells i) (key_at cells j) ≡ true
rising_all kind cells w i zero h g = absurd (omega arith)
rising_all kind cells w i (suc j) h g = by (at_or_before i j (omega arith)) (λ l. rising_all kind cells w i j l (omega arith))
  where
    by : (i ≡ j) ⊎ (i < j) → (i < j → precedes (key_at cells i) (key_at cells j) ≡ true) → precedes (key_at cells i) (key_at cells (suc j)) ≡ true
    by (inl e) f = subst (λ n. precedes (key_at cells n) (key_at cells (suc j)) ≡ true) (sym e) (rising_next kind cells w j g)
    by (inr l) f = lt_trans _ _ _ (f l) (rising_next kind cells w j g)

-- what is from there on stays so for later keys
pub is_from_up : (start : Start) (k a b : Key) → precedes a b ≡ true → is_from start k a ≡ true → is_from start k b ≡ true
is_from_up At k a b h g = ap not (not_both k b (le_lt k a b (not-true (precedes a k) g) h))
is_from_up Behind k a b h g = lt_trans k a b g h

pub is_from_all : (start : Start) (k : Key) (kind : PageKind) (cells : List (List ℕ)) → AreCells kind cells → (i j : ℕ) → i ≤ j → j < length cells
    → is_from start k (key_at cells i) ≡ true → is_from start k (key_at cells j) ≡ true
is_from_all start k kind cells w i j h g e = by (at_or_before i j h)
  where
    by : (i ≡ j) ⊎ (i < j) → is_from start k (key_at cells j) ≡ true
    by (inl f) = subst (λ n. is_from start k (key_at cells n) ≡ true) f e
    by (inr l) = is_from_up start k (key_at cells i) (key_at cells j) (rising_all kind cells w i j l g) e

pub is_from_none : (start : Start) (k : Key) (kind : PageKind) (cells : List (List ℕ)) → AreCells kind cells → (i j : ℕ) → i ≤ j → j < length cells
    → is_from start k (key_at cells j) ≡ false → is_from start k (key_at cells i) ≡ false
is_from_none start k kind cells w i j h g e = by (is_from start k (key_at cells i)) refl
  where
    by : (p : Bool) → p ≡ is_from start k (key_at cells i) → is_from start k (key_at cells i) ≡ false
    by true f = let up = is_from_all start k kind cells w i j h g (sym f) in cc
    by false f = sym f

-- ---- what stands at a place, in the list that the page shows

pub get_past : (k : Key) (cells : List (List ℕ)) → ((i : ℕ) → i < length cells → is_from At k (key_at cells i) ≡ false) → get_of k (map entry_of cells) ≡ None
get_past k [] f = refl
get_past k (c ∷ cells) f = by (precedes (key_of c) k) (f 0 (omega arith)) (get_past k cells (λ i h. f (suc i) (omega arith)))
  where
    by : (p : Bool) → not p ≡ false → get_of k (map entry_of cells) ≡ None
        → (if p then get_of k (map entry_of cells) else if precedes k (key_of c) then None else Some (value_of c)) ≡ None
    by true e h = h
    by false e h = cc

pub get_at : (k : Key) (cells : List (List ℕ)) (at : ℕ) → ((i : ℕ) → i < at → is_from At k (key_at cells i) ≡ false) → at < length cells
    → is_from At k (key_at cells at) ≡ true
    → get_of k (map entry_of cells) ≡ (if precedes k (key_at cells at) then None else Some (value_of (slice_index_or cells at [])))
get_at k [] at f l h = absurd (omega arith)
get_at k (c ∷ cells) zero f l h = by (precedes (key_of c) k) h
  where
    by : (p : Bool) → not p ≡ true
        → (if p then get_of k (map entry_of cells) else if precedes k (key_of c) then None else Some (value_of c)) ≡ (if precedes k (key_of c) then None else Some (value_of c))
    by true e = cc
    by false e = refl
get_at k (c ∷ cells) (suc at) f l h = by (precedes (key_of c) k) (f 0 (omega arith)) (get_at k cells at (λ i g. f (suc i) (omega arith)) (omega arith) h)
  where
    Rest : Option (List ℕ)
    Rest = if precedes k (key_at cells at) then None else Some (value_of (slice_index_or cells at []))

    by : (p : Bool) → not p ≡ false → get_of k (map entry_of cells) ≡ (if precedes k (key_at cells at) then None else Some (value_of (slice_index_or cells at [])))
        → (if p then get_of k (map entry_of cells) else if precedes k (key_of c) then None else Some (value_of c))
        ≡ (if precedes k (key_at cells at) then None else Some (value_of (slice_index_or cells at [])))
    by true e g = g
    by false e g = cc

pub first_past : (start : Start) (k : Key) (cells : List (List ℕ)) → ((i : ℕ) → i < length cells → is_from start k (key_at cells i) ≡ false)
    → first_from start k (map entry_of cells) ≡ None
first_past start k [] f = refl
first_past start k (c ∷ cells) f = rw (f 0 (omega arith)) (first_past start k cells (λ i h. f (suc i) (omega arith)))

pub first_at : (start : Start) (k : Key) (cells : List (List ℕ)) (at : ℕ) → ((i : ℕ) → i < at → is_from start k (key_at cells i) ≡ false) → at < length cells
    → is_from start k (key_at cells at) ≡ true → first_from start k (map entry_of cells) ≡ Some (entry_of (slice_index_or cells at []))
first_at start k [] at f l h = absurd (omega arith)
first_at start k (c ∷ cells) zero f l h = rw h
first_at start k (c ∷ cells) (suc at) f l h = rw (f 0 (omega arith)) (first_at start k cells at (λ i g. f (suc i) (omega arith)) (omega arith) h)

pub route_at : (k : Key) (cells : List (List ℕ)) (at : ℕ) → at ≤ length cells → ((i : ℕ) → i < at → is_from Behind k (key_at cells i) ≡ false)
    → ((i : ℕ) → at ≤ i → i < length cells → is_from Behind k (key_at cells i) ≡ true) → route_of k (map branch_of cells) ≡ at
route_at k [] at l f g = omega arith
route_at k (c ∷ cells) zero l f g = rw (g 0 (omega arith) (omega arith))
route_at k (c ∷ cells) (suc at) l f g =
    rw (f 0 (omega arith)) (ap suc (route_at k cells at (omega arith) (λ i h. f (suc i) (omega arith)) (λ i h w. g (suc i) (omega arith) (omega arith))))

pub child_first : (first : ℕ) (cells : List (List ℕ)) → child_at first (map branch_of cells) 0 ≡ first
child_first first [] = refl
child_first first (c ∷ cells) = refl

pub child_later : (first : ℕ) (cells : List (List ℕ)) (at : ℕ) → at < length cells → child_at first (map branch_of cells) (suc at) ≡ child_of (slice_index_or cells at [])
child_later first [] at h = absurd (omega arith)
child_later first (c ∷ cells) zero h = child_first (child_of c) cells
child_later first (c ∷ cells) (suc at) h = child_later (child_of c) cells at (omega arith)
