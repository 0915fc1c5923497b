-- What a crash may leave after a write, a change of the length or a sync, by what it might have
-- left before.
use Rattle.std.proofs.Common.{◌≡◌, ◌⊎◌, inl, inr, ⊎_elim, ℕ, zero, suc, ◌+◌, ◌-◌, ◌<◌, ◌≤◌, List, [], ◌∷◌, length, get_or, take, refl, sym, ◌∙◌, ap, subst, arith}
use Rattle.std.specs.Prelude.{true, false, max, replicate, nat_lt, if◌then◌else◌}
use Rattle.std.proofs.lemmas.Bool.{cases_lt}
use Rattle.std.proofs.lemmas.Bool.Decides.{nat_tests}
use Rattle.std.proofs.lemmas.List.{length-take, ext_get_or, get_or-take, get_or_append_left}
use Rattle.disk.specs.Contents.{IsTorn, resized}
use Rattle.disk.specs.Crashes.{Bytes, Follows, Only, IsSpread, IsCut}
use Rattle.disk.proofs.ContentsLemmas.{length_resized}
use Rattle.crash_disk.specs.declared.outcome.Outcome.{Outcome}
use Rattle.crash_disk.specs.Outcomes.{InRange, has_length, IsSized, IsLeft, Agrees}
use Rattle.crash_disk.proofs.RangeLemmas.{length_cases1, length_first, IsMore, more_old, more_new, not_more, sized_old, sized_new, sized_cases}

-- ---- a list by its elements

abbrev pub tabulate : (ℕ → ℕ) → ℕ → List ℕ
tabulate f zero = []
tabulate f (suc n) = f 0 ∷ tabulate (λ i. f (suc i)) n

length_tabulate : (f : ℕ → ℕ) (n : ℕ) → length (tabulate f n) ≡ n
length_tabulate f zero = refl
length_tabulate f (suc n) = ap suc (length_tabulate (λ i. f (suc i)) n)

at_tabulate : (f : ℕ → ℕ) (n i : ℕ) → i < n → get_or (tabulate f n) i 0 ≡ f i
at_tabulate f zero i less = absurd (omega (arith, less))
at_tabulate f (suc n) zero less = refl
at_tabulate f (suc n) (suc i) less = at_tabulate (λ j. f (suc j)) n i (omega (arith, less))

-- the bytes c with those of s from a to b
abbrev pub mix : List ℕ → List ℕ → ℕ → ℕ → ℕ → ℕ
mix s c a b i = if nat_lt i a then get_or c i 0 else (if nat_lt i b then get_or s i 0 else get_or c i 0)

abbrev pub mended : List ℕ → List ℕ → ℕ → ℕ → ℕ → List ℕ
mended s c a b k = tabulate (mix s c a b) k

mix_out : (s c : List ℕ) (a b i : ℕ) → (i < a) ⊎ (b ≤ i) → mix s c a b i ≡ get_or c i 0
mix_out s c a b i (inl less) = grind (arith, nat_tests, less)
mix_out s c a b i (inr more) = grind (arith, nat_tests, more)

mix_in : (s c : List ℕ) (a b i : ℕ) → a ≤ i → i < b → mix s c a b i ≡ get_or s i 0
mix_in s c a b i low high = grind (arith, nat_tests, low, high)

mended_out : (s c : List ℕ) (a b k i : ℕ) → i < k → (i < a) ⊎ (b ≤ i) → get_or c i 0 ≡ get_or (mended s c a b k) i 0
mended_out s c a b k i less out = sym (at_tabulate (mix s c a b) k i less ∙ mix_out s c a b i out)

-- an outcome from before it
mended_left : (was next : Outcome) (a b len k : ℕ) (c : Bytes) → IsMore was next a b len → IsLeft next c → k ≤ length c
    → IsSized was k → IsLeft was (mended was.synced.items c a b k)
mended_left was next a b len k c m left fits sized = record {
  size = subst (λ (n : ℕ). IsSized was n) (sym (length_tabulate (mix was.synced.items c a b) k)) sized;
  kept = λ i below within none. by i below (subst (λ (n : ℕ). i < n) (length_tabulate (mix was.synced.items c a b) k) within) none (cases_lt i a) (cases_lt i b);
}
  where
    outside : (i : ℕ) → i < length was.synced.items → i < k → (InRange was.ranges.items i → ⊥) → (i < a) ⊎ (b ≤ i)
        → get_or (mended was.synced.items c a b k) i 0 ≡ get_or was.synced.items i 0
    outside i below less none out =
        sym (mended_out was.synced.items c a b k i less out)
        ∙ left.kept i (subst (λ (l : List ℕ). i < length l) (sym m.synced) below) (omega (arith, less, fits)) (not_more was next a b len i m none out)
        ∙ ap (λ (l : List ℕ). get_or l i 0) m.synced

    by : (i : ℕ) → i < length was.synced.items → i < k → (InRange was.ranges.items i → ⊥) → (i < a) ⊎ (a ≤ i)
        → (i < b) ⊎ (b ≤ i) → get_or (mended was.synced.items c a b k) i 0 ≡ get_or was.synced.items i 0
    by i below less none (inl low) other = outside i below less none (inl low)
    by i below less none (inr low) (inr high) = outside i below less none (inr high)
    by i below less none (inr low) (inl high) = at_tabulate (mix was.synced.items c a b) k i less ∙ mix_in was.synced.items c a b i low high

-- ---- a write

spread_from : (was next : Outcome) (file : Bytes) (at n k : ℕ) (c : Bytes)
    → IsMore was next at (at + n) (max (length file) (at + n)) → IsLeft next c → IsSized was k → k ≤ length c
    → length c ≤ max k (at + n) → (at + n ≤ length file → length c ≡ k) → (d : Bytes) × IsLeft was d
    × IsSpread (length file) at n d c
spread_from was next file at n k c m left sized fits longer within = (
  mended was.synced.items c at (at + n) k,
  mended_left was next at (at + n) (max (length file) (at + n)) k c m left fits sized,
  let size = length_tabulate (mix was.synced.items c at (at + n)) k in
      record {
        torn = record {
          no_shorter = omega (arith, size, fits);
          no_longer = omega (arith, size, longer);
          before = λ i less low. mended_out was.synced.items c at (at + n) k i (omega (arith, size, less)) (inl low);
          behind = λ i less high. mended_out was.synced.items c at (at + n) k i (omega (arith, size, less)) (inr high);
        };
        within = λ w. within w ∙ sym size;
      },
)

pub spread_follows : (was next : Outcome) (file : Bytes) (at n : ℕ)
    → IsMore was next at (at + n) (max (length file) (at + n)) → Agrees was file
    → Follows (IsSpread (length file) at n) (IsLeft was) (IsLeft next)
spread_follows was next file at n m agrees c left = by (sized_cases was next at (at + n) (max (length file) (at + n)) (length c) m left.size)
  where
    by : IsSized was (length c) ⊎ (length c ≡ max (length file) (at + n)) → (d : Bytes) × IsLeft was d
        × IsSpread (length file) at n d c
    by (inl old) = spread_from was next file at n (length c) c m left old (omega arith) (omega arith) (λ w. refl)
    by (inr new) = spread_from was next file at n (length file) c m left agrees.left.size (omega (arith, new)) (omega (arith, new)) (λ w. omega (arith, new, w))

-- ---- a length

pub cut_follows : (was next : Outcome) (file : Bytes) (n : ℕ) → IsMore was next n (length was.synced.items) n
    → Agrees was file → Follows (IsCut n) (IsLeft was) (IsLeft next)
cut_follows was next file n m agrees c left = by (sized_cases was next n (length was.synced.items) n (length c) m left.size)
  where
    -- an outcome is cut to k bytes, which are below n where c is as long
    by : IsSized was (length c) ⊎ (length c ≡ n) → (d : Bytes) × IsLeft was d × IsCut n d c
    by (inl old) = (
      mended was.synced.items c n (length was.synced.items) (length c),
      mended_left was next n (length was.synced.items) n (length c) c m left (omega arith) old,
      let size = length_tabulate (mix was.synced.items c n (length was.synced.items)) (length c) in
          record { size = inl (sym size); front = λ i a b less. mended_out was.synced.items c n (length was.synced.items) (length c) i b (inl less) },
    )
    by (inr new) = (longer, long_left, record { size = inr new; front = λ i a b less. front i (omega (arith, size, a)) less })
      where
        -- c may be shorter than the file was: what is missing is as it was synced, or as it was
        -- read
        f : ℕ → ℕ
        f i = if nat_lt i n then get_or c i 0 else get_or file i 0

        longer : List ℕ
        longer = tabulate f (length file)

        size : length longer ≡ length file
        size = length_tabulate f (length file)

        low : (i : ℕ) → i < n → f i ≡ get_or c i 0
        low i less = grind (arith, nat_tests, less)

        high : (i : ℕ) → n ≤ i → f i ≡ get_or file i 0
        high i more = grind (arith, nat_tests, more)

        front : (i : ℕ) → i < length file → i < n → get_or c i 0 ≡ get_or longer i 0
        front i within less = sym (at_tabulate f (length file) i within ∙ low i less)

        kept : (i : ℕ) → i < length was.synced.items → i < length file → (InRange was.ranges.items i → ⊥)
            → (i < n) ⊎ (n ≤ i) → get_or longer i 0 ≡ get_or was.synced.items i 0
        kept i below within none (inl less) =
            at_tabulate f (length file) i within ∙ low i less
            ∙ left.kept i (subst (λ (l : List ℕ). i < length l) (sym m.synced) below) (omega (arith, new, less)) (not_more was next n (length was.synced.items) n i m none (inl less))
            ∙ ap (λ (l : List ℕ). get_or l i 0) m.synced
        kept i below within none (inr more) = at_tabulate f (length file) i within ∙ high i more ∙ agrees.left.kept i below within none

        long_left : IsLeft was longer
        long_left = record {
          size = subst (λ (k : ℕ). IsSized was k) (sym size) agrees.left.size;
          kept = λ i below within none. kept i below (omega (arith, size, within)) none (cases_lt i n);
        }

-- ---- what a read gives stays one of the outcomes

pub more_agrees : (was next : Outcome) (file : Bytes) (a b len : ℕ) → IsMore was next a b len → Agrees was file
    → Agrees next file
more_agrees was next file a b len m agrees = record {
  left = record {
    size = sized_old was next a b len (length file) m agrees.left.size;
    kept = λ i below within none.
        agrees.left.kept i (subst (λ (l : List ℕ). i < length l) m.synced below) within (λ is. none (more_old was next a b len i m is))
        ∙ ap (λ (l : List ℕ). get_or l i 0) (sym m.synced);
  };
  past = λ i below behind. more_old was next a b len i m (agrees.past i (subst (λ (l : List ℕ). i < length l) m.synced below) behind);
}

pub torn_agrees : (was next : Outcome) (file new : Bytes) (at n len : ℕ) → IsMore was next at (at + n) len
    → Agrees was file → IsTorn at n file new → length new ≡ len → Agrees next new
torn_agrees was next file new at n len m agrees torn size = record {
  left = record {
    size = sized_new was next at (at + n) len (length new) m size;
    kept = λ i below within none. by i (subst (λ (l : List ℕ). i < length l) m.synced below) none (cases_lt i (length file)) (cases_lt i at) (cases_lt i (at + n)) ∙ ap (λ (l : List ℕ). get_or l i 0) (sym m.synced);
  };
  past = λ i below behind. more_old was next at (at + n) len i m (agrees.past i (subst (λ (l : List ℕ). i < length l) m.synced below) (omega (arith, behind, torn.no_shorter)));
}
  where
    by : (i : ℕ) → i < length was.synced.items → (InRange next.ranges.items i → ⊥)
        → (i < length file) ⊎ (length file ≤ i) → (i < at) ⊎ (at ≤ i) → (i < at + n) ⊎ (at + n ≤ i)
        → get_or new i 0 ≡ get_or was.synced.items i 0
    by i below none (inr past) low high = absurd (none (more_old was next at (at + n) len i m (agrees.past i below past)))
    by i below none (inl within) (inl low) high = torn.before i within low ∙ agrees.left.kept i below within (λ is. none (more_old was next at (at + n) len i m is))
    by i below none (inl within) (inr low) (inr high) = torn.behind i within high ∙ agrees.left.kept i below within (λ is. none (more_old was next at (at + n) len i m is))
    by i below none (inl within) (inr low) (inl high) = absurd (none (more_new was next at (at + n) len i m low high))

pub cut_agrees : (was next : Outcome) (file : Bytes) (n : ℕ) → IsMore was next n (length was.synced.items) n
    → Agrees was file → Agrees next (resized file n)
cut_agrees was next file n m agrees = record {
  left = record {
    size = sized_new was next n (length was.synced.items) n (length (resized file n)) m (length_resized file n);
    kept = λ i below within none.
        by i (subst (λ (l : List ℕ). i < length l) m.synced below) (let size = length_resized file n in omega (arith, size, within)) none (cases_lt i (length file)) ∙ ap (λ (l : List ℕ). get_or l i 0) (sym m.synced);
  };
  past = λ i below behind. more_new was next n (length was.synced.items) n i m (let size = length_resized file n in omega (arith, size, behind)) (subst (λ (l : List ℕ). i < length l) m.synced below);
}
  where
    by : (i : ℕ) → i < length was.synced.items → i < n → (InRange next.ranges.items i → ⊥)
        → (i < length file) ⊎ (length file ≤ i) → get_or (resized file n) i 0 ≡ get_or was.synced.items i 0
    by i below less none (inr past) = absurd (none (more_old was next n (length was.synced.items) n i m (agrees.past i below past)))
    by i below less none (inl within) =
        get_or_append_left (take n file) (replicate (n - length file) 0) 0 i (rw length-take (omega arith)) ∙ get_or-take n file i 0 less
        ∙ agrees.left.kept i below within (λ is. none (more_old was next n (length was.synced.items) n i m is))

-- ---- a sync

pub synced_only : (next : Outcome) (file : Bytes) → next.synced.items ≡ file → next.ranges.items ≡ []
    → next.lengths.items ≡ [] → Only file (IsLeft next)
synced_only next file synced ranges lengths c left =
    ext_get_or 0 c file (size left.size) (λ i less.
    let here = size left.size in
    left.kept i (subst (λ (l : List ℕ). i < length l) (sym synced) (omega (arith, here, less))) less (λ is. none i is) ∙ ap (λ (l : List ℕ). get_or l i 0) synced)
  where
    not : false ≡ true → ⊥
    not e = cc

    none : (i : ℕ) → InRange next.ranges.items i → ⊥
    none i is = not (subst (λ (l : List (ℕ × ℕ)). InRange l i) ranges is)

    size : IsSized next (length c) → length c ≡ length file
    size is = ⊎_elim (λ same. same ∙ ap length synced) (λ has. absurd (not (subst (λ (l : List ℕ). has_length l (length c) ≡ true) lengths has))) (length_cases1 (length next.synced.items) next.lengths.items (length c) is)

pub synced_agrees : (next : Outcome) (file : Bytes) → next.synced.items ≡ file → Agrees next file
synced_agrees next file synced = record {
  left = record { size = length_first (length next.synced.items) next.lengths.items (length file) (ap length (sym synced)); kept = λ i below within none. ap (λ (l : List ℕ). get_or l i 0) (sym synced) };
  past = λ i below behind. absurd (let size : length next.synced.items ≡ length file = ap length synced in omega (arith, size, below, behind));
}
