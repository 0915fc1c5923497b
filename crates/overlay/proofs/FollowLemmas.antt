-- Pages that may be committed: whole ones over whole ones.
use Rattle.std.proofs.Common.{◌≡◌, ◌∙◌, ℕ, ◌+◌, ◌-◌, ◌*◌, ◌^◌, ◌<◌, ◌≤◌, List, Option, Some, None, IsSome, IsTrue, refl, sym, ap, subst, inl, inr, arith, rules}
use Rattle.std.specs.Prelude.{◌⊎◌}
use Rattle.std.proofs.lemmas.Bool.{cases_lt}
use Rattle.overlay.specs.Whole.{IsWhole, HasFreeList}
use Rattle.pool.specs.Follows.{MayFollow}
use Rattle.pool.specs.Pages.{PageMap, pick, over}
use Rattle.pool.specs.Refused.{CommitRefused}
use Rattle.pool.specs.Zeros.{EndsInZeros}
use Rattle.pool.specs.declared.error.PoolError.{PoolError}
use Rattle.pool.specs.declared.error.PoolError.TheVariants.{Memory, Device, Damaged, Pages, Kept}

some_top : (o p : Option (List ℕ)) → IsSome o → IsSome (pick o p)
some_top (Some x) p h = h
some_top None p h = let bad : IsSome {T = List ℕ} None = h in absurd (none bad)
  where
    none : IsSome {T = List ℕ} None → ⊥
    none e = cc

not_some : (o : Option (List ℕ)) → o ≡ None → IsSome o → ⊥
not_some None e h = cc
not_some (Some x) e h = let bad : Some x ≡ None = e in cc

pub whole_follows : (top pages : PageMap) → IsWhole (over top pages) → MayFollow top pages
whole_follows top pages (header, whole) = record {
  gapless = λ n m less there. whole.all n (under m n less (some_top (top m) (pages m) there) (cases_lt m header.page_count));
  low = λ n there. low n (some_top (top n) (pages n) there) (cases_lt n header.page_count);
  zeros = λ page is. same page (ap (λ (o : Option (List ℕ)). pick o (pages 0)) is);
}
  where
    under : (m n : ℕ) → n < m → IsSome (over top pages m) → (m < header.page_count) ⊎ (header.page_count ≤ m) → n < header.page_count
    under m n less there (inl low) = omega (arith, less, low)
    under m n less there (inr behind) = absurd (not_some (over top pages m) (whole.ends m behind) there)

    low : (n : ℕ) → IsSome (over top pages n) → (n < header.page_count) ⊎ (header.page_count ≤ n) → n < 2 ^ 32 - 1
    low n there (inl less) = omega (arith, less, whole.bounds.few)
    low n there (inr behind) = absurd (not_some (over top pages n) (whole.ends n behind) there)

    same : (page : List ℕ) → over top pages 0 ≡ Some page → EndsInZeros page
    same page is = let first : whole.first ≡ page = (let e : Some whole.first ≡ Some page = sym whole.there ∙ is in cc) in subst EndsInZeros first whole.zeros

-- a refusal, by a harm that follows
pub harm_of : (P Q H K : Type 0) (a b : ℕ) (e : PoolError) → (H → K) → CommitRefused P Q H a b e → CommitRefused P Q K a b e
harm_of P Q H K a b Memory to h = h
harm_of P Q H K a b (Device x) to h = h
harm_of P Q H K a b Damaged to h = to h
harm_of P Q H K a b Pages to h = h
harm_of P Q H K a b Kept to h = h
