-- Pages in use have numbers from 1 to 65,535.
use Rattle.std.specs.Prelude.{◌≡◌, ℕ, ◌<◌, ◌&&◌, nat_lt, Bool, true, false, cond, Option, Some, None, List, IsSome, refl, if◌then◌else◌}
use Rattle.std.proofs.Common.{sym, ap, ◌∙◌}
use Rattle.std.specs.Option.{is_some}
use borrow.Author.Tests.{ltb-true}
use Rattle.pool.specs.Pages.{PageMap, over}
use Rattle.overlay.specs.InUse.{unless_free, not_free, is_counted, in_use}

-- where the version's page 0 is known, and where not
pub known : (version written : PageMap) (n : ℕ) → is_some (version 0) ≡ true
    → in_use version written n ≡ (if is_counted (over written version 0) n then not_free (over written version) n else None)
unfolding in_use
known version written n e = ap (λ b. cond b (if is_counted (over written version 0) n then not_free (over written version) n else None) (not_free written n)) e

pub unknown : (version written : PageMap) (n : ℕ) → is_some (version 0) ≡ false
    → in_use version written n ≡ not_free written n
unfolding in_use
unknown version written n e = ap (λ b. cond b (if is_counted (over written version 0) n then not_free (over written version) n else None) (not_free written n)) e

-- by the two cases
pub by_known : (version : PageMap) (P : Type 0) → (is_some (version 0) ≡ true → P)
    → (is_some (version 0) ≡ false → P) → P
by_known version P there none = by (is_some (version 0)) there none
  where
    by : (b : Bool) → (b ≡ true → P) → (b ≡ false → P) → P
    by true f g = f refl
    by false f g = g refl

pub if_none : (b : Bool) (o : Option (List ℕ)) (page : List ℕ) → cond b o None ≡ Some page
    → (b ≡ true) × (o ≡ Some page)
if_none true o page e = (refl, e)
if_none false o page e = cc

pub some_is : (o : Option (List ℕ)) → IsSome o → (page : List ℕ) × (o ≡ Some page)
some_is None h = let bad : false ≡ true = h in absurd (cc)
some_is (Some page) h = (page, refl)

pub in_range : (n : ℕ) (a b : Bool) → nat_lt 0 n ≡ a → nat_lt n 65536 ≡ b → (a && b) ≡ true → (0 < n) × (n < 65536)
in_range n true true e f h = (ltb-true 0 n e, ltb-true n 65536 f)
in_range n true false e f h = cc
in_range n false b e f h = cc

pub not_free-bounded : (pages : PageMap) (n : ℕ) → IsSome (not_free pages n) → (0 < n) × (n < 65536)
not_free-bounded pages n there = let page = some_is (not_free pages n) there in
    in_range n (nat_lt 0 n) (nat_lt n 65536) refl refl (if_none (nat_lt 0 n && nat_lt n 65536) (unless_free (pages n)) page.0 page.1).0

pub in_use-bounded : (version written : PageMap) (n : ℕ) → IsSome (in_use version written n) → (0 < n) × (n < 65536)
in_use-bounded version written n there = let page = some_is (in_use version written n) there in by_known version ((0 < n)
    × (n < 65536))
    (λ k. not_free-bounded (over written version) n (ap (λ (o : Option (List ℕ)). is_some o)
    (if_none (is_counted (over written version 0) n) (not_free (over written version) n) page.0 (sym (known version written n k) ∙ page.1)).1))
    (λ k. not_free-bounded written n (ap (λ (o : Option (List ℕ)). is_some o) (sym (unknown version written n k) ∙ page.1)))
