-- The pages in use of a list of pages by number.
use Rattle.std.specs.Prelude.{◌≡◌, ℕ, ◌<◌, ◌&&◌, List, Option, None, IsSome, Bool, true, false, cond, nat_lt, slice_index_or, refl}
use borrow.Author.Tests.{ltb-true}

-- not page 0, and none from 65,536 on
abbrev pub pages_of : List (Option (List ℕ)) → ℕ → Option (List ℕ)
pages_of pages n = cond (nat_lt 0 n && nat_lt n 65536) (slice_index_or pages n None) None

bounded_by : (p q : Bool) (n : ℕ) (page : Option (List ℕ)) → nat_lt 0 n ≡ p → nat_lt n 65536 ≡ q
    → IsSome (cond (p && q) page None) → (0 < n) × (n < 65536)
bounded_by true true n page e f h = (ltb-true 0 n e, ltb-true n 65536 f)
bounded_by true false n page e f h = absurd (cc)
bounded_by false q n page e f h = absurd (cc)

pub pages_are_bounded : (pages : List (Option (List ℕ))) (n : ℕ) → IsSome (pages_of pages n) → (0 < n) × (n < 65536)
pages_are_bounded pages n h = bounded_by (nat_lt 0 n) (nat_lt n 65536) n (slice_index_or pages n None) refl refl h
