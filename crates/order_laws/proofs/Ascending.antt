-- Lists of rows in which none stands before an earlier one, by order keys. What is sorted is such a
-- list.
use Rattle.std.proofs.Common.{◌≡◌, refl, ℕ, zero, suc, ◌+◌, ◌<◌, Bool, true, false, if◌then◌else◌, List, [], ◌∷◌, length, slice_index_or, arith}
use Rattle.std.specs.Prelude.{IsSorted}
use Rattle.std.specs.Cmp.{IsStrictWeakOrder, IsTotalOrder}
use Rattle.std.specs.List.{AllByRecursion}
use Rattle.std.specs.Ordering.{is_lt}
use Rattle.std.proofs.lemmas.Cmp.{on_total, back_total, then_total}
use Rattle.std.proofs.lemmas.List.Sorted.{ranks_by}
use Rattle.sqlval.specs.Value.{Row}
use Rattle.sqlval.proofs.ValueOrderLaws.{value_order_total}
use Rattle.typing.specs.declared.typed.OrderKey.{OrderKey}
use Rattle.algebra.specs.Sorted.{put_row, sorted}
use Rattle.denote.specs.Answer.{directed, by_keys}
use Rattle.denote.specs.Expression.{cell}

-- none of these rows stands before this one
abbrev pub NoneBefore : List OrderKey → Row → List Row → Type 0
NoneBefore keys first rows = AllByRecursion (λ row. is_lt (by_keys keys row first) ≡ false) rows

-- no row stands before an earlier one
abbrev pub Ascends : List OrderKey → List Row → Type 0
Ascends keys [] = Unit {0}
Ascends keys (row ∷ rows) = NoneBefore keys row rows × Ascends keys rows

-- ---- the order of keys

directed_total : (descending : Bool) (key : OrderKey) → IsTotalOrder (λ (a b : Row). directed descending a b key)
directed_total false key = on_total (λ (row : Row). cell row key.place) value_order_total
directed_total true key = back_total (on_total (λ (row : Row). cell row key.place) value_order_total)

keys_total : (keys : List OrderKey) → IsTotalOrder (by_keys keys)
keys_total [] = record { antisymm = λ x y. refl; trans = λ x y z p q. p; congr = λ x y z p. refl }
keys_total (key ∷ keys) = then_total {R = λ (a b : Row). directed key.descending a b key} {S = by_keys keys} (directed_total key.descending key) (keys_total keys)

keys_rank : (keys : List OrderKey) → IsStrictWeakOrder (λ (a b : Row). is_lt (by_keys keys a b))
keys_rank keys = ranks_by (keys_total keys) (λ (row : Row). row)

-- ---- sorting

-- what does not stand before a later row does not stand before this one
lower : (keys : List OrderKey) (row other : Row) (rows : List Row) → is_lt (by_keys keys other row) ≡ false → NoneBefore keys other rows → NoneBefore keys row rows
lower keys row other [] e h = tt
lower keys row other (next ∷ rows) e h = ((keys_rank keys).chain next other row h.0 e, lower keys row other rows e h.1)

put-none : (keys : List OrderKey) (first row : Row) (rows : List Row) → is_lt (by_keys keys row first) ≡ false → NoneBefore keys first rows
    → NoneBefore keys first (put_row keys row rows)
put-none keys first row [] e h = (e, tt)
put-none keys first row (other ∷ rows) e h = at (is_lt (by_keys keys other row)) (put-none keys first row rows e h.1)
  where
    at : (b : Bool) → NoneBefore keys first (put_row keys row rows) → NoneBefore keys first (if b then other ∷ put_row keys row rows else row ∷ other ∷ rows)
    at true g = (h.0, g)
    at false g = (e, h)

put-ascends : (keys : List OrderKey) (row : Row) (rows : List Row) → Ascends keys rows → Ascends keys (put_row keys row rows)
put-ascends keys row [] h = (tt, tt)
put-ascends keys row (other ∷ rows) h = at (is_lt (by_keys keys other row)) refl (put-ascends keys row rows h.1)
  where
    at : (b : Bool) → is_lt (by_keys keys other row) ≡ b → Ascends keys (put_row keys row rows) → Ascends keys (if b then other ∷ put_row keys row rows else row ∷ other ∷ rows)
    at true e g = (put-none keys other row rows ((keys_rank keys).one_way other row e) h.0, g)
    at false e g = ((e, lower keys row other rows e h.0), h)

pub sorted-ascends : (keys : List OrderKey) (rows : List Row) → Ascends keys (sorted keys rows)
sorted-ascends keys [] = tt
sorted-ascends keys (row ∷ rows) = put-ascends keys row (sorted keys rows) (sorted-ascends keys rows)

-- ---- without keys

no_keys-none : (first : Row) (rows : List Row) → NoneBefore [] first rows
no_keys-none first [] = tt
no_keys-none first (row ∷ rows) = (refl, no_keys-none first rows)

-- every list is sorted by no keys
pub unsorted-ascends : (rows : List Row) → Ascends [] rows
unsorted-ascends [] = tt
unsorted-ascends (row ∷ rows) = (no_keys-none row rows, unsorted-ascends rows)

-- ---- each row and the next one

at_each : (keys : List OrderKey) (rows : List Row) → Ascends keys rows → (k : ℕ) (d : Row) → k + 1 < length rows
    → is_lt (by_keys keys (slice_index_or rows (k + 1) d) (slice_index_or rows k d)) ≡ false
at_each keys [] h k d below = absurd (omega (arith, below))
at_each keys (row ∷ []) h k d below = absurd (omega (arith, below))
at_each keys (row ∷ other ∷ rows) h zero d below = h.0.0
at_each keys (row ∷ other ∷ rows) h (suc k) d below =
    let less : k + 1 < length (other ∷ rows) = omega (arith, below) in
    let further : is_lt (by_keys keys (slice_index_or (other ∷ rows) (k + 1) d) (slice_index_or (other ∷ rows) k d)) ≡ false = at_each keys (other ∷ rows) h.1 k d less in
    let next : suc k + 1 ≡ suc (k + 1) = omega arith in
    rw next further

pub ascends-IsSorted : (keys : List OrderKey) (rows : List Row) → Ascends keys rows → IsSorted (by_keys keys) rows
ascends-IsSorted keys rows h = λ k d low below. at_each keys rows h k d below
