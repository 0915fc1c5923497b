-- What is sorted is in order.
use Rattle.std.proofs.Common.{◌≡◌, refl, ap, sym, ◌∙◌, subst, ℕ, zero, suc, ◌+◌, ◌<◌, ◌≤◌, Bool, true, false, if◌then◌else◌, List, [], ◌∷◌, length, slice_index_or, arith, add-one}
use Rattle.std.specs.Prelude.{IsSorted}
use Rattle.std.specs.Ordering.{is_lt, ordering_reverse, ordering_then}
use Rattle.std.specs.declared.cmp.Ordering.{Ordering}
use Rattle.std.specs.declared.cmp.Ordering.TheVariants.{Less, Equal, Greater}
use Rattle.sqlval.specs.Comparison.{value_order}
use Rattle.sqlval.specs.Value.{Row}
use Rattle.sqlval.proofs.ValueOrderLaws.{value_order_total}
use Rattle.typing.specs.declared.typed.OrderKey.{OrderKey}
use Rattle.algebra.specs.Sorted.{put_row, sorted}
use Rattle.denote.specs.Answer.{directed, by_keys}
use Rattle.denote.specs.Expression.{cell}

-- each row and the next one
abbrev InOrder : List OrderKey → List Row → Type 0
InOrder keys [] = Unit {0}
InOrder keys (row ∷ []) = Unit {0}
InOrder keys (row ∷ other ∷ rows) = (is_lt (by_keys keys other row) ≡ false) × InOrder keys (other ∷ rows)

then-reversed : (a b c d : Ordering) → a ≡ ordering_reverse b → c ≡ ordering_reverse d → ordering_then a c ≡ ordering_reverse (ordering_then b d)
then-reversed a Less c d e f = rw e refl
then-reversed a Equal c d e f = rw e f
then-reversed a Greater c d e f = rw e refl

directed-reversed : (descending : Bool) (a b : Row) (key : OrderKey) → directed descending a b key ≡ ordering_reverse (directed descending b a key)
directed-reversed false a b key = value_order_total.antisymm (cell a key.place) (cell b key.place)
directed-reversed true a b key = value_order_total.antisymm (cell b key.place) (cell a key.place)

keys-reversed : (keys : List OrderKey) (a b : Row) → by_keys keys a b ≡ ordering_reverse (by_keys keys b a)
keys-reversed [] a b = refl
keys-reversed (key ∷ keys) a b = then-reversed (directed key.descending a b key) (directed key.descending b a key) (by_keys keys a b) (by_keys keys b a)
    (directed-reversed key.descending a b key) (keys-reversed keys a b)

-- what stands before does not stand after
not-after : (keys : List OrderKey) (a b : Row) → is_lt (by_keys keys a b) ≡ true → is_lt (by_keys keys b a) ≡ false
not-after keys a b e = at (by_keys keys a b) refl
  where
    at : (o : Ordering) → by_keys keys a b ≡ o → is_lt (by_keys keys b a) ≡ false
    at Less f = ap is_lt (keys-reversed keys b a ∙ ap ordering_reverse f)
    at Equal f = absurd (let g : is_lt Equal ≡ true = ap is_lt (sym f) ∙ e in cc)
    at Greater f = absurd (let g : is_lt Greater ≡ true = ap is_lt (sym f) ∙ e in cc)

-- after a row that stands before the one that is put, and before the others
put-after : (keys : List OrderKey) (first row : Row) (rows : List Row) → is_lt (by_keys keys first row) ≡ true → InOrder keys (first ∷ rows) → InOrder keys (put_row keys row rows)
    → InOrder keys (first ∷ put_row keys row rows)
put-after keys first row [] e h g = (not-after keys first row e, tt)
put-after keys first row (other ∷ rows) e h g = at (is_lt (by_keys keys other row)) g
  where
    at : (b : Bool) → InOrder keys (if b then other ∷ put_row keys row rows else row ∷ other ∷ rows) → InOrder keys (first ∷ (if b then other ∷ put_row keys row rows else row ∷ other ∷ rows))
    at true g = (h.0, g)
    at false g = (not-after keys first row e, g)

rest-in_order : (keys : List OrderKey) (row : Row) (rows : List Row) → InOrder keys (row ∷ rows) → InOrder keys rows
rest-in_order keys row [] h = tt
rest-in_order keys row (other ∷ rows) h = h.1

put-in_order : (keys : List OrderKey) (row : Row) (rows : List Row) → InOrder keys rows → InOrder keys (put_row keys row rows)
put-in_order keys row [] h = tt
put-in_order keys row (other ∷ rows) h = at (is_lt (by_keys keys other row)) refl (put-in_order keys row rows (rest-in_order keys other rows h))
  where
    at : (b : Bool) → is_lt (by_keys keys other row) ≡ b → InOrder keys (put_row keys row rows) → InOrder keys (if b then other ∷ put_row keys row rows else row ∷ other ∷ rows)
    at true e g = put-after keys other row rows e h g
    at false e g = (e, h)

sorted-in_order : (keys : List OrderKey) (rows : List Row) → InOrder keys (sorted keys rows)
sorted-in_order keys [] = tt
sorted-in_order keys (row ∷ rows) = put-in_order keys row (sorted keys rows) (sorted-in_order keys rows)

at_each : (keys : List OrderKey) (rows : List Row) → InOrder keys rows → (k : ℕ) (d : Row) → k + 1 < length rows
    → is_lt (by_keys keys (slice_index_or rows (k + 1) d) (slice_index_or rows k d)) ≡ false
at_each keys [] h k d below = absurd (omega (arith, below))
at_each keys (row ∷ []) h k d below = absurd (omega (arith, below))
at_each keys (row ∷ other ∷ rows) h zero d below = h.0
at_each keys (row ∷ other ∷ rows) h (suc k) d below =
    let less : k + 1 < length (other ∷ rows) = omega (arith, below) in
    let further : is_lt (by_keys keys (slice_index_or (other ∷ rows) (k + 1) d) (slice_index_or (other ∷ rows) k d)) ≡ false = at_each keys (other ∷ rows) h.1 k d less in
    let next : suc k + 1 ≡ suc (k + 1) = omega arith in
    rw next further

pub sorted-IsSorted : (keys : List OrderKey) (rows : List Row) → IsSorted (by_keys keys) (sorted keys rows)
sorted-IsSorted keys rows = λ k d low below. at_each keys (sorted keys rows) (sorted-in_order keys rows) k d below

pub unsorted-IsSorted : (rows : List Row) → IsSorted (by_keys []) rows
unsorted-IsSorted rows = λ k d low below. refl
