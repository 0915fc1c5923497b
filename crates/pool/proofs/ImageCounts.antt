-- How many old images there are.
use Rattle.std.proofs.Common.{◌≡◌, ◌≢◌, ℕ, zero, suc, ◌<◌, ◌≤◌, ◌+◌, Bool, true, false, List, [], ◌∷◌, ◌++◌, Some, refl, sym, ap, ◌∙◌, cond, if◌then◌else◌, arith, length, get_or, take}
use Rattle.std.specs.Prelude.{sum_by, nat_lt, ◌&&◌}
use Rattle.std.specs.List.{remove}
use Rattle.std.specs.Option.{is_some}
use Rattle.std.proofs.lemmas.List.Sums.{sum_by-cons, sum_by_push, sum_by-remove}
use Rattle.std.proofs.lemmas.List.{length_push, get_or_past, take_more, take_all}
use Rattle.pool.specs.declared.pins.Pin.{Pin}
use Rattle.pool.specs.declared.slot.OldImage.{OldImage}
use Rattle.pool.specs.declared.slot.Slot.{Slot}
use Rattle.pool.specs.Images.{reads_newest, with_bytes, images_in, needs, pinned_in}
use Rattle.pool.specs.Slots.{slot_at, empty_slot}
use Rattle.pool.proofs.SlotLemmas.{lt-true}
use Rattle.std.proofs.lemmas.Option.{slice_get_within}
use Rattle.std.specs.Prelude.{slice_get}

-- 1 where an image has bytes
abbrev one_of : OldImage → ℕ
one_of o = cond (is_some o.page) 1 0

pub bytes_push : (os : List OldImage) (o : OldImage) → with_bytes (os ++ o ∷ []) ≡ with_bytes os + cond (is_some o.page) 1 0
bytes_push os o = sum_by_push one_of os o

pub bytes_removed : (os : List OldImage) (i : ℕ) (o : OldImage) → i < length os → o ≡ get_or os i o → with_bytes (remove os i) + cond (is_some o.page) 1 0 ≡ with_bytes os
bytes_removed os i o less is = ap (λ (p : OldImage). with_bytes (remove os i) + one_of p) is ∙ sum_by-remove one_of os i o less

in_cons : (s : Slot) (slots : List Slot) → images_in (s ∷ slots) ≡ with_bytes s.images + images_in slots
in_cons s slots = sum_by-cons (λ (t : Slot). with_bytes t.images) s slots

both_same : (a b x y s t : ℕ) → a ≡ x + s → b ≡ y + t → x ≡ y → s ≡ t → a ≡ b
both_same a b x y s t e f g h = omega (arith, e, f, g, h)

nothing : (a x s : ℕ) → a ≡ x + s → x ≡ 0 → s ≡ 0 → a ≡ 0
nothing a x s e f g = omega (arith, e, f, g)

pub same_count : (xs ys : List Slot) → ((n : ℕ) → (slot_at ys n).images ≡ (slot_at xs n).images) → images_in ys ≡ images_in xs
same_count [] [] same = refl
same_count [] (y ∷ ys) same = nothing (images_in (y ∷ ys)) (with_bytes y.images) (images_in ys) (in_cons y ys) (ap with_bytes (same 0)) (same_count [] ys (λ n. same (suc n)))
same_count (x ∷ xs) [] same = sym (nothing (images_in (x ∷ xs)) (with_bytes x.images) (images_in xs) (in_cons x xs) (ap with_bytes (sym (same 0))) (sym (same_count xs [] (λ n. same (suc n)))))
same_count (x ∷ xs) (y ∷ ys) same =
    both_same (images_in (y ∷ ys)) (images_in (x ∷ xs)) (with_bytes y.images) (with_bytes x.images) (images_in ys) (images_in xs) (in_cons y ys) (in_cons x xs) (ap with_bytes (same 0)) (same_count xs ys (λ n. same (suc n)))

at_head : (a b x y s t : ℕ) → a ≡ y + s → b ≡ x + t → s ≡ t → a + x ≡ b + y
at_head a b x y s t e f g = omega (arith, e, f, g)

at_tail : (a b x y s t v w : ℕ) → a ≡ y + s → b ≡ x + t → y ≡ x → s + v ≡ t + w → a + v ≡ b + w
at_tail a b x y s t v w e f g h = omega (arith, e, f, g, h)

-- the images of one page changed
pub counted_at : (xs ys : List Slot) (n : ℕ) → length ys ≡ length xs → ((m : ℕ) → m ≢ n → (slot_at ys m).images ≡ (slot_at xs m).images)
    → images_in ys + with_bytes (slot_at xs n).images ≡ images_in xs + with_bytes (slot_at ys n).images
counted_at [] [] n long others = refl
counted_at [] (y ∷ ys) n long others = absurd (omega (arith, long))
counted_at (x ∷ xs) [] n long others = absurd (omega (arith, long))
counted_at (x ∷ xs) (y ∷ ys) zero long others =
    at_head (images_in (y ∷ ys)) (images_in (x ∷ xs)) (with_bytes x.images) (with_bytes y.images) (images_in ys) (images_in xs) (in_cons y ys) (in_cons x xs)
    (same_count xs ys (λ m. others (suc m) (λ e. absurd (omega (arith, e)))))
counted_at (x ∷ xs) (y ∷ ys) (suc n) long others =
    at_tail (images_in (y ∷ ys)) (images_in (x ∷ xs)) (with_bytes x.images) (with_bytes y.images) (images_in ys) (images_in xs) (with_bytes (slot_at xs n).images) (with_bytes (slot_at ys n).images)
    (in_cons y ys) (in_cons x xs) (ap with_bytes (others 0 (λ e. absurd (omega (arith, e)))))
    (counted_at xs ys n (omega (arith, long)) (λ m differs. others (suc m) (λ e. differs (omega (arith, e)))))

-- an image of one page is kept, where it is needed
one_more : (there read : Bool) (page : Bool) (total was old new : ℕ) → page ≡ there → read ≡ true → total + old ≡ was + new → new ≡ old + cond page 1 0
    → total ≡ was + (if there && read then 1 else 0)
one_more true true true total was old new e r h g = omega (arith, h, g)
one_more true true false total was old new e r h g = cc
one_more false true true total was old new e r h g = cc
one_more false true false total was old new e r h g = omega (arith, h, g)
one_more there false page total was old new e r h g = cc

pub count_kept : (count : ℕ) (pinned : List ℕ) (slots new : List Slot) (n : ℕ) (o : OldImage) → length new ≡ length slots → ((m : ℕ) → m ≢ n → (slot_at new m).images ≡ (slot_at slots m).images)
    → (slot_at new n).images ≡ (slot_at slots n).images ++ o ∷ [] → is_some o.page ≡ nat_lt n count → reads_newest pinned (slot_at slots n).images ≡ true
    → images_in new ≡ images_in slots + needs count pinned slots n
count_kept count pinned slots new n o long others here there wanted =
    one_more (nat_lt n count) (reads_newest pinned (slot_at slots n).images) (is_some o.page) (images_in new) (images_in slots) (with_bytes (slot_at slots n).images) (with_bytes (slot_at new n).images)
    there wanted (counted_at slots new n long others) (ap with_bytes here ∙ bytes_push (slot_at slots n).images o)

none_more : (there read : Bool) (n : ℕ) → n ≡ (if there && read then 1 else 0) → read ≡ false → n ≡ 0
none_more true true n is e = cc
none_more true false n is e = is
none_more false read n is e = is

-- no pinned commit reads the newest version
pub count_none : (count : ℕ) (pinned : List ℕ) (slots : List Slot) (n : ℕ) → reads_newest pinned (slot_at slots n).images ≡ false → images_in slots ≡ images_in slots + needs count pinned slots n
count_none count pinned slots n none = let zero_is = none_more (nat_lt n count) (reads_newest pinned (slot_at slots n).images) (needs count pinned slots n) refl none in
    plus_none (images_in slots) (needs count pinned slots n) zero_is
  where
    plus_none : (a b : ℕ) → b ≡ 0 → a ≡ a + b
    plus_none a b e = omega (arith, e)

pub needs_same : (count : ℕ) (pinned : List ℕ) (slots new : List Slot) (n : ℕ) → (slot_at new n).images ≡ (slot_at slots n).images
    → needs count pinned new n ≡ needs count pinned slots n
needs_same count pinned slots new n images = λ i. if nat_lt n count && reads_newest pinned (images i) then 1 else 0

pub needed_same : (count new_count : ℕ) (pinned : List ℕ) (slots new : List Slot) → new_count ≡ count → ((n : ℕ) → (slot_at new n).images ≡ (slot_at slots n).images)
    → (numbers : List ℕ) → sum_by (needs new_count pinned new) numbers ≡ sum_by (needs count pinned slots) numbers
needed_same count new_count pinned slots new same images numbers =
    ap (λ (k : ℕ). sum_by (needs k pinned new) numbers) same ∙ (λ i. sum_by (λ n. needs_same count pinned slots new n (images n) i) numbers)

-- a sum along a list, one step on and at its end
pub count_more : (f g : ℕ → ℕ) (xs : List ℕ) (i a b c : ℕ) → i < length xs → c ≡ b + g (get_or xs i 0) → g (get_or xs i 0) ≡ f (get_or xs i 0) → b ≡ a + sum_by f (take i xs)
    → c ≡ a + sum_by f (take (i + 1) xs)
count_more f g xs i a b c less e same was =
    let more = ap (sum_by f) (take_more xs i 0 less) ∙ sum_by_push f (take i xs) (get_or xs i 0) in
    step a b c (g (get_or xs i 0)) (f (get_or xs i 0)) (sum_by f (take i xs)) (sum_by f (take (i + 1) xs)) e same was more
  where
    step : (a b c y x s t : ℕ) → c ≡ b + y → y ≡ x → b ≡ a + s → t ≡ s + x → c ≡ a + t
    step a b c y x s t e h k l = omega (arith, e, h, k, l)

pub count_all : (f : ℕ → ℕ) (xs : List ℕ) (i a b : ℕ) → length xs ≤ i → b ≡ a + sum_by f (take i xs) → b ≡ a + sum_by f xs
count_all f xs i a b le e = e ∙ ap (λ (l : List ℕ). a + sum_by f l) (take_all i xs le)

-- the images of one page are among all
pub part_of : (slots : List Slot) (n : ℕ) → with_bytes (slot_at slots n).images ≤ images_in slots
part_of [] n = omega arith
part_of (s ∷ slots) zero = let all = in_cons s slots in at_front (images_in (s ∷ slots)) (with_bytes s.images) (images_in slots) all
  where
    at_front : (a x t : ℕ) → a ≡ x + t → x ≤ a
    at_front a x t e = omega (arith, e)
part_of (s ∷ slots) (suc n) = behind (images_in (s ∷ slots)) (with_bytes s.images) (images_in slots) (with_bytes (slot_at slots n).images) (in_cons s slots) (part_of slots n)
  where
    behind : (a x t y : ℕ) → a ≡ x + t → y ≤ t → y ≤ a
    behind a x t y e le = omega (arith, e, le)

-- an image that was taken out
pub got : {X : Type 0} (xs : List X) (i : ℕ) (x d : X) → slice_get xs i ≡ Some x → get_or xs i d ≡ x
got [] i x d e = cc
got (y ∷ xs) zero x d e = cc
got (y ∷ xs) (suc i) x d e = got xs i x d e

pub bytes_taken : (os : List OldImage) (i : ℕ) (o : OldImage) → slice_get os i ≡ Some o → with_bytes (remove os i) + cond (is_some o.page) 1 0 ≡ with_bytes os
bytes_taken os i o e = bytes_removed os i o (slice_get_within os i o e) (sym (got os i o o e))

-- a page that was not committed yet, and a pin
pub needs_past : (count : ℕ) (pinned : List ℕ) (slots : List Slot) (n : ℕ) (r : Bool) → length slots ≤ n → n < count → r ≡ reads_newest pinned [] → cond r 1 0 ≡ needs count pinned slots n
needs_past count pinned slots n r none less is =
    ap {B = ℕ} (λ b. cond b 1 0) is ∙ ap {B = ℕ} (λ b. if b && reads_newest pinned [] then 1 else 0) (sym (lt-true n count less))
    ∙ sym (ap {B = ℕ} (λ (s : Slot). if nat_lt n count && reads_newest pinned s.images then 1 else 0) (get_or_past slots n empty_slot none))

pub any_pinned : (pins : List Pin) → nat_lt 0 (length pins) ≡ reads_newest (pinned_in pins) []
any_pinned [] = refl
any_pinned (p ∷ ps) = lt-true 0 (suc (length ps)) (omega arith)

-- nothing was put at the end of nothing
pub never_pushed : (others : List OldImage) (image : OldImage) → [] ≡ others ++ image ∷ [] → ⊥
never_pushed others image e = let long = ap (λ (l : List OldImage). length l) e in let more = length_push others image in omega (arith, long, more)

pub sum_more : (f : ℕ → ℕ) (xs : List ℕ) (i a r : ℕ) → i < length xs → a ≡ sum_by f (take i xs) → r ≡ f (get_or xs i 0) → a + r ≡ sum_by f (take (i + 1) xs)
sum_more f xs i a r less was is =
    let more = ap (sum_by f) (take_more xs i 0 less) ∙ sum_by_push f (take i xs) (get_or xs i 0) in
    step a r (f (get_or xs i 0)) (sum_by f (take i xs)) (sum_by f (take (i + 1) xs)) was is more
  where
    step : (a r x s t : ℕ) → a ≡ s → r ≡ x → t ≡ s + x → a + r ≡ t
    step a r x s t e h k = omega (arith, e, h, k)

pub sum_all : (f : ℕ → ℕ) (xs : List ℕ) (i a : ℕ) → length xs ≤ i → a ≡ sum_by f (take i xs) → a ≡ sum_by f xs
sum_all f xs i a le e = e ∙ ap (sum_by f) (take_all i xs le)
