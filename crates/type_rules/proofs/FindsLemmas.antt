-- Replies put together.
use Rattle.std.proofs.Common.{◌≡◌, refl, ℕ, zero, suc, ◌+◌, ◌<◌, List, [], ◌∷◌, ◌++◌, map, length, ◌≤◌, get_or, drop, drop-cons, append_assoc, Result, Ok, Err, arith, ap, sym, ◌∙◌, add-one}
use Rattle.std.proofs.lemmas.List.{append-nil, drop_all}
use Rattle.std.proofs.lemmas.List.Elements.{Contains-append_left, Contains-append_right}
use Rattle.refusals.specs.declared.limit.Limit.{Limit}
use Rattle.refusals.specs.declared.reason.Reason.{Reason}
use Rattle.refusals.specs.declared.refusal.Refusal.{Refusal}
use Rattle.refusals.specs.declared.refusal.Refusal.TheVariants.{Invalid, NotSupported, ManyRows, TextTooLong, OutOfRange, DivisionByZero, Violated, CursorState, TransactionState, SerializationFailure, Memory, Disk, Exceeded, Damaged}
use Rattle.typing.specs.Finding.{Finding, reasons_in, ◌>>=◌, also, before, each, invalid, exceeded}
use Rattle.typing.specs.Finds.{Finds, IsReasonOf}

pub IsReasonOf-left : (r : Refusal) (xs ys : List Refusal) → IsReasonOf xs r → IsReasonOf (xs ++ ys) r
IsReasonOf-left Memory xs ys h = tt
IsReasonOf-left r xs ys h = Contains-append_left xs ys r h

pub IsReasonOf-right : (r : Refusal) (xs ys : List Refusal) → IsReasonOf ys r → IsReasonOf (xs ++ ys) r
IsReasonOf-right Memory xs ys h = tt
IsReasonOf-right r xs ys h = Contains-append_right xs ys r h

-- nothing but want of memory is a reason where there are none
IsReasonOf-none : (r : Refusal) (xs : List Refusal) → IsReasonOf [] r → IsReasonOf xs r
IsReasonOf-none r xs h = IsReasonOf-left r [] xs h

-- a refusal of a part is one of what follows from it
pub Finds-then_err : {A B : Type 0} (r : Refusal) (x : Finding A) (next : A → Finding B) → Finds (Err r) x → Finds (Err r) (x >>= next)
Finds-then_err {A = A} r x next h = record { ok = tt; err = at x h.err }
  where
    at : (x : Finding A) → IsReasonOf (reasons_in x) r → IsReasonOf (reasons_in (x >>= next)) r
    at (Ok v) g = IsReasonOf-none r (reasons_in (next v)) g
    at (Err reasons) g = g

-- and of two parts beside each other
pub Finds-also_first : {A B : Type 0} (r : Refusal) (x : Finding A) (y : Finding B) → Finds (Err r) x → Finds (Err r) (also x y)
Finds-also_first {A = A} {B = B} r x y h = record { ok = tt; err = at x y h.err }
  where
    at : (x : Finding A) (y : Finding B) → IsReasonOf (reasons_in x) r → IsReasonOf (reasons_in (also x y)) r
    at (Ok v) y g = IsReasonOf-none r (reasons_in (also (Ok v) y)) g
    at (Err reasons) y g = IsReasonOf-left r reasons (reasons_in y) g

pub Finds-also_second : {A B : Type 0} (r : Refusal) (x : Finding A) (y : Finding B) → Finds (Err r) y → Finds (Err r) (also x y)
Finds-also_second {A = A} {B = B} r x y h = record { ok = tt; err = at x y h.err }
  where
    at : (x : Finding A) (y : Finding B) → IsReasonOf (reasons_in y) r → IsReasonOf (reasons_in (also x y)) r
    at (Ok v) (Ok w) g = g
    at (Ok v) (Err reasons) g = g
    at (Err reasons) y g = IsReasonOf-right r reasons (reasons_in y) g

pub Finds-before_first : {A : Type 0} (r : Refusal) (x : Finding A) (xs : Finding (List A)) → Finds (Err r) x → Finds (Err r) (before x xs)
Finds-before_first {A = A} r x xs h = record { ok = tt; err = at x xs h.err }
  where
    at : (x : Finding A) (xs : Finding (List A)) → IsReasonOf (reasons_in x) r → IsReasonOf (reasons_in (before x xs)) r
    at (Ok v) xs g = IsReasonOf-none r (reasons_in (before (Ok v) xs)) g
    at (Err reasons) xs g = IsReasonOf-left r reasons (reasons_in xs) g

pub Finds-before_others : {A : Type 0} (r : Refusal) (x : Finding A) (xs : Finding (List A)) → Finds (Err r) xs → Finds (Err r) (before x xs)
Finds-before_others {A = A} r x xs h = record { ok = tt; err = at x xs h.err }
  where
    at : (x : Finding A) (xs : Finding (List A)) → IsReasonOf (reasons_in xs) r → IsReasonOf (reasons_in (before x xs)) r
    at (Ok v) (Ok vs) g = g
    at (Ok v) (Err reasons) g = g
    at (Err reasons) xs g = IsReasonOf-right r reasons (reasons_in xs) g

-- a refusal of one of many is one of all
pub Finds-each_item : {X A : Type 0} (r : Refusal) (f : X → Finding A) (items : List X) (i : ℕ) (item : X) →
    i < length items → item ≡ get_or items i item → Finds (Err r) (f item) → Finds (Err r) (each (map f items))
Finds-each_item r f [] i item below is h = absurd (omega arith)
Finds-each_item r f (x ∷ items) zero item below is h = Finds-before_first r (f x) (each (map f items)) (rw is at h)
Finds-each_item r f (x ∷ items) (suc i) item below is h =
    Finds-before_others r (f x) (each (map f items)) (Finds-each_item r f items i item (omega arith) is h)

-- what is found of each, after what is found of others
abbrev pub after : {A : Type 0} → List A → Finding (List A) → Finding (List A)
after found (Ok xs) = Ok (found ++ xs)
after found (Err reasons) = Err reasons

pub after-before : {A : Type 0} (found : List A) (x : Finding A) (y : A) (xs : Finding (List A)) → x ≡ Ok y →
    after found (before x xs) ≡ after (found ++ y ∷ []) xs
after-before found x y (Ok xs) e = rw e (ap Ok (sym (append_assoc found (y ∷ []) xs)))
after-before found x y (Err reasons) e = rw e refl

-- one more of many: what is found so far, and then what the rest gives
pub each-next : {X A : Type 0} (f : X → Finding A) (items : List X) (i : ℕ) (item : X) (found : List A) (y : A) →
    i < length items → item ≡ get_or items i item → f item ≡ Ok y →
    after (found ++ y ∷ []) (each (map f (drop (i + 1) items))) ≡ after found (each (map f (drop i items)))
each-next f items i item found y below is e =
    let split : drop i items ≡ item ∷ drop (suc i) items = drop-cons items i item below ∙ ap (λ x. x ∷ drop (suc i) items) (sym is) in
    rw (split, add-one) (sym (after-before found (f item) y (each (map f (drop (suc i) items))) e))

-- a refusal of what is left is one of the whole
pub after-refused : {A : Type 0} (r : Refusal) (found : List A) (rest whole : Finding (List A)) → after found rest ≡ whole → Finds {A = List A} (Err r) rest → Finds {A = List A} (Err r) whole
after-refused r found (Ok xs) whole e h = rw (sym e) (record { ok = tt; err = h.err })
after-refused r found (Err reasons) whole e h = rw (sym e) (record { ok = tt; err = h.err })

-- nothing is left
pub each-done : {X A : Type 0} (f : X → Finding A) (items : List X) (i : ℕ) (found : List A) →
    length items ≤ i → after found (each (map f (drop i items))) ≡ each (map f items) → each (map f items) ≡ Ok found
each-done f items i found past e =
    let none : drop i items ≡ [] = drop_all i items past in
    sym (rw none at e) ∙ ap Ok (append-nil found)

-- a refusal by a reason alone
pub Finds-invalid : {A : Type 0} (reason : Reason) → Finds {A = A} (Err (Invalid reason)) (invalid reason)
Finds-invalid reason = record { ok = tt; err = (0, omega arith, refl) }

pub Finds-exceeded : {A : Type 0} (limit : Limit) → Finds {A = A} (Err (Exceeded limit)) (exceeded limit)
Finds-exceeded limit = record { ok = tt; err = (0, omega arith, refl) }

-- memory may always be wanting
pub Finds-memory : {A : Type 0} (x : Finding A) → Finds {A = A} (Err Memory) x
Finds-memory x = record { ok = tt; err = tt }

pub each-finds : {X A : Type 0} (f : X → Finding A) (items : List X) (i : ℕ) (found : List A) →
    length items ≤ i → after found (each (map f (drop i items))) ≡ each (map f items) → Finds (Ok found) (each (map f items))
each-finds f items i found past e = record { ok = each-done f items i found past e; err = tt }

-- ---- parts taken with their refusals

pub Finds-ok : {A : Type 0} (x : A) → Finds {A = A} (Ok x) (Ok x)
Finds-ok x = record { ok = refl; err = tt }

-- a part is refused, and so is what follows from it
pub then-err : {A B : Type 0} (reply : Result A Refusal) (r : Refusal) (x : Finding A) (next : A → Finding B) → reply ≡ Err r → Finds reply x → Finds (Err r) (x >>= next)
then-err reply r x next e h = Finds-then_err r x next (rw e at h)

-- a part is found, and what follows from it
pub then-ok : {A B : Type 0} (reply : Result A Refusal) (v : A) (again : Result B Refusal) (x : Finding A) (next : A → Finding B) → reply ≡ Ok v → Finds reply x → Finds again (next v) → Finds again (x >>= next)
then-ok reply v again x next e h k = let found : x ≡ Ok v = (rw e at h).ok in rw found k

pub also-first : {A B : Type 0} (reply : Result A Refusal) (r : Refusal) (x : Finding A) (y : Finding B) → reply ≡ Err r → Finds reply x → Finds (Err r) (also x y)
also-first reply r x y e h = Finds-also_first r x y (rw e at h)

pub also-second : {A B : Type 0} (reply : Result B Refusal) (r : Refusal) (x : Finding A) (y : Finding B) → reply ≡ Err r → Finds reply y → Finds (Err r) (also x y)
also-second reply r x y e h = Finds-also_second r x y (rw e at h)

pub also-ok : {A B : Type 0} (first : Result A Refusal) (second : Result B Refusal) (v : A) (w : B) (x : Finding A) (y : Finding B) → first ≡ Ok v → second ≡ Ok w → Finds first x → Finds second y → Finds (Ok (v, w)) (also x y)
also-ok first second v w x y e f h k =
    let found : x ≡ Ok v = (rw e at h).ok in
    let other : y ≡ Ok w = (rw f at k).ok in
    record { ok = rw (found, other) refl; err = tt }

pub ruleset both_steps = (also-first, also-second, also-ok)

pub ruleset part_steps = (then-err, then-ok)
