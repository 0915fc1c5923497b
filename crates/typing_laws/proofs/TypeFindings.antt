-- What is put together of findings with reasons has its reasons.
use Rattle.std.proofs.Common.{◌≡◌, ◌≢◌, refl, Bool, true, false, List, [], ◌∷◌, ◌++◌, map, Ok, Err, Option, Some, None, arith, ap, length}
use Rattle.std.specs.Prelude.{ℕ, if◌then◌else◌, nat_le}
use Rattle.std.specs.List.{list_all, AllByRecursion}
use Rattle.std.proofs.lemmas.List.Folds.{list_all-append}
use Rattle.refusals.specs.declared.reason.Reason.{Reason}
use Rattle.refusals.specs.declared.limit.Limit.{Limit}
use Rattle.refusals.specs.declared.refusal.Refusal.{Refusal}
use Rattle.refusals.specs.declared.refusal.Refusal.TheVariants.{Exceeded}
use Rattle.typing.specs.Finding.{Finding, reasons_in, ◌>>=◌, also, before, each, invalid, exceeded, misplaced}
use Rattle.typing.specs.Table.{as_found, at_most, distinct_found, are_distinct, is_new}
use Rattle.typing_laws.specs.Reasons.{is_reason, AreReasons, IsReasoned}

-- ---- one reason

pub found : {A : Type 0} {x : A} → IsReasoned (Ok x)
found = record { err = tt }

cons_nil : {X : Type 0} (x : X) (xs : List X) → (x ∷ xs) ≢ []
cons_nil x xs e = absurd (omega (arith, ap length e))

pub faulty : {A : Type 0} {reason : Reason} → IsReasoned {A = A} (invalid reason)
faulty = record { err = record { some = cons_nil _ _; each = refl } }

pub limited : {A : Type 0} (limit : Limit) → is_reason (Exceeded limit) ≡ true → IsReasoned {A = A} (exceeded limit)
limited limit written = record { err = record { some = cons_nil _ _; each = rw written refl } }

-- ---- lists of reasons

append_some : (xs ys : List Refusal) → xs ≢ [] → (xs ++ ys) ≢ []
append_some [] ys h = absurd (h refl)
append_some (x ∷ xs) ys h = cons_nil x (xs ++ ys)

both_reasons : (xs ys : List Refusal) → list_all is_reason xs ≡ true → list_all is_reason ys ≡ true → list_all is_reason (xs ++ ys) ≡ true
both_reasons xs ys h k = rw (list_all-append is_reason xs ys, h, k) refl

each_in : {A : Type 0} (x : Finding A) → IsReasoned x → list_all is_reason (reasons_in x) ≡ true
each_in (Ok a) h = refl
each_in (Err reasons) h = h.err.each

pub more : {A : Type 0} {reasons : List Refusal} (y : Finding A) → AreReasons reasons → IsReasoned y → AreReasons (reasons ++ reasons_in y)
more {reasons = reasons} y h k = record { some = append_some reasons (reasons_in y) h.some; each = both_reasons reasons (reasons_in y) h.each (each_in y k) }

-- ---- findings put together

pub goes_on : {A B : Type 0} {x : Finding A} {next : A → Finding B} → IsReasoned x → ((a : A) → IsReasoned (next a)) → IsReasoned (x >>= next)
goes_on {x = Ok a} h k = k a
goes_on {x = Err reasons} h k = record { err = h.err }

pub beside : {A B : Type 0} {x : Finding A} {y : Finding B} → IsReasoned x → IsReasoned y → IsReasoned (also x y)
beside {x = Ok a} {y = Ok b} h k = found
beside {x = Ok a} {y = Err reasons} h k = record { err = k.err }
beside {x = Err reasons} {y = y} h k = record { err = more y h.err k }

pub ahead : {A : Type 0} {x : Finding A} {xs : Finding (List A)} → IsReasoned x → IsReasoned xs → IsReasoned (before x xs)
ahead {x = Ok a} {xs = Ok as'} h k = found
ahead {x = Ok a} {xs = Err reasons} h k = record { err = k.err }
ahead {x = Err reasons} {xs = xs} h k = record { err = more xs h.err k }

pub all : {A : Type 0} (xs : List (Finding A)) → AllByRecursion IsReasoned xs → IsReasoned (each xs)
all [] h = found
all (x ∷ xs) h = ahead h.0 (all xs h.1)

-- what a function finds of each of these
pub mapped : {X A : Type 0} (P : X → Type 0) (f : X → Finding A) → ((x : X) → P x → IsReasoned (f x)) → (xs : List X) → AllByRecursion P xs → IsReasoned (each (map f xs))
mapped P f good [] h = found
mapped P f good (x ∷ xs) h = ahead (good x h.0) (mapped P f good xs h.1)

pub mapped_any : {X A : Type 0} (f : X → Finding A) → ((x : X) → IsReasoned (f x)) → (xs : List X) → IsReasoned (each (map f xs))
mapped_any f good [] = found
mapped_any f good (x ∷ xs) = ahead (good x) (mapped_any f good xs)

-- out of place, whatever it is
pub displaced : {A B : Type 0} {reason : Reason} {x : Finding A} → IsReasoned x → IsReasoned {A = B} (misplaced reason x)
displaced {x = Ok a} h = record { err = record { some = cons_nil _ _; each = refl } }
displaced {x = Err reasons} h = record { err = record { some = cons_nil _ _; each = h.err.each } }

pub either : {A : Type 0} (test : Bool) {x y : Finding A} → IsReasoned x → IsReasoned y → IsReasoned (if test then x else y)
either true h k = h
either false h k = k

-- ---- names and counts

pub counted : (most : ℕ) (limit : Limit) → is_reason (Exceeded limit) ≡ true → (count : ℕ) → IsReasoned (at_most most limit count)
counted most limit written count = either (nat_le count most) found (limited limit written)

pub distinct : (names : List (List ℕ)) → IsReasoned (distinct_found names)
distinct names = either (are_distinct names) found faulty

pub there : {A : Type 0} (x : Option A) → IsReasoned (as_found x)
there (Some x) = found
there None = faulty

pub new : (is_there : Bool) → IsReasoned (is_new is_there)
new is_there = either is_there faulty found
