-- A finding that another covers: it stands for the same, and each of its reasons is one of the
-- other's. Parts may so be put together in another order.
use Rattle.std.proofs.Common.{◌≡◌, List, [], ◌∷◌, ◌++◌, Result, Ok, Err, ◌⊎◌, inl, inr}
use Rattle.std.specs.Prelude.{IfOk}
use Rattle.std.proofs.lemmas.List.Elements.{Contains-append_cases}
use Rattle.refusals.specs.declared.refusal.Refusal.{Refusal}
use Rattle.refusals.specs.declared.refusal.Refusal.TheVariants.{Invalid, NotSupported, ManyRows, TextTooLong, OutOfRange, DivisionByZero, Violated, CursorState, TransactionState, SerializationFailure, Memory, Disk, Exceeded, Damaged}
use Rattle.typing.specs.Finding.{Finding, reasons_in, ◌>>=◌, also}
use Rattle.typing.specs.Finds.{Finds, IsReasonOf}

pub record Covers {A : Type 0} (x y : Finding A) : Type 0 where
  pub ok : IfOk x (λ v. y ≡ Ok v)
  pub err : (r : Refusal) → Finds (Err r) x → Finds (Err r) y

pub finds-covers : {A : Type 0} (reply : Result A Refusal) (x y : Finding A) → Covers x y → Finds reply x → Finds reply y
finds-covers (Ok v) x y c h = record { ok = found x c.ok h.ok; err = tt }
  where
    found : (x : Finding _) → IfOk x (λ w. y ≡ Ok w) → x ≡ Ok v → y ≡ Ok v
    found x g e = rw e at g
finds-covers (Err r) x y c h = c.err r h

IsReasonOf-cases : (r : Refusal) (xs ys : List Refusal) → IsReasonOf (xs ++ ys) r → IsReasonOf xs r ⊎ IsReasonOf ys r
IsReasonOf-cases Memory xs ys h = inl tt
IsReasonOf-cases r xs ys h = Contains-append_cases xs ys r h

-- a reason of two parts is one of the first or of the second
pub also-either : {A B : Type 0} (r : Refusal) (x : Finding A) (y : Finding B) → Finds (Err r) (also x y) → Finds {A = A} (Err r) x ⊎ Finds {A = B} (Err r) y
also-either r (Ok v) (Ok w) h = inl (record { ok = tt; err = h.err })
also-either r (Ok v) (Err reasons) h = inr (record { ok = tt; err = h.err })
also-either {A = A} {B = B} r (Err reasons) y h = elim (IsReasonOf-cases r reasons (reasons_in y) h.err) [ inl g ↦ inl (record { ok = tt; err = g }) | inr g ↦ inr (record { ok = tt; err = g }) ]

-- what always follows from a part has the reasons of the part
pub then-only : {A B : Type 0} (r : Refusal) (x : Finding A) (f : A → B) → Finds (Err r) (x >>= (λ v. Ok (f v))) → Finds {A = A} (Err r) x
then-only r (Ok v) f h = record { ok = tt; err = h.err }
then-only r (Err reasons) f h = record { ok = tt; err = h.err }
