-- What a part of a statement is found to be: what it stands for where nothing is wrong with it, and
-- else what is wrong. Where several things are wrong, each that is found is a reason; which one is
-- shown is left open. What depends on a part that is wrong is not looked at (`>>=`), and parts
-- beside each other all are (`also`, `each`). All of this is our own choice.
use Rattle.std.specs.Prelude.{List, [], ◌∷◌, ◌++◌, Result, Ok, Err}
use Rattle.refusals.specs.declared.reason.Reason.{Reason}
use Rattle.refusals.specs.declared.limit.Limit.{Limit}
use Rattle.refusals.specs.declared.refusal.Refusal.{Refusal}
use Rattle.refusals.specs.declared.refusal.Refusal.TheVariants.{Invalid, Exceeded}

-- what it stands for, or at least one reason
abbrev pub Finding : Type 0 → Type 0
Finding A = Result A (List Refusal)

abbrev pub reasons_in : {A : Type 0} → Finding A → List Refusal
reasons_in (Ok x) = []
reasons_in (Err reasons) = reasons

-- one reason alone: a fault of names or types, or a limit
abbrev pub invalid : {A : Type 0} → Reason → Finding A
invalid reason = Err (Invalid reason ∷ [])

abbrev pub exceeded : {A : Type 0} → Limit → Finding A
exceeded limit = Err (Exceeded limit ∷ [])

infixl 1 ◌>>=◌
-- what follows from a part; nothing does where something is wrong with it
abbrev pub ◌>>=◌ : {A B : Type 0} → Finding A → (A → Finding B) → Finding B
Ok x >>= next = next x
Err reasons >>= next = Err reasons

-- two parts beside each other, with the reasons of both
abbrev pub also : {A B : Type 0} → Finding A → Finding B → Finding (A × B)
also (Ok x) (Ok y) = Ok (x, y)
also (Ok x) (Err reasons) = Err reasons
also (Err reasons) y = Err (reasons ++ reasons_in y)

-- a part before others
abbrev pub before : {A : Type 0} → Finding A → Finding (List A) → Finding (List A)
before (Ok x) (Ok xs) = Ok (x ∷ xs)
before (Ok x) (Err reasons) = Err reasons
before (Err reasons) others = Err (reasons ++ reasons_in others)

-- all of these, with the reasons of every one
abbrev pub each : {A : Type 0} → List (Finding A) → Finding (List A)
each [] = Ok []
each (x ∷ xs) = before x (each xs)

-- a part that is wrong as a whole, as where it may not stand: that is a reason, and so is all that
-- is wrong inside it
abbrev pub misplaced : {A B : Type 0} → Reason → Finding A → Finding B
misplaced reason part = Err (Invalid reason ∷ reasons_in part)
