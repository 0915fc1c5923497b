-- A table that is named, and what follows from it.
use Rattle.std.proofs.Common.{◌≡◌, Result, Ok, Err}
use Rattle.refusals.specs.declared.refusal.Refusal.{Refusal}
use Rattle.typing.specs.Finding.{Finding, reasons_in, ◌>>=◌}
use Rattle.typing.specs.Finds.{Finds, IsReasonOf}
use Rattle.type_rules.proofs.FindsLemmas.{Finds-then_err}

-- a reason why it is not found
pub table-refused : {A B : Type 0} (r : Refusal) (x : Finding A) (next : A → Finding B) → IsReasonOf (reasons_in x) r → Finds (Err r) (x >>= next)
table-refused r x next h = Finds-then_err r x next (record { ok = tt; err = h })

-- it is found
pub table-found : {A B : Type 0} (reply : Result B Refusal) (x : Finding A) (v : A) (next : A → Finding B) → x ≡ Ok v → Finds reply (next v) → Finds reply (x >>= next)
table-found reply x v next e h = rw e h
