-- When a refusal of the rules of names and types has its reasons. Our own.
use Rattle.std.specs.Prelude.{◌≡◌, ◌≢◌, Bool, true, false, List, [], IfErr}
use Rattle.std.specs.List.{list_all}
use Rattle.refusals.specs.declared.refusal.Refusal.{Refusal}
use Rattle.refusals.specs.declared.refusal.Refusal.TheVariants.{Invalid, Exceeded}
use Rattle.refusals.specs.declared.limit.Limit.TheVariants as counted
use Rattle.typing.specs.Finding.{Finding}

-- a fault of names or types, or a limit of what is written: no want of memory, no device, no limit
-- of what a store counts, no fault of evaluation, and no form that is not supported
abbrev pub is_reason : Refusal → Bool
is_reason (Invalid reason) = true
is_reason (Exceeded counted.Pages) = false
is_reason (Exceeded counted.Private) = false
is_reason (Exceeded counted.Kept) = false
is_reason (Exceeded limit) = true
is_reason other = false

-- at least one, and each is one
pub record AreReasons (reasons : List Refusal) : Type 0 where
  pub some : reasons ≢ []
  pub each : list_all is_reason reasons ≡ true

-- what stands for nothing has its reasons
pub record IsReasoned {A : Type 0} (found : Finding A) : Type 0 where
  pub err : IfErr found AreReasons
