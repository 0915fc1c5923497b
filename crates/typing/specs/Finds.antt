-- How a reply stands to what is found.
use Rattle.std.specs.Prelude.{◌≡◌, List, Result, Ok, IfOk, IfErr, Contains}
use Rattle.refusals.specs.declared.refusal.Refusal.{Refusal}
use Rattle.refusals.specs.declared.refusal.Refusal.TheVariants.{Memory}
use Rattle.typing.specs.Finding.{Finding, reasons_in}

-- a refusal names one of these reasons, unless memory was wanting
abbrev pub IsReasonOf : List Refusal → Refusal → Type 0
IsReasonOf reasons Memory = Unit {0}
IsReasonOf reasons refusal = Contains reasons refusal

-- what it stands for, or one of the reasons
pub record Finds {A : Type 0} (reply : Result A Refusal) (found : Finding A) : Type 0 where
  pub ok : IfOk reply (λ x. found ≡ Ok x)
  pub err : IfErr reply (IsReasonOf (reasons_in found))
