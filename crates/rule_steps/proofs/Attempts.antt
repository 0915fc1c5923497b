-- What is left of a node where a rule was tried.
use Rattle.std.proofs.Common.{◌≡◌, refl, sym, Bool, true, false, Option, Some, None}
use Rattle.std.proofs.lemmas.Bool.{false≢true}
use Rattle.std.specs.Prelude.{is_some}
use Rattle.rule_steps.specs.Attempted.{attempt}

-- where something is made, it is what is left
pub used-is : {X : Type 0} (found : Option X) (old : X) → is_some found ≡ true
    → (new : X) × (found ≡ Some new) × (attempt (Some new) new ≡ attempt found old)
used-is None old e = absurd (false≢true e)
used-is (Some new) old e = (new, refl, refl)

-- where nothing is, the old one
pub unused-is : {X : Type 0} (found : Option X) (old : X) → is_some found ≡ false → attempt None old ≡ attempt found old
unused-is None old e = refl
unused-is (Some new) old e = absurd (false≢true (sym e))
