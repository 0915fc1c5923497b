-- What was said where a store was not opened or closed.
use Rattle.std.proofs.Common.{Bool, true, List, ℕ, Option, sym, subst}
use Rattle.refusals.specs.declared.refusal.Refusal.{Refusal}
use Rattle.endings.specs.Ended.{TellsBehind}
use Rattle.endings.specs.Tells.{Tells}

-- nothing had to be said before
pub told_alone : (is_told : Bool) (refusal : Refusal) (held holds : Option (List ℕ)) → TellsBehind true is_told refusal held holds → Tells refusal is_told held holds
told_alone is_told refusal held holds h = subst (λ (b : Bool). Tells refusal b held holds) (sym h.both) h.tells
