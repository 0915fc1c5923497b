-- Replies of an evaluator, step by step.
use Rattle.std.proofs.Common.{◌≡◌, refl, sym, ap, Bool, true, false, Result, Ok}
use Rattle.std.specs.Prelude.{IsTrue, ◌↔◌}
use Rattle.sqlval.specs.declared.truth.Truth.{Truth}
use Rattle.sqlval.specs.declared.truth.Truth.TheVariants.{False, Unknown, True}
use Rattle.sqlval.specs.Truth.{same_truth}
use Rattle.denote.specs.declared.fault.Stop.{Stop}
use Rattle.denote.specs.Evaluation.{Evaluation, ◌>>=◌}
use Rattle.denote.specs.Stop.{Gives}

true_is : (b : Bool) (t : Truth) → (IsTrue b ↔ (t ≡ True)) → b ≡ same_truth t True
true_is true False h = absurd (let e = h.0 refl in cc e)
true_is true Unknown h = absurd (let e = h.0 refl in cc e)
true_is true True h = refl
true_is false False h = refl
true_is false Unknown h = refl
true_is false True h = absurd (let e = h.1 refl in cc e)

-- what is made of a value
pub onwards : {A B : Type 0} (reply : Result B Stop) (v : A) (x : Evaluation A) (f : A → Evaluation B) → Gives (Ok v) x → Gives reply (f v) → Gives reply (x >>= f)
onwards reply v x f h g = let is : x ≡ Ok v = h.ok in rw is g

pub touched_if : (b : Bool) (t : Truth) (x : Evaluation Truth) → Gives (Ok t) x → (IsTrue b ↔ (t ≡ True)) → Gives (Ok b) (x >>= (λ t. Ok (same_truth t True)))
touched_if b t x h e = onwards (Ok b) t x (λ t. Ok (same_truth t True)) h (record { ok = ap Ok (sym (true_is b t e)); err = tt })
