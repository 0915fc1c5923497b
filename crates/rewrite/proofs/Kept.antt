-- What is made of a tree, if something is.
use Rattle.std.proofs.Common.{◌≡◌, sym, Option, Some, None, Result, Ok, Err}
use Rattle.std.specs.Prelude.{IfOk, IfSome}

pub made-keeps : {X E : Type 0} (P : X → Type 0) (result : Result (Option X) E) (found : Option X)
    → IfOk result (λ f. f ≡ found) → ((new : X) → found ≡ Some new → P new) → IfOk result (λ f. IfSome f P)
made-keeps P (Ok None) found e h = tt
made-keeps P (Ok (Some x)) found e h = h x (sym e)
made-keeps P (Err error) found e h = tt
