-- What a loop has gathered, and what is still to come.
use Rattle.std.proofs.Common.{List, ◌++◌}
use Rattle.std.specs.Prelude.{Ok, Err}
use Rattle.denote.specs.Evaluation.{Evaluation}

-- these, and then what is still to come
abbrev pub before_all : {A : Type 0} → List A → Evaluation (List A) → Evaluation (List A)
before_all xs (Ok ys) = Ok (xs ++ ys)
before_all xs (Err faults) = Err faults
