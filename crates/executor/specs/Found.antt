-- Values that are looked at where they stand, and what is told of values that were found: each part
-- as it came, a value or its faults.
use Rattle.std.specs.Prelude.{◌≡◌, List, Result, Ok, IfOk, IfErr}
use Rattle.sqlval.specs.declared.comparison.CompOp.{CompOp}
use Rattle.sqlval.specs.declared.truth.Truth.{Truth}
use Rattle.sqlval.specs.declared.value.Value.{Value}
use Rattle.sqlval.specs.Comparison.{comparison}
use Rattle.sqlval.specs.Like.{like_of}
use Rattle.sqlval.specs.Truth.{truth_is, truth_not, truth_of}
use Rattle.sqlval.specs.Value.{is_null}
use Rattle.denote.specs.declared.fault.Stop.{Stop}
use Rattle.denote.specs.Condition.{among, both}
use Rattle.denote.specs.Evaluation.{Evaluation, ◌>>=◌, faults_in}
use Rattle.executor.specs.declared.found.Found.{Found}
use Rattle.executor.specs.declared.found.Found.TheVariants.{Lent, Made}
use Rattle.executor.specs.Reply.{IsFirstOf}

-- the value, wherever it stands
abbrev pub value_of : Found → Value
value_of (Lent value) = value.now
value_of (Made value) = value

-- a value that is looked at, or the first fault
pub record GivesFound (reply : Result Found Stop) (meant : Evaluation Value) : Type 0 where
  pub ok : IfOk reply (λ found. meant ≡ Ok (value_of found))
  pub err : IfErr reply (IsFirstOf (faults_in meant))

-- a comparison (ISO/IEC 9075:1992, 8.2)
abbrev pub compared_after : CompOp → Evaluation Value → Evaluation Value → Evaluation Truth
compared_after op x y = x >>= (λ v. y >>= (λ w. Ok (comparison op v w)))

-- LIKE (8.5)
abbrev pub like_after : Evaluation Value → Evaluation Value → Evaluation Truth
like_after x y = x >>= (λ v. y >>= (λ w. Ok (like_of v w)))

-- IN a list that is written out (8.4)
abbrev pub in_list_after : Evaluation Value → List Value → Evaluation Truth
in_list_after x values = x >>= (λ v. Ok (among v values))

-- IS NULL (8.6)
abbrev pub null_after : Evaluation Value → Evaluation Truth
null_after x = x >>= (λ v. Ok (truth_of (is_null v)))

-- NOT, and IS (8.12)
abbrev pub not_after : Evaluation Truth → Evaluation Truth
not_after t = t >>= (λ t. Ok (truth_not t))

abbrev pub asked_after : Evaluation Truth → Truth → Evaluation Truth
asked_after t asked = t >>= (λ t. Ok (truth_is t asked))

-- an AND of two, the second of which is not evaluated where the first is false
abbrev pub both_after : Evaluation Truth → Evaluation Truth → Evaluation Truth
both_after first second = first >>= (λ t. both t second)
