-- Words that the laws of operators use.
use Rattle.std.specs.Prelude.{Bool, true, false, List, [], ◌∷◌, Ok, Err}
use Rattle.sqlval.specs.declared.truth.Truth.{Truth}
use Rattle.sqlval.specs.declared.truth.Truth.TheVariants.{False, Unknown, True}
use Rattle.sqlval.specs.Value.{Row}
use Rattle.denote.specs.Evaluation.{Env, Evaluation}
use Rattle.denote.specs.Outcome.{Outcome}
use Rattle.denote.specs.Condition.{ConditionMeaning}
use Rattle.denote.specs.Bag.{Permutes, IsSame}

abbrev pub is_true : Evaluation Truth → Bool
is_true (Ok False) = false
is_true (Ok Unknown) = false
is_true (Ok True) = true
is_true (Err faults) = false

-- whether a condition is true at a row
abbrev pub is_true_at : ConditionMeaning → Env → Row → Bool
is_true_at condition env row = is_true (condition (row ∷ env))

-- what is made of rows does not depend on their order
abbrev pub IsOrderless : (List Row → Outcome) → Type 0
IsOrderless made = (xs ys : List Row) → Permutes xs ys → IsSame (made xs) (made ys)
