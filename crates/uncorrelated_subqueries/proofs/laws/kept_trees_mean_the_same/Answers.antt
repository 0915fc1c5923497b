use Rattle.uncorrelated_subqueries.proofs.Same.{trees-same, conditions-same, expressions-same}
use Rattle.uncorrelated_subqueries.proofs.laws.kept_trees_mean_the_same.Goals as goal

pub returns : goal.returns
returns c = record { trees = λ tables tree. trees-same tables tree; conditions = λ tables condition. conditions-same tables condition; expressions = λ tables expression. expressions-same tables expression }
