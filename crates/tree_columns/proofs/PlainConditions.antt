-- A condition that may name all columns is one that is plain.
use Rattle.std.proofs.Common.{◌≡◌, refl, ap, Bool}
use Rattle.algebra.specs.Raising.{Test, condition_plain, expression_plain, function_plain, tree_plain, is_plain, is_plain_expression, is_plain_function, is_plain_tree}
use Rattle.algebra.specs.declared.tree.Condition.{Condition, fold-Condition}
use Rattle.algebra.specs.declared.tree.Expression.{Expression-F}
use Rattle.rules.specs.Columns.{expression_names, expression_names_only, names_only}
use Rattle.tree_columns.specs.Within.{anywhere}

step-anywhere : (d : Test Expression-F) → expression_names anywhere d ≡ expression_plain d
step-anywhere (Expression-F.Constant x) = refl
step-anywhere (Expression-F.Column depth place) = refl
step-anywhere (Expression-F.Calculation first others) = refl
step-anywhere (Expression-F.Concatenation first others) = refl
step-anywhere (Expression-F.Negation operand) = refl
step-anywhere (Expression-F.Scalar tree) = refl

pub plain_anywhere : (condition : Condition) → names_only anywhere condition ≡ is_plain condition
unfolding names_only expression_names_only is_plain is_plain_expression is_plain_function is_plain_tree
plain_anywhere condition = ap (λ (step : Test Expression-F → Bool).
    fold-Condition _ _ _ _ condition_plain step function_plain tree_plain condition) (λ i d. step-anywhere d i)
