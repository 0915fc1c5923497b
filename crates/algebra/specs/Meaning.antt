-- What expressions, conditions and trees mean, whatever it is that trees give: a step for each kind
-- of node, in which each part stands as what it means, and the folds of these steps. The step of
-- trees is a parameter: one gives outcomes, another listings.
use Rattle.std.specs.Prelude.{Bool, Ok}
use Rattle.sqlval.specs.Truth.{truth_not, truth_is, truth_of}
use Rattle.sqlval.specs.Like.{like_of}
use Rattle.sqlval.specs.Value.{is_null}
use Rattle.typing.specs.declared.typed.SetFunctionType.{SetFunctionType}
use Rattle.algebra.specs.declared.tree.Expression.{Expression, Expression-F, fold-Expression}
use Rattle.algebra.specs.declared.tree.Condition.{Condition, Condition-F, fold-Condition}
use Rattle.algebra.specs.declared.tree.SetFunction.{SetFunction, SetFunction-F, fold-SetFunction}
use Rattle.algebra.specs.declared.tree.Tree.{Tree, Tree-F, fold-Tree}
use Rattle.denote.specs.Evaluation.{Env, ◌>>=◌}
use Rattle.denote.specs.Outcome.{Outcome, whole}
use Rattle.denote.specs.Expression.{ExpressionMeaning, column, chained, concatenation, negated, scalar}
use Rattle.denote.specs.Condition.{ConditionMeaning, conjunction, disjunction, compared, between, among, first_column, exists}
use Rattle.denote.specs.Group.{SetFunctionMeaning, count_of_rows, set_function}

-- what a tree gives, in the rows that stand outside it: its outcome, or its listing
abbrev pub TreeMeaning : Type 0
TreeMeaning = Env → Outcome

-- a set function whose argument stands as what it means
pub data MeantFunction : Type 0 where
  Rows : MeantFunction
  Argument : SetFunctionType → Bool → ExpressionMeaning → MeantFunction

-- its value over the rows of a group
abbrev pub function_of : MeantFunction → SetFunctionMeaning
function_of Rows = count_of_rows
function_of (Argument function is_distinct argument) = set_function function is_distinct argument

-- a node whose parts stand as what they mean
abbrev pub Layer : ((A B C D : Type 0) → Type 0) → Type 0
Layer T = T ConditionMeaning ExpressionMeaning MeantFunction TreeMeaning

-- as of typed expressions
abbrev pub expression_step : Layer Expression-F → ExpressionMeaning
expression_step (Expression-F.Constant x) env = Ok x
expression_step (Expression-F.Column depth place) env = Ok (column env depth place)
expression_step (Expression-F.Calculation first others) env = chained (first env) others env
expression_step (Expression-F.Concatenation first others) env = concatenation (first env) others env
expression_step (Expression-F.Negation operand) env = operand env >>= negated
expression_step (Expression-F.Scalar tree) env = scalar (tree env)

-- as of typed conditions
abbrev pub condition_step : Layer Condition-F → ConditionMeaning
condition_step (Condition-F.Or operands) env = disjunction operands env
condition_step (Condition-F.And operands) env = conjunction operands env
condition_step (Condition-F.Not operand) env = operand env >>= (λ t. Ok (truth_not t))
condition_step (Condition-F.IsTruth operand truth) env = operand env >>= (λ t. Ok (truth_is t truth))
condition_step (Condition-F.Compare op a b) env = compared op a b env
condition_step (Condition-F.Between operand low high) env = between operand low high env
condition_step (Condition-F.InList operand values) env = operand env >>= (λ x. Ok (among x values))
condition_step (Condition-F.InQuery operand tree) env = do
  x ← operand env
  rows ← whole (tree env)
  Ok (among x (first_column rows))
condition_step (Condition-F.Like operand pattern) env = do
  x ← operand env
  y ← pattern env
  Ok (like_of x y)
condition_step (Condition-F.IsNull operand) env = operand env >>= (λ x. Ok (truth_of (is_null x)))
condition_step (Condition-F.Exists tree) env = exists (tree env)

abbrev pub function_step : Layer SetFunction-F → MeantFunction
function_step SetFunction-F.CountRows = Rows
function_step (SetFunction-F.Over function is_distinct argument) = Argument function is_distinct argument

-- the folds, by what the nodes of trees give
module _ (tree_step : Layer Tree-F → TreeMeaning) where
  unfoldable pub value_by : Expression → ExpressionMeaning
  value_by = fold-Expression _ _ _ _ condition_step expression_step function_step tree_step

  unfoldable pub truth_by : Condition → ConditionMeaning
  truth_by = fold-Condition _ _ _ _ condition_step expression_step function_step tree_step

  unfoldable pub function_by : SetFunction → MeantFunction
  function_by = fold-SetFunction _ _ _ _ condition_step expression_step function_step tree_step

  unfoldable pub tree_by : Tree → TreeMeaning
  tree_by = fold-Tree _ _ _ _ condition_step expression_step function_step tree_step
