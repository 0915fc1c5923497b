-- No meaning of a whole tree is a failure without a fault: by induction over the trees.
use Rattle.std.proofs.Common.{◌≡◌, sym, subst, pos, not, length, List, map, Ok}
use Rattle.sqlval.specs.declared.value.Value.TheVariants.{Int}
use Rattle.sqlval.specs.Like.{like_of}
use Rattle.sqlval.specs.Truth.{truth_not, truth_is, truth_of}
use Rattle.sqlval.specs.Value.{Row, is_null}
use Rattle.typing.specs.declared.typed.Arithmetic.{Arithmetic}
use Rattle.typing.specs.declared.typed.Arithmetic.TheVariants.{Subtract}
use Rattle.typing.specs.declared.typed.Condition.{Condition, Condition-F, roll-Condition, map-Condition, ind-Condition}
use Rattle.typing.specs.declared.typed.Expression.{Expression, Expression-F, roll-Expression, map-Expression, ind-Expression}
use Rattle.typing.specs.declared.typed.Query.{Query}
use Rattle.typing.specs.declared.typed.SetFunction.{SetFunction, SetFunction-F, roll-SetFunction, map-SetFunction, ind-SetFunction}
use Rattle.typing.specs.declared.typed.Source.{Source}
use Rattle.typing.specs.declared.typed.Grouping.{Grouping}
use Rattle.typing.specs.declared.typed.Item.{Item, Item-F, roll-Item, map-Item}
use Rattle.typing.specs.declared.typed.Select.{Select}
use Rattle.denote.specs.Evaluation.{Env, ◌>>=◌}
use Rattle.denote.specs.Outcome.{whole}
use Rattle.denote.specs.Expression.{ExpressionMeaning, negated}
use Rattle.denote.specs.Condition.{ConditionMeaning, among, first_column, is_empty}
use Rattle.denote.specs.Group.{SetFunctionMeaning}
use Rattle.denote.specs.Meaning.{Tables, condition_step, expression_step, set_function_step, value_of, truth_at, query_outcome, function_value, item_value}
use Rattle.denote_laws.specs.Law.{IsSound}
use Rattle.denote_laws.specs.Sound.{IsSoundMeaning}
use Rattle.operator_laws.proofs.Rolled.{Node, condition_meant, condition_rolled, expression_meant, expression_rolled, function_meant, function_rolled, item_rolled}
use Rattle.denote_laws.proofs.Soundness.{next-sound, in_range-sound, calculated-sound}
use Rattle.denote_laws.proofs.Sound.{Every-mapped, IsSoundOperand, chained-sound, concatenated-sound, scalar-sound, whole-sound, then-sound, conjunction-sound, disjunction-sound, compared-sound, between-sound, set_function-sound}

module _ (tables : Tables) where
  abbrev SoundCondition : Condition → Type 0
  SoundCondition c = IsSoundMeaning (truth_at tables c)

  abbrev SoundExpression : Expression → Type 0
  SoundExpression e = IsSoundMeaning (value_of tables e)

  abbrev SoundFunction : SetFunction → Type 0
  SoundFunction a = (env : Env) (rows : List Row) → IsSound (function_value tables a env rows)

  abbrev SoundItem : Item → Type 0
  SoundItem i = IsSoundMeaning (item_value tables i)

  -- a node whose parts are sound
  abbrev Parts : ((A B C D E F G H : Type 0) → Type 0) → Type 0
  Parts T =
      T ((c : Condition) × SoundCondition c) ((e : Expression) × SoundExpression e) ((q : Query) × Unit {0}) ((a : SetFunction) × SoundFunction a)
      ((s : Source) × Unit {0}) ((g : Grouping) × Unit {0}) ((i : Item) × SoundItem i) ((s : Select) × Unit {0})

  abbrev condition_of : Parts Condition-F → Node Condition-F
  condition_of y = map-Condition _ _ _ _ _ _ _ _ _ _ _ _ _ _ _ _ (λ p. p.0) (λ p. p.0) (λ p. p.0) (λ p. p.0) (λ p. p.0) (λ p. p.0) (λ p. p.0) (λ p. p.0) y

  abbrev expression_of : Parts Expression-F → Node Expression-F
  expression_of y = map-Expression _ _ _ _ _ _ _ _ _ _ _ _ _ _ _ _ (λ p. p.0) (λ p. p.0) (λ p. p.0) (λ p. p.0) (λ p. p.0) (λ p. p.0) (λ p. p.0) (λ p. p.0) y

  abbrev function_of : Parts SetFunction-F → Node SetFunction-F
  function_of y = map-SetFunction _ _ _ _ _ _ _ _ _ _ _ _ _ _ _ _ (λ p. p.0) (λ p. p.0) (λ p. p.0) (λ p. p.0) (λ p. p.0) (λ p. p.0) (λ p. p.0) (λ p. p.0) y

  abbrev item_of : Parts Item-F → Node Item-F
  item_of y = map-Item _ _ _ _ _ _ _ _ _ _ _ _ _ _ _ _ (λ p. p.0) (λ p. p.0) (λ p. p.0) (λ p. p.0) (λ p. p.0) (λ p. p.0) (λ p. p.0) (λ p. p.0) y

  condition_step-sound : (y : Parts Condition-F) (env : Env) → IsSound (condition_step (condition_meant tables (condition_of y)) env)
  condition_step-sound (Condition-F.Or operands) env =
      disjunction-sound (map (truth_at tables) (map (λ o. o.0) operands))
      (Every-mapped IsSoundMeaning (truth_at tables) (λ (o : (c : Condition) × SoundCondition c). o.0) operands (λ o. o.1)) env
  condition_step-sound (Condition-F.And operands) env =
      conjunction-sound (map (truth_at tables) (map (λ o. o.0) operands))
      (Every-mapped IsSoundMeaning (truth_at tables) (λ (o : (c : Condition) × SoundCondition c). o.0) operands (λ o. o.1)) env
  condition_step-sound (Condition-F.Not operand) env = then-sound (truth_at tables operand.0 env) truth_not (operand.1 env)
  condition_step-sound (Condition-F.IsTruth operand truth) env = then-sound (truth_at tables operand.0 env) (λ t. truth_is t truth) (operand.1 env)
  condition_step-sound (Condition-F.Compare op a b) env = compared-sound op (value_of tables a.0) (value_of tables b.0) a.1 b.1 env
  condition_step-sound (Condition-F.Between x low high) env = between-sound (value_of tables x.0) (value_of tables low.0)
      (value_of tables high.0) x.1 low.1 high.1 env
  condition_step-sound (Condition-F.InList operand values) env = then-sound (value_of tables operand.0 env) (λ x. among x values) (operand.1 env)
  condition_step-sound (Condition-F.InQuery operand query) env =
      next-sound (value_of tables operand.0 env) (λ x. whole (query_outcome tables query.0 env) >>= (λ rows. Ok (among x (first_column rows)))) (operand.1 env)
      (λ x. then-sound (whole (query_outcome tables query.0 env)) (λ rows. among x (first_column rows)) (whole-sound (query_outcome tables query.0 env)))
  condition_step-sound (Condition-F.Like operand pattern) env =
      next-sound (value_of tables operand.0 env) (λ x. value_of tables pattern.0 env >>= (λ y. Ok (like_of x y))) (operand.1 env)
      (λ x. then-sound (value_of tables pattern.0 env) (like_of x) (pattern.1 env))
  condition_step-sound (Condition-F.IsNull operand) env = then-sound (value_of tables operand.0 env) (λ x. truth_of (is_null x)) (operand.1 env)
  condition_step-sound (Condition-F.Exists query) env =
      then-sound (whole (query_outcome tables query.0 env)) (λ rows. truth_of (not (is_empty rows))) (whole-sound (query_outcome tables query.0 env))

  expression_step-sound : (y : Parts Expression-F) (env : Env) → IsSound (expression_step (expression_meant tables (expression_of y)) env)
  expression_step-sound (Expression-F.Constant x) env = tt
  expression_step-sound (Expression-F.Column depth place) env = tt
  expression_step-sound (Expression-F.Calculation first others) env =
      chained-sound (value_of tables first.0 env) (map (λ o. (o.0, value_of tables o.1)) (map (λ o. (o.0, o.1.0)) others)) env (first.1 env)
      (Every-mapped IsSoundOperand (λ (o : Arithmetic × Expression). (o.0, value_of tables o.1))
      (λ (o : Arithmetic × ((e : Expression) × SoundExpression e)). (o.0, o.1.0)) others (λ o. o.1.1))
  expression_step-sound (Expression-F.Concatenation first others) env =
      concatenated-sound (value_of tables first.0 env) (map (value_of tables) (map (λ o. o.0) others)) env (first.1 env)
      (Every-mapped IsSoundMeaning (value_of tables) (λ (o : (e : Expression) × SoundExpression e). o.0) others (λ o. o.1))
  expression_step-sound (Expression-F.Negation operand) env = next-sound (value_of tables operand.0 env) negated (operand.1 env)
      (λ v. calculated-sound Subtract (Int (pos 0)) v)
  expression_step-sound (Expression-F.Scalar query) env = scalar-sound (query_outcome tables query.0 env)

  function_step-sound : (y : Parts SetFunction-F) (env : Env) (rows : List Row) → IsSound (set_function_step (function_meant tables (function_of y)) env rows)
  function_step-sound SetFunction-F.CountRows env rows = in_range-sound (pos (length rows))
  function_step-sound (SetFunction-F.Over function is_distinct argument) env rows = set_function-sound function is_distinct
      (value_of tables argument.0) env rows argument.1

  condition_node : (x : Node Condition-F) (y : Parts Condition-F) → condition_of y ≡ x → SoundCondition (roll-Condition x)
  condition_node x y is env =
      subst (λ (z : Node Condition-F). IsSound (truth_at tables (roll-Condition z) env)) is
      (subst (λ (f : ConditionMeaning). IsSound (f env)) (sym (condition_rolled tables (condition_of y))) (condition_step-sound y env))

  expression_node : (x : Node Expression-F) (y : Parts Expression-F) → expression_of y ≡ x → SoundExpression (roll-Expression x)
  expression_node x y is env =
      subst (λ (z : Node Expression-F). IsSound (value_of tables (roll-Expression z) env)) is
      (subst (λ (f : ExpressionMeaning). IsSound (f env)) (sym (expression_rolled tables (expression_of y))) (expression_step-sound y env))

  function_node : (x : Node SetFunction-F) (y : Parts SetFunction-F) → function_of y ≡ x → SoundFunction (roll-SetFunction x)
  function_node x y is env rows =
      subst (λ (z : Node SetFunction-F). IsSound (function_value tables (roll-SetFunction z) env rows)) is
      (subst (λ (f : SetFunctionMeaning). IsSound (f env rows)) (sym (function_rolled tables (function_of y))) (function_step-sound y env rows))

  item_node : (x : Node Item-F) (y : Parts Item-F) → item_of y ≡ x → SoundItem (roll-Item x)
  item_node x y is env =
      subst (λ (z : Node Item-F). IsSound (item_value tables (roll-Item z) env)) is
      (subst (λ (f : ExpressionMeaning). IsSound (f env)) (sym (item_rolled tables (item_of y))) (y.expression.1 env))

  pub value-sound : (e : Expression) → SoundExpression e
  value-sound = ind-Expression SoundCondition SoundExpression (λ q. Unit {0}) SoundFunction (λ s. Unit {0}) (λ g. Unit {0}) SoundItem (λ s. Unit {0})
      condition_node expression_node (λ x y is. tt) function_node (λ x y is. tt) (λ x y is. tt) item_node (λ x y is. tt)

  pub truth-sound : (e : Condition) → SoundCondition e
  truth-sound = ind-Condition SoundCondition SoundExpression (λ q. Unit {0}) SoundFunction (λ s. Unit {0}) (λ g. Unit {0}) SoundItem (λ s. Unit {0})
      condition_node expression_node (λ x y is. tt) function_node (λ x y is. tt) (λ x y is. tt) item_node (λ x y is. tt)

  pub function-sound : (e : SetFunction) → SoundFunction e
  function-sound = ind-SetFunction SoundCondition SoundExpression (λ q. Unit {0}) SoundFunction (λ s. Unit {0}) (λ g. Unit {0}) SoundItem (λ s. Unit {0})
      condition_node expression_node (λ x y is. tt) function_node (λ x y is. tt) (λ x y is. tt) item_node (λ x y is. tt)
