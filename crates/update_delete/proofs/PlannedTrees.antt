-- What may stand for the trees of a change means what the change says, over a good database.
use Rattle.std.proofs.Common.{ℕ, List, [], ◌∷◌, map, Option, Some, None}
use Rattle.std.specs.Option.{option_map}
use Rattle.typing.specs.declared.statement.Assignment.{Assignment}
use Rattle.typing.specs.declared.typed.Condition as typed_condition
use Rattle.typing.specs.declared.typed.Expression as typed_expression
use Rattle.algebra.specs.declared.tree.Condition.{Condition}
use Rattle.algebra.specs.declared.tree.Expression.{Expression}
use Rattle.algebra.specs.declared.tree.StoredTable.{StoredTable}
use Rattle.algebra.specs.Translated.{tree_of_condition, tree_of_expression}
use Rattle.algebra.specs.TreeOutcome.{tree_truth, tree_value}
use Rattle.denote.specs.Meaning.{Tables, truth_at, value_of}
use Rattle.operator_laws.specs.Same.{Agree, Each, IfBoth}
use Rattle.rules.specs.Same.{KeepsCondition, KeepsExpression}
use Rattle.update_delete.specs.Statements.{MeansCondition, MeansSource}

module _ (described : List ℕ → StoredTable) (tables : Tables) where
  -- a condition and a source, as the law of these trees says over these tables
  abbrev pub ConditionsStand : Type 0
  ConditionsStand = (asked : typed_condition.Condition) (new : Condition) → KeepsCondition new (tree_of_condition described asked)
      → Agree (tree_truth tables new) (truth_at tables asked)

  abbrev pub ExpressionsStand : Type 0
  ExpressionsStand = (asked : typed_expression.Expression) (new : Expression) → KeepsExpression new (tree_of_expression described asked)
      → Agree (tree_value tables new) (value_of tables asked)

  pub filter-means : ConditionsStand → (asked : Option typed_condition.Condition) (new : Option Condition)
      → IfBoth KeepsCondition new (option_map (tree_of_condition described) asked) → IfBoth (MeansCondition tables) new asked
  filter-means stand None None keeps = tt
  filter-means stand None (Some tree) keeps = absurd keeps
  filter-means stand (Some c) None keeps = absurd keeps
  filter-means stand (Some c) (Some tree) keeps = stand c tree keeps

  pub sources-mean : ExpressionsStand → (assignments : List Assignment) (new : List Expression)
      → Each KeepsExpression new (map (λ (a : Assignment). tree_of_expression described a.source) assignments)
      → Each (MeansSource tables) new assignments
  sources-mean stand [] [] keeps = tt
  sources-mean stand [] (tree ∷ new) keeps = absurd keeps
  sources-mean stand (a ∷ assignments) [] keeps = absurd keeps
  sources-mean stand (a ∷ assignments) (tree ∷ new) keeps = (stand a.source tree keeps.0, sources-mean stand assignments new keeps.1)
