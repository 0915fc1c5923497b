-- What may not stand in the argument of a set function.
use Rattle.std.proofs.Common.{refl, arith, Option, Err}
use Rattle.refusals.specs.declared.reason.Reason.TheVariants.{Grouping}
use Rattle.refusals.specs.declared.refusal.Refusal.TheVariants.{Invalid}
use Rattle.ast.specs.declared.operator.Quantifier.{Quantifier}
use Rattle.ast.specs.declared.operator.SetFunction.{SetFunction}
use Rattle.ast.specs.declared.operator.Sign.{Sign}
use Rattle.ast.specs.declared.tree.Expression.{Expression}
use Rattle.ast.specs.declared.tree.Primary.TheVariants as p
use Rattle.ast.specs.declared.tree.Query.{Query}
use Rattle.typing.specs.declared.scope.TypedExpression.{TypedExpression}
use Rattle.typing.specs.Finds.{Finds}
use Rattle.typing.specs.Known.{Known}
use Rattle.typing.specs.Scope.{Scope}
use Rattle.typing.specs.Typing.{primary_part}
use Rattle.query_types.specs.Parts.{argument_view}
use Rattle.query_types.proofs.Nodes.{primary_count_rows, primary_aggregate, primary_subquery}

-- the reason stands first
module _ (k : Known) (scope : Scope) (sign : Option Sign) where
  pub rows_misplaced : Finds {A = TypedExpression} (Err (Invalid Grouping)) ((primary_part k p.CountRows sign).found (argument_view scope))
  rows_misplaced = rw (primary_count_rows k (argument_view scope) sign) (record { ok = tt; err = (0, omega arith, refl) })

  pub aggregate_misplaced : (function : SetFunction) (quantifier : Option Quantifier) (x : Expression) →
      Finds {A = TypedExpression} (Err (Invalid Grouping)) ((primary_part k (p.Aggregate function quantifier x) sign).found (argument_view scope))
  aggregate_misplaced function quantifier x = rw (primary_aggregate k (argument_view scope) sign function quantifier x) (record { ok = tt; err = (0, omega arith, refl) })

  pub query_misplaced : (query : Query) → Finds {A = TypedExpression} (Err (Invalid Grouping)) ((primary_part k (p.Subquery query) sign).found (argument_view scope))
  query_misplaced query = rw (primary_subquery k (argument_view scope) sign query) (record { ok = tt; err = (0, omega arith, refl) })
