-- What expressions, conditions and queries of a text stand for: a step for each kind of node, in
-- which each part stands as what it is found to be, and the fold of these steps.
use Rattle.std.specs.Prelude.{◌∷◌, map, Option, Some, None, Ok}
use Rattle.typing.specs.Known.{Known}
use Rattle.sqlval.specs.declared.value.Value.TheVariants as value
use Rattle.ast.specs.declared.operator.Sign.{Sign}
use Rattle.ast.specs.declared.tree.Join.{Join, Join-F, fold-Join}
use Rattle.ast.specs.declared.tree.Operand.{Operand, Operand-F, fold-Operand}
use Rattle.ast.specs.declared.tree.Predicate.{Predicate, Predicate-F, fold-Predicate}
use Rattle.ast.specs.declared.tree.Primary.{Primary, Primary-F, fold-Primary}
use Rattle.ast.specs.declared.tree.TableSource.{TableSource, TableSource-F, fold-TableSource}
use Rattle.ast.specs.declared.tree.Addend.{Addend, Addend-F, fold-Addend}
use Rattle.ast.specs.declared.tree.Condition.{Condition, Condition-F, fold-Condition}
use Rattle.ast.specs.declared.tree.Conjunction.{Conjunction, Conjunction-F, fold-Conjunction}
use Rattle.ast.specs.declared.tree.Expression.{Expression, Expression-F, fold-Expression}
use Rattle.ast.specs.declared.tree.Factor.{Factor, Factor-F, fold-Factor}
use Rattle.ast.specs.declared.tree.Negation.{Negation, Negation-F, fold-Negation}
use Rattle.ast.specs.declared.tree.Query.{Query, Query-F, fold-Query}
use Rattle.ast.specs.declared.tree.Select.{Select, Select-F, fold-Select}
use Rattle.ast.specs.declared.tree.SelectItem.{SelectItem, SelectItem-F, fold-SelectItem}
use Rattle.ast.specs.declared.tree.TableReference.{TableReference, TableReference-F, fold-TableReference}
use Rattle.ast.specs.declared.tree.Term.{Term, Term-F, fold-Term}
use Rattle.ast.specs.declared.tree.Test.{Test, Test-F, fold-Test}
use Rattle.typing.specs.declared.typed.Condition.{Condition as Typed}
use Rattle.typing.specs.declared.typed.Expression.TheVariants as expression
use Rattle.typing.specs.declared.scope.TypedExpression.{TypedExpression}
use Rattle.typing.specs.declared.scope.TypedQuery.{TypedQuery}
use Rattle.typing.specs.Finding.{Finding, ◌>>=◌}
use Rattle.typing.specs.Scope.{Scope}
use Rattle.typing.specs.Expression.{integer, text, signed_number, signed, sum_chain, product_chain}
use Rattle.typing.specs.Condition.{conjunction, disjunction, negated, tested, compared, between, in_list, like, null_test}
use Rattle.typing.specs.Part.{Part, of_none, of_one, of_two, of_three, of_all, if_chain}
use Rattle.typing.specs.SetFunction.{column_part, query_part, count_rows, aggregate_found, aggregate_part, is_distinct}
use Rattle.typing.specs.Table.{table_found}
use Rattle.typing.specs.From.{From, shown_name, stored_table, derived_table, crossed, joined_on, inner_join, left_join, joined_by, from_of}
use Rattle.typing.specs.declared.scope.ShownItem.{ShownItem}
use Rattle.typing.specs.Select.{named_item, clauses_found}
use Rattle.typing.specs.SetOperator.{operation, intersection, set_chain, of_one_column, scalar, in_query, exists}

abbrev pub ExpressionPart : Type 0
ExpressionPart = Part TypedExpression

-- what stands after a sign: the sign belongs to a number, and is an operator before anything else:
-- our own choice
abbrev pub SignedPart : Type 0
SignedPart = Option Sign → ExpressionPart

abbrev pub ConditionPart : Type 0
ConditionPart = Part Typed

-- a query, in the FROMs of the queries outside it
abbrev pub QueryFinding : Type 0
QueryFinding = Scope → Finding TypedQuery

-- a node whose parts stand as what they are found to be
abbrev pub Layer : ((A B C D E F G H I J K L M N O P Q : Type 0) → Type 0) → Type 0
Layer T = T (From
    → From) QueryFinding ConditionPart SignedPart From QueryFinding ConditionPart ConditionPart ExpressionPart ExpressionPart ConditionPart QueryFinding QueryFinding (Part ShownItem) From ExpressionPart ConditionPart

-- ---- expressions

abbrev pub with_sign : ExpressionPart → SignedPart
with_sign x None = x
with_sign x (Some sign) = of_one (λ found. found >>= signed (Some sign)) x

-- a column in parentheses is no column: our own choice
abbrev pub in_parentheses : ExpressionPart → ExpressionPart
in_parentheses x = record x { name = None }

abbrev pub primary_step : Layer Primary-F → SignedPart
primary_step (Primary-F.Number number) sign = of_none (λ view. signed_number sign number >>= (λ x. Ok (integer (expression.Constant x))))
primary_step (Primary-F.Text codes) sign = with_sign (of_none (λ view. Ok (text (expression.Constant (value.Text codes))))) sign
primary_step (Primary-F.Column column) sign = with_sign (column_part column) sign
primary_step Primary-F.CountRows sign = with_sign (aggregate_part count_rows) sign
primary_step (Primary-F.Aggregate function quantifier argument) sign = with_sign (aggregate_part (aggregate_found function quantifier argument)) sign
primary_step (Primary-F.Parenthesized inner) sign = with_sign (in_parentheses inner) sign
primary_step (Primary-F.Subquery query) sign = with_sign (query_part scalar query) sign

abbrev pub factor_step : Layer Factor-F → ExpressionPart
factor_step factor = factor.primary factor.sign

abbrev pub term_step : Layer Term-F → ExpressionPart
term_step term = if_chain product_chain term.first term.others

abbrev pub expression_step : Layer Expression-F → ExpressionPart
expression_step chain = if_chain sum_chain chain.first chain.others

-- ---- conditions

abbrev pub predicate_step : Layer Predicate-F → ConditionPart
predicate_step (Predicate-F.Nested inner) = inner
predicate_step (Predicate-F.Compare x operator y) = of_two (compared operator) x y
predicate_step (Predicate-F.Between x is_negated low high) = of_three (between is_negated) x low high
predicate_step (Predicate-F.InList x is_negated literals) = of_one (λ found. in_list is_negated found literals) x
predicate_step (Predicate-F.InQuery x is_negated query) = of_two (in_query is_negated) x (query_part of_one_column query)
predicate_step (Predicate-F.Like x is_negated pattern) = of_two (like is_negated) x pattern
predicate_step (Predicate-F.IsNull x is_negated) = of_one (null_test is_negated) x
predicate_step (Predicate-F.Exists query) = query_part exists query

abbrev pub test_step : Layer Test-F → ConditionPart
test_step test = of_one (λ found. found >>= (λ c. Ok (tested test.truth c))) test.predicate

abbrev pub negation_step : Layer Negation-F → ConditionPart
negation_step negation = of_one (λ found. found >>= (λ c. Ok (negated negation.is_negated c))) negation.test

abbrev pub conjunction_step : Layer Conjunction-F → ConditionPart
conjunction_step chain = of_all conjunction (chain.first ∷ chain.others)

abbrev pub condition_step : Layer Condition-F → ConditionPart
condition_step chain = of_all disjunction (chain.first ∷ chain.others)

-- ---- FROM

abbrev pub join_step : Layer Join-F → From → From
join_step (Join-F.Cross right) left = crossed left right
join_step (Join-F.Inner has_inner right on) left = joined_on inner_join on left right
join_step (Join-F.Left has_outer right on) left = joined_on left_join on left right

abbrev pub reference_step : Layer TableReference-F → From
reference_step reference = joined_by reference.joins reference.first

-- ---- queries

abbrev pub item_step : Layer SelectItem-F → Part ShownItem
item_step item = named_item item.alias item.value

abbrev pub select_step : Layer Select-F → QueryFinding
select_step select = clauses_found (record {
  is_distinct = is_distinct select.quantifier;
  items = select.items;
  from = from_of select.from;
  filter = select.filter;
  groups = select.groups;
  having = select.having;
})

abbrev pub operand_step : Layer Operand-F → QueryFinding
operand_step (Operand-F.Select select) = select
operand_step (Operand-F.Grouped query) = query

abbrev pub addend_step : Layer Addend-F → QueryFinding
addend_step addend outer = set_chain (addend.first outer) (map (λ other. (intersection other.0, other.1 outer)) addend.others)

abbrev pub query_step : Layer Query-F → QueryFinding
query_step query outer = set_chain (query.first outer) (map (λ other. (operation other.0, other.1 outer)) query.others)

-- ---- over what is known of a schema

module _ (known : Known) where
  abbrev pub source_step : Layer TableSource-F → From
  source_step (TableSource-F.Table name alias) = stored_table (λ n. table_found known n >>= (λ table. Ok table.columns)) name (shown_name name alias)
  source_step (TableSource-F.Derived query alias) = derived_table query alias.name

  unfoldable pub join_part : Join → From → From
  join_part = fold-Join _ _ _ _ _ _ _ _ _ _ _ _ _ _ _ _ _ join_step operand_step predicate_step primary_step source_step addend_step condition_step conjunction_step expression_step factor_step negation_step query_step select_step item_step reference_step term_step test_step

  unfoldable pub operand_found : Operand → QueryFinding
  operand_found = fold-Operand _ _ _ _ _ _ _ _ _ _ _ _ _ _ _ _ _ join_step operand_step predicate_step primary_step source_step addend_step condition_step conjunction_step expression_step factor_step negation_step query_step select_step item_step reference_step term_step test_step

  unfoldable pub predicate_part : Predicate → ConditionPart
  predicate_part = fold-Predicate _ _ _ _ _ _ _ _ _ _ _ _ _ _ _ _ _ join_step operand_step predicate_step primary_step source_step addend_step condition_step conjunction_step expression_step factor_step negation_step query_step select_step item_step reference_step term_step test_step

  unfoldable pub primary_part : Primary → SignedPart
  primary_part = fold-Primary _ _ _ _ _ _ _ _ _ _ _ _ _ _ _ _ _ join_step operand_step predicate_step primary_step source_step addend_step condition_step conjunction_step expression_step factor_step negation_step query_step select_step item_step reference_step term_step test_step

  unfoldable pub source_part : TableSource → From
  source_part = fold-TableSource _ _ _ _ _ _ _ _ _ _ _ _ _ _ _ _ _ join_step operand_step predicate_step primary_step source_step addend_step condition_step conjunction_step expression_step factor_step negation_step query_step select_step item_step reference_step term_step test_step

  unfoldable pub addend_found : Addend → QueryFinding
  addend_found = fold-Addend _ _ _ _ _ _ _ _ _ _ _ _ _ _ _ _ _ join_step operand_step predicate_step primary_step source_step addend_step condition_step conjunction_step expression_step factor_step negation_step query_step select_step item_step reference_step term_step test_step

  unfoldable pub condition_part : Condition → ConditionPart
  condition_part = fold-Condition _ _ _ _ _ _ _ _ _ _ _ _ _ _ _ _ _ join_step operand_step predicate_step primary_step source_step addend_step condition_step conjunction_step expression_step factor_step negation_step query_step select_step item_step reference_step term_step test_step

  unfoldable pub conjunction_part : Conjunction → ConditionPart
  conjunction_part = fold-Conjunction _ _ _ _ _ _ _ _ _ _ _ _ _ _ _ _ _ join_step operand_step predicate_step primary_step source_step addend_step condition_step conjunction_step expression_step factor_step negation_step query_step select_step item_step reference_step term_step test_step

  unfoldable pub expression_part : Expression → ExpressionPart
  expression_part = fold-Expression _ _ _ _ _ _ _ _ _ _ _ _ _ _ _ _ _ join_step operand_step predicate_step primary_step source_step addend_step condition_step conjunction_step expression_step factor_step negation_step query_step select_step item_step reference_step term_step test_step

  unfoldable pub factor_part : Factor → ExpressionPart
  factor_part = fold-Factor _ _ _ _ _ _ _ _ _ _ _ _ _ _ _ _ _ join_step operand_step predicate_step primary_step source_step addend_step condition_step conjunction_step expression_step factor_step negation_step query_step select_step item_step reference_step term_step test_step

  unfoldable pub negation_part : Negation → ConditionPart
  negation_part = fold-Negation _ _ _ _ _ _ _ _ _ _ _ _ _ _ _ _ _ join_step operand_step predicate_step primary_step source_step addend_step condition_step conjunction_step expression_step factor_step negation_step query_step select_step item_step reference_step term_step test_step

  unfoldable pub query_found : Query → QueryFinding
  query_found = fold-Query _ _ _ _ _ _ _ _ _ _ _ _ _ _ _ _ _ join_step operand_step predicate_step primary_step source_step addend_step condition_step conjunction_step expression_step factor_step negation_step query_step select_step item_step reference_step term_step test_step

  unfoldable pub select_found : Select → QueryFinding
  select_found = fold-Select _ _ _ _ _ _ _ _ _ _ _ _ _ _ _ _ _ join_step operand_step predicate_step primary_step source_step addend_step condition_step conjunction_step expression_step factor_step negation_step query_step select_step item_step reference_step term_step test_step

  unfoldable pub item_part : SelectItem → Part ShownItem
  item_part = fold-SelectItem _ _ _ _ _ _ _ _ _ _ _ _ _ _ _ _ _ join_step operand_step predicate_step primary_step source_step addend_step condition_step conjunction_step expression_step factor_step negation_step query_step select_step item_step reference_step term_step test_step

  unfoldable pub reference_part : TableReference → From
  reference_part = fold-TableReference _ _ _ _ _ _ _ _ _ _ _ _ _ _ _ _ _ join_step operand_step predicate_step primary_step source_step addend_step condition_step conjunction_step expression_step factor_step negation_step query_step select_step item_step reference_step term_step test_step

  unfoldable pub term_part : Term → ExpressionPart
  term_part = fold-Term _ _ _ _ _ _ _ _ _ _ _ _ _ _ _ _ _ join_step operand_step predicate_step primary_step source_step addend_step condition_step conjunction_step expression_step factor_step negation_step query_step select_step item_step reference_step term_step test_step

  unfoldable pub test_part : Test → ConditionPart
  test_part = fold-Test _ _ _ _ _ _ _ _ _ _ _ _ _ _ _ _ _ join_step operand_step predicate_step primary_step source_step addend_step condition_step conjunction_step expression_step factor_step negation_step query_step select_step item_step reference_step term_step test_step
