-- What is found at each node.
use Rattle.std.proofs.Common.{◌≡◌, ℕ, Bool, List, ◌∷◌, map, rules, Option, Ok, ap}
use Rattle.std.specs.Option.{option_map}
use Rattle.sqlval.specs.declared.value.Value.TheVariants as value
use Rattle.ast.specs.declared.operator.Alias.{Alias}
use Rattle.ast.specs.declared.operator.Column.{Column}
use Rattle.ast.specs.declared.operator.Comparison.{Comparison}
use Rattle.ast.specs.declared.operator.Literal.{Literal}
use Rattle.ast.specs.declared.operator.Quantifier.{Quantifier}
use Rattle.ast.specs.declared.operator.SetFunction.{SetFunction}
use Rattle.ast.specs.declared.operator.Sign.{Sign}
use Rattle.ast.specs.declared.tree.Join.TheVariants as join
use Rattle.ast.specs.declared.tree.Operand.TheVariants as operand
use Rattle.ast.specs.declared.tree.Predicate.TheVariants as predicate
use Rattle.ast.specs.declared.tree.Primary.TheVariants as primary
use Rattle.ast.specs.declared.tree.TableSource.{TableSource}
use Rattle.ast.specs.declared.tree.TableSource.TheVariants as source
use Rattle.ast.specs.declared.tree.Addend.{Addend, out-Addend, roll-Addend}
use Rattle.ast.specs.declared.tree.Condition.{Condition, out-Condition, roll-Condition}
use Rattle.ast.specs.declared.tree.Conjunction.{Conjunction, out-Conjunction, roll-Conjunction}
use Rattle.ast.specs.declared.tree.Expression.{Expression, out-Expression, roll-Expression, the_lemmas}
use Rattle.ast.specs.declared.tree.Factor.{Factor, out-Factor, roll-Factor}
use Rattle.ast.specs.declared.tree.Negation.{Negation, out-Negation, roll-Negation}
use Rattle.ast.specs.declared.tree.Query.{Query, out-Query, roll-Query}
use Rattle.ast.specs.declared.tree.Select.{Select, out-Select, roll-Select}
use Rattle.ast.specs.declared.tree.SelectItem.{SelectItem, out-SelectItem, roll-SelectItem}
use Rattle.ast.specs.declared.tree.TableReference.{TableReference, out-TableReference, roll-TableReference}
use Rattle.ast.specs.declared.tree.Term.{Term, out-Term, roll-Term}
use Rattle.ast.specs.declared.tree.Test.{Test, out-Test, roll-Test}
use Rattle.typing.specs.declared.typed.Expression.TheVariants as expression
use Rattle.typing.specs.Finding.{◌>>=◌}
use Rattle.typing.specs.Scope.{Scope}
use Rattle.typing.specs.Expression.{integer, text, signed_number, sum_chain, product_chain}
use Rattle.typing.specs.Condition.{conjunction, disjunction, negated, tested, compared, between, in_list, like, null_test}
use Rattle.typing.specs.Known.{Known}
use Rattle.typing.specs.Part.{of_none, of_one, of_two, of_three, of_all, if_chain}
use Rattle.typing.specs.SetFunction.{column_part, query_part, count_rows, aggregate_found, aggregate_part, is_distinct}
use Rattle.typing.specs.Table.{table_found}
use Rattle.typing.specs.From.{From, shown_name, stored_table, derived_table, crossed, joined_on, inner_join, left_join, joined_by, from_of}
use Rattle.typing.specs.Select.{named_item, clauses_found}
use Rattle.typing.specs.SetOperator.{of_one_column, scalar, in_query, exists}
use Rattle.typing.specs.Typing.{with_sign, in_parentheses, addend_step, query_step, join_part, operand_found, predicate_part, primary_part, source_part, addend_found, condition_part, conjunction_part, expression_part, factor_part, negation_part, query_found, select_found, item_part, reference_part, term_part, test_part}

module _ (k : Known) where
  -- ---- expressions

  pub primary_number : (sign : Option Sign) (number : ℕ) → primary_part k (primary.Number number) sign ≡ of_none (λ view. signed_number sign number >>= (λ x. Ok (integer (expression.Constant x))))
  unfolding primary_part
  primary_number sign number = search (rules, the_lemmas)

  pub primary_text : (sign : Option Sign) (codes : List ℕ) → primary_part k (primary.Text codes) sign ≡ with_sign (of_none (λ view. Ok (text (expression.Constant (value.Text codes))))) sign
  unfolding primary_part
  primary_text sign codes = search (rules, the_lemmas)

  pub primary_column : (sign : Option Sign) (column : Column) → primary_part k (primary.Column column) sign ≡ with_sign (column_part column) sign
  unfolding primary_part
  primary_column sign column = search (rules, the_lemmas)

  pub primary_count_rows : (sign : Option Sign) → primary_part k primary.CountRows sign ≡ with_sign (aggregate_part count_rows) sign
  unfolding primary_part
  primary_count_rows sign = search (rules, the_lemmas)

  pub primary_aggregate : (sign : Option Sign) (function : SetFunction) (quantifier : Option Quantifier) (x : Expression) → primary_part k (primary.Aggregate function quantifier x) sign ≡ with_sign (aggregate_part (aggregate_found function quantifier (expression_part k x))) sign
  unfolding primary_part expression_part
  primary_aggregate sign function quantifier x = search (rules, the_lemmas)

  pub primary_parenthesized : (sign : Option Sign) (x : Expression) → primary_part k (primary.Parenthesized x) sign ≡ with_sign (in_parentheses (expression_part k x)) sign
  unfolding primary_part expression_part
  primary_parenthesized sign x = search (rules, the_lemmas)

  pub primary_subquery : (sign : Option Sign) (query : Query) → primary_part k (primary.Subquery query) sign ≡ with_sign (query_part scalar (query_found k query)) sign
  unfolding primary_part query_found
  primary_subquery sign query = search (rules, the_lemmas)

  pub factor_is : (tree : Factor) → factor_part k tree ≡ primary_part k (out-Factor tree).primary (out-Factor tree).sign
  unfolding factor_part primary_part
  factor_is tree = search (rules, the_lemmas)

  pub term_is : (tree : Term) → term_part k tree ≡ if_chain product_chain (factor_part k (out-Term tree).first) (map (λ other. (other.0, factor_part k other.1)) (out-Term tree).others)
  unfolding term_part factor_part
  term_is tree = search (rules, the_lemmas)

  pub expression_is : (tree : Expression) → expression_part k tree ≡ if_chain sum_chain (term_part k (out-Expression tree).first) (map (λ other. (other.0, term_part k other.1)) (out-Expression tree).others)
  unfolding expression_part term_part
  expression_is tree = search (rules, the_lemmas)

  -- ---- conditions

  pub predicate_nested : (c : Condition) → predicate_part k (predicate.Nested c) ≡ condition_part k c
  unfolding predicate_part condition_part
  predicate_nested c = search (rules, the_lemmas)

  pub predicate_compare : (x : Expression) (operator : Comparison) (y : Expression) → predicate_part k (predicate.Compare x operator y) ≡ of_two (compared operator) (expression_part k x) (expression_part k y)
  unfolding predicate_part expression_part
  predicate_compare x operator y = search (rules, the_lemmas)

  pub predicate_between : (x : Expression) (n : Bool) (low high : Expression) → predicate_part k (predicate.Between x n low high) ≡ of_three (between n) (expression_part k x) (expression_part k low) (expression_part k high)
  unfolding predicate_part expression_part
  predicate_between x n low high = search (rules, the_lemmas)

  pub predicate_in_list : (x : Expression) (n : Bool) (literals : List Literal) → predicate_part k (predicate.InList x n literals) ≡ of_one (λ found. in_list n found literals) (expression_part k x)
  unfolding predicate_part expression_part
  predicate_in_list x n literals = search (rules, the_lemmas)

  pub predicate_in_query : (x : Expression) (n : Bool) (query : Query) → predicate_part k (predicate.InQuery x n query) ≡ of_two (in_query n) (expression_part k x) (query_part of_one_column (query_found k query))
  unfolding predicate_part expression_part query_found
  predicate_in_query x n query = search (rules, the_lemmas)

  pub predicate_like : (x : Expression) (n : Bool) (pattern : Expression) → predicate_part k (predicate.Like x n pattern) ≡ of_two (like n) (expression_part k x) (expression_part k pattern)
  unfolding predicate_part expression_part
  predicate_like x n pattern = search (rules, the_lemmas)

  pub predicate_is_null : (x : Expression) (n : Bool) → predicate_part k (predicate.IsNull x n) ≡ of_one (null_test n) (expression_part k x)
  unfolding predicate_part expression_part
  predicate_is_null x n = search (rules, the_lemmas)

  pub predicate_exists : (query : Query) → predicate_part k (predicate.Exists query) ≡ query_part exists (query_found k query)
  unfolding predicate_part query_found
  predicate_exists query = search (rules, the_lemmas)

  pub test_is : (tree : Test) → test_part k tree ≡ of_one (λ found. found >>= (λ c. Ok (tested (out-Test tree).truth c))) (predicate_part k (out-Test tree).predicate)
  unfolding test_part predicate_part
  test_is tree = search (rules, the_lemmas)

  pub negation_is : (tree : Negation) → negation_part k tree ≡ of_one (λ found. found >>= (λ c. Ok (negated (out-Negation tree).is_negated c))) (test_part k (out-Negation tree).test)
  unfolding negation_part test_part
  negation_is tree = search (rules, the_lemmas)

  pub conjunction_is : (tree : Conjunction) → conjunction_part k tree ≡ of_all conjunction (negation_part k (out-Conjunction tree).first ∷ map (negation_part k) (out-Conjunction tree).others)
  unfolding conjunction_part negation_part
  conjunction_is tree = search (rules, the_lemmas)

  pub condition_is : (tree : Condition) → condition_part k tree ≡ of_all disjunction (conjunction_part k (out-Condition tree).first ∷ map (conjunction_part k) (out-Condition tree).others)
  unfolding condition_part conjunction_part
  condition_is tree = search (rules, the_lemmas)

  -- ---- FROM

  pub source_table : (name : List ℕ) (alias : Option Alias) → source_part k (source.Table name alias) ≡ stored_table (λ n. table_found k n >>= (λ table. Ok table.columns)) name (shown_name name alias)
  unfolding source_part
  source_table name alias = search (rules, the_lemmas)

  pub source_derived : (query : Query) (alias : Alias) → source_part k (source.Derived query alias) ≡ derived_table (query_found k query) alias.name
  unfolding source_part query_found
  source_derived query alias = search (rules, the_lemmas)

  pub join_cross : (right : TableSource) (left : From) → join_part k (join.Cross right) left ≡ crossed left (source_part k right)
  unfolding join_part source_part
  join_cross right left = search (rules, the_lemmas)

  pub join_inner : (has_inner : Bool) (right : TableSource) (on : Condition) (left : From) → join_part k (join.Inner has_inner right on) left ≡ joined_on inner_join (condition_part k on) left (source_part k right)
  unfolding join_part source_part condition_part
  join_inner has_inner right on left = search (rules, the_lemmas)

  pub join_left : (has_outer : Bool) (right : TableSource) (on : Condition) (left : From) → join_part k (join.Left has_outer right on) left ≡ joined_on left_join (condition_part k on) left (source_part k right)
  unfolding join_part source_part condition_part
  join_left has_outer right on left = search (rules, the_lemmas)

  pub reference_is : (tree : TableReference) → reference_part k tree ≡ joined_by (map (join_part k) (out-TableReference tree).joins) (source_part k (out-TableReference tree).first)
  unfolding reference_part join_part source_part
  reference_is tree = search (rules, the_lemmas)

  -- ---- queries

  pub item_is : (tree : SelectItem) → item_part k tree ≡ named_item (out-SelectItem tree).alias (expression_part k (out-SelectItem tree).value)
  unfolding item_part expression_part
  item_is tree = search (rules, the_lemmas)

  pub select_is : (tree : Select) → select_found k tree ≡ clauses_found (record { is_distinct = is_distinct (out-Select tree).quantifier; items = option_map (map (item_part k)) (out-Select tree).items; from = from_of (map (reference_part k) (out-Select tree).from); filter = option_map (condition_part k) (out-Select tree).filter; groups = (out-Select tree).groups; having = option_map (condition_part k) (out-Select tree).having })
  unfolding select_found item_part reference_part condition_part
  select_is tree = search (rules, the_lemmas)

  pub operand_select : (tree : Select) → operand_found k (operand.Select tree) ≡ select_found k tree
  unfolding operand_found select_found
  operand_select tree = search (rules, the_lemmas)

  pub operand_grouped : (tree : Query) → operand_found k (operand.Grouped tree) ≡ query_found k tree
  unfolding operand_found query_found
  operand_grouped tree = search (rules, the_lemmas)

  pub addend_is : (tree : Addend) → addend_found k tree ≡ addend_step (record { first = operand_found k (out-Addend tree).first; others = map (λ other. (other.0, operand_found k other.1)) (out-Addend tree).others })
  unfolding addend_found operand_found
  addend_is tree = search (rules, the_lemmas)

  pub query_is : (tree : Query) → query_found k tree ≡ query_step (record { first = addend_found k (out-Query tree).first; others = map (λ other. (other.0, addend_found k other.1)) (out-Query tree).others })
  unfolding query_found addend_found
  query_is tree = search (rules, the_lemmas)

  -- ---- queries, in the FROMs of the outer queries

  pub query_at : (tree : Query) (outer : Scope) → query_found k tree outer ≡ query_step (record { first = addend_found k (out-Query tree).first; others = map (λ other. (other.0, addend_found k other.1)) (out-Query tree).others }) outer
  query_at tree outer = ap (λ f. f outer) (query_is tree)

  pub addend_at : (tree : Addend) (outer : Scope) → addend_found k tree outer ≡ addend_step (record { first = operand_found k (out-Addend tree).first; others = map (λ other. (other.0, operand_found k other.1)) (out-Addend tree).others }) outer
  addend_at tree outer = ap (λ f. f outer) (addend_is tree)

  pub operand_select_at : (tree : Select) (outer : Scope) → operand_found k (operand.Select tree) outer ≡ select_found k tree outer
  operand_select_at tree outer = ap (λ f. f outer) (operand_select tree)

  pub operand_grouped_at : (tree : Query) (outer : Scope) → operand_found k (operand.Grouped tree) outer ≡ query_found k tree outer
  operand_grouped_at tree outer = ap (λ f. f outer) (operand_grouped tree)

  pub select_at : (tree : Select) (outer : Scope) → select_found k tree outer ≡ clauses_found (record { is_distinct = is_distinct (out-Select tree).quantifier; items = option_map (map (item_part k)) (out-Select tree).items; from = from_of (map (reference_part k) (out-Select tree).from); filter = option_map (condition_part k) (out-Select tree).filter; groups = (out-Select tree).groups; having = option_map (condition_part k) (out-Select tree).having }) outer
  select_at tree outer = ap (λ f. f outer) (select_is tree)

-- ---- a struct of the trees, made and opened

pub out_addend : (x : _) → out-Addend (roll-Addend x) ≡ x
out_addend x = search (rules, the_lemmas)

pub out_condition : (x : _) → out-Condition (roll-Condition x) ≡ x
out_condition x = search (rules, the_lemmas)

pub out_conjunction : (x : _) → out-Conjunction (roll-Conjunction x) ≡ x
out_conjunction x = search (rules, the_lemmas)

pub out_expression : (x : _) → out-Expression (roll-Expression x) ≡ x
out_expression x = search (rules, the_lemmas)

pub out_factor : (x : _) → out-Factor (roll-Factor x) ≡ x
out_factor x = search (rules, the_lemmas)

pub out_negation : (x : _) → out-Negation (roll-Negation x) ≡ x
out_negation x = search (rules, the_lemmas)

pub out_query : (x : _) → out-Query (roll-Query x) ≡ x
out_query x = search (rules, the_lemmas)

pub out_select : (x : _) → out-Select (roll-Select x) ≡ x
out_select x = search (rules, the_lemmas)

pub out_selectitem : (x : _) → out-SelectItem (roll-SelectItem x) ≡ x
out_selectitem x = search (rules, the_lemmas)

pub out_tablereference : (x : _) → out-TableReference (roll-TableReference x) ≡ x
out_tablereference x = search (rules, the_lemmas)

pub out_term : (x : _) → out-Term (roll-Term x) ≡ x
out_term x = search (rules, the_lemmas)

pub out_test : (x : _) → out-Test (roll-Test x) ≡ x
out_test x = search (rules, the_lemmas)

-- every node: what is found of a tree that is written out is computed by these
pub ruleset typings = (primary_number, primary_text, primary_column, primary_count_rows, primary_aggregate, primary_parenthesized, primary_subquery, factor_is, term_is, expression_is, predicate_nested, predicate_compare, predicate_between, predicate_in_list, predicate_in_query, predicate_like, predicate_is_null, predicate_exists, test_is, negation_is, conjunction_is, condition_is, source_table, source_derived, join_cross, join_inner, join_left, reference_is, item_is, out_addend, out_condition, out_conjunction, out_expression, out_factor, out_negation, out_query, out_select, out_selectitem, out_tablereference, out_term, out_test, query_at, addend_at, operand_select_at, operand_grouped_at, select_at)
