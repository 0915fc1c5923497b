-- How expressions and conditions are read.
use Rattle.std.specs.Prelude.{ℕ, Bool, if◌then◌else◌, [], Option, Some}
use Rattle.lexer.specs.declared.kinds.Symbol.TheVariants as s
use Rattle.lexer.specs.declared.words.Word.TheVariants as w
use Rattle.ast.specs.declared.operator.AddOperator.{AddOperator}
use Rattle.ast.specs.declared.operator.Comparison.{Comparison}
use Rattle.ast.specs.declared.operator.MultiplyOperator.{MultiplyOperator}
use Rattle.ast.specs.declared.operator.Quantifier.{Quantifier}
use Rattle.ast.specs.declared.operator.SetFunction.{SetFunction}
use Rattle.ast.specs.declared.tree.Condition.{Condition, roll-Condition}
use Rattle.ast.specs.declared.tree.Conjunction.{Conjunction, roll-Conjunction}
use Rattle.ast.specs.declared.tree.Expression.{Expression, roll-Expression}
use Rattle.ast.specs.declared.tree.Factor.{Factor, roll-Factor}
use Rattle.ast.specs.declared.tree.Negation.{Negation, roll-Negation}
use Rattle.ast.specs.declared.tree.Predicate.{Predicate}
use Rattle.ast.specs.declared.tree.Predicate.TheVariants as predicate_of
use Rattle.ast.specs.declared.tree.Primary.{Primary}
use Rattle.ast.specs.declared.tree.Primary.TheVariants as primary_of
use Rattle.ast.specs.declared.tree.Query.{Query}
use Rattle.ast.specs.declared.tree.Term.{Term, roll-Term}
use Rattle.ast.specs.declared.tree.Test.{Test, roll-Test}
use Rattle.parse_terminals.specs.Readers.{Reader, ◌>>=◌, if_next, is_symbol, next_is, word, eat_word, both, after, before, parenthesized, made, many, listed, optional, written}
use Rattle.parse_terminals.specs.ReadTerminals.{add_operator, multiply_operator, sign, comparison, quantifier, set_function, count_rows, truth_test, is_string, is_number, string, literal, column, opens_query, opens_subquery, opens_condition}
use Rattle.parse_terminals.specs.Readers.{number}

-- the readers of what stands between parentheses
pub record Inner : Type 0 where
  pub expression : Reader Expression
  pub condition : Reader Condition
  pub query : Reader Query

module _ (limit : Option ℕ) (inner : Inner) where
  -- what stands in the parentheses of a set function
  unfoldable pub argument : Reader (Option Quantifier × Expression)
  argument = both (optional quantifier) inner.expression

  -- what follows a set function's name
  unfoldable pub aggregate : SetFunction → Reader Primary
  aggregate function = made (λ x. primary_of.Aggregate function x.0 x.1) (parenthesized argument)

  unfoldable pub in_parentheses : Reader Primary
  in_parentheses ts = if opens_query ts then made primary_of.Subquery (parenthesized inner.query) ts
      else made primary_of.Parenthesized (parenthesized inner.expression) ts

  unfoldable pub constant_or_column : Reader Primary
  constant_or_column ts = if next_is is_number ts then made primary_of.Number number ts
      else (if next_is is_string ts then made primary_of.Text string ts else made primary_of.Column column ts)

  unfoldable pub primary : Reader Primary
  primary ts = if next_is (is_symbol s.LeftParenthesis) ts then in_parentheses ts
      else if_next (count_rows ts)
      (if_next (set_function ts) (constant_or_column ts) (λ o. aggregate o.0 o.1))
      (λ o. Some (primary_of.CountRows, o.1))

  unfoldable pub factor : Reader Factor
  factor = made (λ x. roll-Factor (record { sign = x.0; primary = x.1 })) (both (optional sign) primary)

  unfoldable pub multiplied : MultiplyOperator → Reader (MultiplyOperator × Factor)
  multiplied o = made (λ x. (o, x)) factor

  unfoldable pub term : Reader Term
  term = made (λ x. roll-Term (record { first = x.0; others = x.1 }))
      (both factor (many limit multiply_operator multiplied []))

  unfoldable pub added : AddOperator → Reader (AddOperator × Term)
  added o = made (λ x. (o, x)) term

  unfoldable pub expression : Reader Expression
  expression = made (λ x. roll-Expression (record { first = x.0; others = x.1 }))
      (both term (many limit add_operator added []))

  -- ---- what follows the first operand of a predicate

  unfoldable pub compare : Expression → Comparison → Reader Predicate
  compare left op = made (λ right. predicate_of.Compare left op right) expression

  unfoldable pub is_null : Expression → Reader Predicate
  is_null left = made (λ not. predicate_of.IsNull left not) (before (written w.Not) (word w.Null))

  unfoldable pub between : Expression → Bool → Reader Predicate
  between left not = made (λ x. predicate_of.Between left not x.0 x.1) (both expression (after (word w.And) expression))

  unfoldable pub is_in : Expression → Bool → Reader Predicate
  is_in left not ts = if opens_subquery ts then made (λ query. predicate_of.InQuery left not query) (parenthesized inner.query) ts
      else made (λ list. predicate_of.InList left not list) (parenthesized (listed literal)) ts

  unfoldable pub like : Expression → Bool → Reader Predicate
  like left not = made (λ pattern. predicate_of.Like left not pattern) (after (word w.Like) expression)

  -- BETWEEN, IN and LIKE
  unfoldable pub range_list_or_pattern : Expression → Bool → Reader Predicate
  range_list_or_pattern left not ts = if_next (word w.Between ts)
      (if_next (word w.In ts) (like left not ts) (λ o. is_in left not o.1))
      (λ o. between left not o.1)

  unfoldable pub after_operand : Expression → Reader Predicate
  after_operand left ts = if_next (comparison ts)
      (if_next (word w.Is ts) (range_list_or_pattern left (eat_word w.Not ts).0 (eat_word w.Not ts).1) (λ o. is_null left o.1))
      (λ o. compare left o.0 o.1)

  unfoldable pub exists : Reader Predicate
  exists = made predicate_of.Exists (parenthesized inner.query)

  unfoldable pub nested : Reader Predicate
  nested = made predicate_of.Nested (parenthesized inner.condition)

  unfoldable pub predicate : Reader Predicate
  predicate ts = if opens_condition ts then nested ts
      else if_next (word w.Exists ts) (expression ts >>= (λ left. after_operand left.0 left.1)) (λ o. exists o.1)

  unfoldable pub test_ : Reader Test
  test_ = made (λ x. roll-Test (record { predicate = x.0; truth = x.1 })) (both predicate truth_test)

  unfoldable pub negation : Reader Negation
  negation = made (λ x. roll-Negation (record { is_negated = x.0; test = x.1 })) (both (written w.Not) test_)

  unfoldable pub conjunction : Reader Conjunction
  conjunction = made (λ x. roll-Conjunction (record { first = x.0; others = x.1 }))
      (both negation (many limit (word w.And) (λ _. negation) []))

  unfoldable pub condition : Reader Condition
  condition = made (λ x. roll-Condition (record { first = x.0; others = x.1 }))
      (both conjunction (many limit (word w.Or) (λ _. conjunction) []))
