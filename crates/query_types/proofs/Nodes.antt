-- What is found at the nodes of an expression, wherever it is seen.
use Rattle.std.proofs.Common.{◌≡◌, ◌≢◌, ℕ, List, [], ◌∷◌, map, Option, Some, None, Ok, Err, refl, sym, ◌∙◌, ap}
use Rattle.std.specs.List.{zip}
use Rattle.sqlval.specs.declared.value.Value.TheVariants as value
use Rattle.ast.specs.declared.operator.AddOperator.{AddOperator}
use Rattle.ast.specs.declared.operator.AddOperator.TheVariants as add
use Rattle.ast.specs.declared.operator.MultiplyOperator.{MultiplyOperator}
use Rattle.ast.specs.declared.operator.Sign.{Sign}
use Rattle.ast.specs.declared.operator.Column.{Column}
use Rattle.ast.specs.declared.operator.Quantifier.{Quantifier}
use Rattle.ast.specs.declared.operator.SetFunction.{SetFunction}
use Rattle.ast.specs.declared.tree.Expression.{Expression, out-Expression}
use Rattle.ast.specs.declared.tree.Factor.{Factor, out-Factor}
use Rattle.ast.specs.declared.tree.Primary.TheVariants as p
use Rattle.ast.specs.declared.tree.Query.{Query}
use Rattle.ast.specs.declared.tree.Term.{Term, out-Term}
use Rattle.typing.specs.declared.typed.Expression.TheVariants as expression
use Rattle.typing.specs.declared.scope.TypedExpression.{TypedExpression}
use Rattle.typing.specs.Finding.{Finding, ◌>>=◌, each}
use Rattle.typing.specs.Known.{Known}
use Rattle.typing.specs.Part.{Part, View, in_turn, if_chain, past}
use Rattle.typing.specs.Expression.{integer, text, signed_number, signed, sum_chain, product_chain, calculation, concatenation, sum_operand, text_operand, product_operand, leading_operator, chain_led_by}
use Rattle.typing.specs.SetFunction.{aggregate_found, column_seen, count_rows, query_seen, value_seen}
use Rattle.typing.specs.SetOperator.{scalar}
use Rattle.typing.specs.Typing.{expression_part, term_part, factor_part, primary_part, query_found, with_sign}
use Rattle.typing.proofs.Nodes as node
use Rattle.query_types.specs.Parts.{continued, factor_after, in_order, multiplied, summed, term_after}

-- ---- operands of a chain

ordered : {O X A B : Type 0} (f : X → Part A) (g : O × Finding A → Finding B) (others : List (O × X)) (v : View) →
    map g (zip (map {B = O} (λ o. o.0) (map {B = O × Part A} (λ o. (o.0, f o.1)) others)) (in_turn (map {B = Part A} (λ o. o.1) (map {B = O × Part A} (λ o. (o.0, f o.1)) others)) v))
    ≡ in_order (λ o. f o.1) (λ o found. g (o.0, found)) others v
ordered f g [] v = refl
ordered f g (o ∷ others) v = ap (λ rest. g (o.0, (f o.1).found v) ∷ rest) (ordered f g others (past (f o.1) v))

chain-sum : (operator : AddOperator) (first : Finding TypedExpression) (others : List (AddOperator × Finding TypedExpression)) → operator ≢ add.Concatenate →
    chain_led_by (Some operator) first others ≡ calculation first (each (map sum_operand others))
chain-sum add.Plus first others n = refl
chain-sum add.Minus first others n = refl
chain-sum add.Concatenate first others n = absurd (n refl)

module _ (k : Known) (v : View) where
  sum-alone : (first : Part TypedExpression) (others : List (AddOperator × Term)) → leading_operator others ≡ None →
      (if_chain sum_chain first (map (λ o. (o.0, term_part k o.1)) others)).found v ≡ first.found v
  sum-alone first [] e = refl
  sum-alone first (o ∷ others) e = absurd (cc e)

  sum-led : (first : Part TypedExpression) (others : List (AddOperator × Term)) (operator : AddOperator) → leading_operator others ≡ Some operator → operator ≢ add.Concatenate →
      (if_chain sum_chain first (map (λ o. (o.0, term_part k o.1)) others)).found v ≡ calculation (first.found v) (each (in_order (term_after k) summed others (past first v)))
  sum-led first [] operator e n = absurd (cc e)
  sum-led first (o ∷ others) operator e n =
      let same : o.0 ≡ operator = cc e in
      chain-sum o.0 (first.found v) _ (λ h. n (sym same ∙ h))
      ∙ ap (λ operands. calculation (first.found v) (each operands)) (ordered (term_part k) sum_operand (o ∷ others) (past first v))

  text-led : (first : Part TypedExpression) (others : List (AddOperator × Term)) → leading_operator others ≡ Some add.Concatenate →
      (if_chain sum_chain first (map (λ o. (o.0, term_part k o.1)) others)).found v ≡ concatenation (first.found v) (each (in_order (term_after k) continued others (past first v)))
  text-led first [] e = absurd (cc e)
  text-led first (o ∷ others) e =
      let same : o.0 ≡ add.Concatenate = cc e in
      rw same refl
      ∙ ap (λ operands. concatenation (first.found v) (each operands)) (ordered (term_part k) text_operand (o ∷ others) (past first v))

  product-led : (first : Part TypedExpression) (others : List (MultiplyOperator × _)) → (others ≡ [] → ⊥) →
      (if_chain product_chain first (map (λ o. (o.0, factor_part k o.1)) others)).found v ≡ calculation (first.found v) (each (in_order (factor_after k) multiplied others (past first v)))
  product-led first [] n = absurd (n refl)
  product-led first (o ∷ others) n = ap (λ operands. calculation (first.found v) (each operands)) (ordered (factor_part k) product_operand (o ∷ others) (past first v))

  -- ---- the nodes

  pub expression_alone : (tree : Expression) → leading_operator (out-Expression tree).others ≡ None → (expression_part k tree).found v ≡ (term_part k (out-Expression tree).first).found v
  expression_alone tree e = ap (λ part. part.found v) (node.expression_is k tree) ∙ sum-alone (term_part k (out-Expression tree).first) (out-Expression tree).others e

  pub expression_sum : (tree : Expression) (operator : AddOperator) → leading_operator (out-Expression tree).others ≡ Some operator → operator ≢ add.Concatenate →
      (expression_part k tree).found v ≡ calculation ((term_part k (out-Expression tree).first).found v) (each (in_order (term_after k) summed (out-Expression tree).others (past (term_part k (out-Expression tree).first) v)))
  expression_sum tree operator e n = ap (λ part. part.found v) (node.expression_is k tree) ∙ sum-led (term_part k (out-Expression tree).first) (out-Expression tree).others operator e n

  pub expression_concatenation : (tree : Expression) → leading_operator (out-Expression tree).others ≡ Some add.Concatenate →
      (expression_part k tree).found v ≡ concatenation ((term_part k (out-Expression tree).first).found v) (each (in_order (term_after k) continued (out-Expression tree).others (past (term_part k (out-Expression tree).first) v)))
  expression_concatenation tree e = ap (λ part. part.found v) (node.expression_is k tree) ∙ text-led (term_part k (out-Expression tree).first) (out-Expression tree).others e

  pub term_alone : (tree : Term) → (out-Term tree).others ≡ [] → (term_part k tree).found v ≡ (factor_part k (out-Term tree).first).found v
  term_alone tree e = ap (λ part. part.found v) (node.term_is k tree) ∙ rw e refl

  pub term_product : (tree : Term) → ((out-Term tree).others ≡ [] → ⊥) →
      (term_part k tree).found v ≡ calculation ((factor_part k (out-Term tree).first).found v) (each (in_order (factor_after k) multiplied (out-Term tree).others (past (factor_part k (out-Term tree).first) v)))
  term_product tree n = ap (λ part. part.found v) (node.term_is k tree) ∙ product-led (factor_part k (out-Term tree).first) (out-Term tree).others n

  pub factor_at : (tree : Factor) → (factor_part k tree).found v ≡ (primary_part k (out-Factor tree).primary (out-Factor tree).sign).found v
  factor_at tree = ap (λ part. part.found v) (node.factor_is k tree)

  signed-at : (sign : Option Sign) (x : Part TypedExpression) → (with_sign x sign).found v ≡ (x.found v >>= signed sign)
  signed-at None x = unsigned (x.found v)
    where
      unsigned : (f : Finding TypedExpression) → f ≡ (f >>= signed None)
      unsigned (Ok x) = refl
      unsigned (Err reasons) = refl
  signed-at (Some sign) x = refl

  module _ (sign : Option Sign) where
    pub primary_number : (number : ℕ) → (primary_part k (p.Number number) sign).found v ≡ (signed_number sign number >>= (λ x. Ok (integer (expression.Constant x))))
    primary_number number = ap (λ part. part.found v) (node.primary_number k sign number)

    pub primary_text : (codes : List ℕ) → (primary_part k (p.Text codes) sign).found v ≡ signed sign (text (expression.Constant (value.Text codes)))
    primary_text codes = ap (λ part. part.found v) (node.primary_text k sign codes) ∙ signed-at sign _

    pub primary_column : (column : Column) → (primary_part k (p.Column column) sign).found v ≡ (column_seen v.clause column v.scope >>= signed sign)
    primary_column column = ap (λ part. part.found v) (node.primary_column k sign column) ∙ signed-at sign _

    pub primary_parenthesized : (inner : Expression) → (primary_part k (p.Parenthesized inner) sign).found v ≡ ((expression_part k inner).found v >>= signed sign)
    primary_parenthesized inner = ap (λ part. part.found v) (node.primary_parenthesized k sign inner) ∙ signed-at sign _

    pub primary_count_rows : (primary_part k p.CountRows sign).found v ≡ (value_seen v.clause (count_rows v.scope) >>= signed sign)
    primary_count_rows = ap (λ part. part.found v) (node.primary_count_rows k sign) ∙ signed-at sign _

    pub primary_aggregate : (function : SetFunction) (quantifier : Option Quantifier) (x : Expression) →
        (primary_part k (p.Aggregate function quantifier x) sign).found v ≡ (value_seen v.clause (aggregate_found function quantifier (expression_part k x) v.scope) >>= signed sign)
    primary_aggregate function quantifier x = ap (λ part. part.found v) (node.primary_aggregate k sign function quantifier x) ∙ signed-at sign _

    pub primary_subquery : (query : Query) → (primary_part k (p.Subquery query) sign).found v ≡ (scalar (query_seen v.clause (query_found k query v.scope)) >>= signed sign)
    primary_subquery query = ap (λ part. part.found v) (node.primary_subquery k sign query) ∙ signed-at sign _
