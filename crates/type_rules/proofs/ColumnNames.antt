-- The column that an expression is, where it is one alone.
use Rattle.std.proofs.Common.{◌≡◌, refl, ap, ◌∙◌, ℕ, List, [], ◌∷◌, map, Option, Some, None}
use Rattle.ast.specs.declared.operator.AddOperator.{AddOperator}
use Rattle.ast.specs.declared.operator.Column.{Column}
use Rattle.ast.specs.declared.operator.MultiplyOperator.{MultiplyOperator}
use Rattle.ast.specs.declared.operator.Quantifier.{Quantifier}
use Rattle.ast.specs.declared.operator.SetFunction.{SetFunction}
use Rattle.ast.specs.declared.operator.Sign.{Sign}
use Rattle.ast.specs.declared.tree.Expression.{Expression, out-Expression}
use Rattle.ast.specs.declared.tree.Factor.{Factor, out-Factor}
use Rattle.ast.specs.declared.tree.Primary.{Primary}
use Rattle.ast.specs.declared.tree.Primary.TheVariants as p
use Rattle.ast.specs.declared.tree.Query.{Query}
use Rattle.ast.specs.declared.tree.Term.{Term, out-Term}
use Rattle.typing.specs.declared.scope.TypedExpression.{TypedExpression}
use Rattle.typing.specs.Finding.{Finding}
use Rattle.typing.specs.Known.{Known}
use Rattle.typing.specs.Part.{Part, if_chain}
use Rattle.typing.specs.Expression.{sum_chain, product_chain}
use Rattle.typing.specs.Typing.{expression_part, term_part, factor_part, primary_part, with_sign}
use Rattle.typing.proofs.Nodes as node

chain_alone : {O T A : Type 0} (made : Finding A → List (O × Finding A) → Finding A) (first : Part A) (part : T → Part A) (others : List (O × T)) → others ≡ [] →
    (if_chain made first (map {B = O × Part A} (λ o. (o.0, part o.1)) others)).name ≡ first.name
chain_alone made first part [] e = refl
chain_alone made first part (x ∷ others) e = absurd (cc e)

chain_longer : {O T A : Type 0} (made : Finding A → List (O × Finding A) → Finding A) (first : Part A) (part : T → Part A) (others : List (O × T)) → (others ≡ [] → ⊥) →
    (if_chain made first (map {B = O × Part A} (λ o. (o.0, part o.1)) others)).name ≡ None
chain_longer made first part [] n = absurd (n refl)
chain_longer made first part (x ∷ others) n = refl

module _ (k : Known) where
  abbrev column_name : Expression → Option (List ℕ)
  column_name tree = (expression_part k tree).name

  abbrev term_column : Term → Option (List ℕ)
  term_column tree = (term_part k tree).name

  abbrev factor_column : Factor → Option (List ℕ)
  factor_column tree = (factor_part k tree).name

  pub expression_alone : (tree : Expression) → (out-Expression tree).others ≡ [] → column_name tree ≡ term_column (out-Expression tree).first
  expression_alone tree e =
      ap (λ part. part.name) (node.expression_is k tree)
      ∙ chain_alone sum_chain (term_part k (out-Expression tree).first) (term_part k) (out-Expression tree).others e

  pub expression_longer : (tree : Expression) → ((out-Expression tree).others ≡ [] → ⊥) → column_name tree ≡ None
  expression_longer tree n =
      ap (λ part. part.name) (node.expression_is k tree)
      ∙ chain_longer sum_chain (term_part k (out-Expression tree).first) (term_part k) (out-Expression tree).others n

  pub term_alone : (tree : Term) → (out-Term tree).others ≡ [] → term_column tree ≡ factor_column (out-Term tree).first
  term_alone tree e =
      ap (λ part. part.name) (node.term_is k tree)
      ∙ chain_alone product_chain (factor_part k (out-Term tree).first) (factor_part k) (out-Term tree).others e

  pub term_longer : (tree : Term) → ((out-Term tree).others ≡ [] → ⊥) → term_column tree ≡ None
  term_longer tree n =
      ap (λ part. part.name) (node.term_is k tree)
      ∙ chain_longer product_chain (factor_part k (out-Term tree).first) (factor_part k) (out-Term tree).others n

  no_name : (sign : Option Sign) (x : Part TypedExpression) → x.name ≡ None → (with_sign x sign).name ≡ None
  no_name None x e = e
  no_name (Some sign) x e = refl

  module _ (tree : Factor) where
    by_primary : (sign : Option Sign) (primary : Primary) → (out-Factor tree).sign ≡ sign → (out-Factor tree).primary ≡ primary → factor_column tree ≡ (primary_part k primary sign).name
    by_primary sign primary e f = ap (λ part. part.name) (node.factor_is k tree) ∙ rw (e, f) refl

    pub column_alone : (column : Column) → (out-Factor tree).primary ≡ p.Column column → (out-Factor tree).sign ≡ None → factor_column tree ≡ Some column.name
    column_alone column f e = by_primary None (p.Column column) e f ∙ ap (λ part. part.name) (node.primary_column k None column)

    pub column_signed : (column : Column) (sign : Sign) → (out-Factor tree).primary ≡ p.Column column → (out-Factor tree).sign ≡ Some sign → factor_column tree ≡ None
    column_signed column sign f e = by_primary (Some sign) (p.Column column) e f ∙ ap (λ part. part.name) (node.primary_column k (Some sign) column)

    pub number_alone : (number : ℕ) → (out-Factor tree).primary ≡ p.Number number → factor_column tree ≡ None
    number_alone number f = by_primary (out-Factor tree).sign (p.Number number) refl f ∙ ap (λ part. part.name) (node.primary_number k (out-Factor tree).sign number)

    pub text_alone : (codes : List ℕ) → (out-Factor tree).primary ≡ p.Text codes → factor_column tree ≡ None
    text_alone codes f = by_primary (out-Factor tree).sign (p.Text codes) refl f ∙ ap (λ part. part.name) (node.primary_text k (out-Factor tree).sign codes) ∙ no_name (out-Factor tree).sign _ refl

    pub count_alone : (out-Factor tree).primary ≡ p.CountRows → factor_column tree ≡ None
    count_alone f = by_primary (out-Factor tree).sign p.CountRows refl f ∙ ap (λ part. part.name) (node.primary_count_rows k (out-Factor tree).sign) ∙ no_name (out-Factor tree).sign _ refl

    pub aggregate_alone : (function : SetFunction) (quantifier : Option Quantifier) (x : Expression) → (out-Factor tree).primary ≡ p.Aggregate function quantifier x → factor_column tree ≡ None
    aggregate_alone function quantifier x f =
        by_primary (out-Factor tree).sign (p.Aggregate function quantifier x) refl f
        ∙ ap (λ part. part.name) (node.primary_aggregate k (out-Factor tree).sign function quantifier x) ∙ no_name (out-Factor tree).sign _ refl

    pub parenthesized_alone : (x : Expression) → (out-Factor tree).primary ≡ p.Parenthesized x → factor_column tree ≡ None
    parenthesized_alone x f =
        by_primary (out-Factor tree).sign (p.Parenthesized x) refl f
        ∙ ap (λ part. part.name) (node.primary_parenthesized k (out-Factor tree).sign x) ∙ no_name (out-Factor tree).sign _ refl

    pub subquery_alone : (query : Query) → (out-Factor tree).primary ≡ p.Subquery query → factor_column tree ≡ None
    subquery_alone query f =
        by_primary (out-Factor tree).sign (p.Subquery query) refl f
        ∙ ap (λ part. part.name) (node.primary_subquery k (out-Factor tree).sign query) ∙ no_name (out-Factor tree).sign _ refl

pub ruleset name_steps = (expression_alone, expression_longer, term_alone, term_longer)

pub ruleset factor_steps = (column_alone, column_signed, number_alone, text_alone, count_alone, aggregate_alone, parenthesized_alone, subquery_alone)
