-- The grammar of expressions and conditions.
-- ISO/IEC 9075:1992, 6.5 <set function specification>, 6.11 to 6.13 <value expression>, 7.11
-- <scalar subquery>, 8.1 to 8.6 and 8.8 <predicate>, 8.12 <search condition>. Our own choices:
-- `+ - ||` are one level, the chains have a limit, IN has literals or a query, a row has one value,
-- and there is no ESCAPE, CASE, CAST, function, ANY and ALL, UNIQUE, MATCH and OVERLAPS.
use Rattle.std.specs.Prelude.{◌≡◌, ℕ, ◌<◌, List, ◌∷◌, length, Option, Some, None}
use Rattle.ast.specs.declared.tree.Condition.{Condition, out-Condition}
use Rattle.ast.specs.declared.tree.Conjunction.{Conjunction, out-Conjunction}
use Rattle.ast.specs.declared.tree.Expression.{Expression, out-Expression}
use Rattle.ast.specs.declared.tree.Factor.{Factor, out-Factor}
use Rattle.ast.specs.declared.tree.Negation.{Negation, out-Negation}
use Rattle.ast.specs.declared.tree.Predicate.{Predicate, Predicate-F, out-Predicate}
use Rattle.ast.specs.declared.tree.Primary.{Primary, Primary-F, out-Primary}
use Rattle.ast.specs.declared.tree.Query.{Query}
use Rattle.ast.specs.declared.tree.Term.{Term, out-Term}
use Rattle.ast.specs.declared.tree.Test.{Test, out-Test}
use Rattle.ast.specs.Layers.{PredicateLayer, PrimaryLayer}
use Rattle.ast.specs.Notation.{Tokens, Rule, ◌⨾◌, ◌⊳◌, ◌⊲◌, Parenthesized, Maybe, Written, Many, Listed}
use Rattle.ast.specs.Terminals.{IsAddOperator, IsColumn, IsComparison, IsLiteral, IsMultiplyOperator, IsNumber, IsQuantifier, IsSetFunction, IsSign, IsString, IsTruthTest}
use Rattle.ast.specs.Words.{AND, ASTERISK, BETWEEN, COUNT, EXISTS, IN, IS, LEFT_PARENTHESIS, LIKE, NOT, NULL, OR, RIGHT_PARENTHESIS}

-- whether a chain may have so many operands after its first: any number, or fewer than the limit
abbrev pub Within : Option ℕ → ℕ → Type 0
Within None others = Unit {0}
Within (Some limit) others = others < limit

-- A {B}, where the limit of chains allows so many B
abbrev pub Chain : {A B : Type 0} → Option ℕ → Rule A → Rule B → Rule (A × List B)
Chain limit A B ts x rest = (A ⨾ Many B) ts x rest × Within limit (length x.1)

-- the rules of what stands between parentheses
pub record Nested : Type 1 where
  pub expression : Rule Expression
  pub condition : Rule Condition
  pub query : Rule Query

-- over the greatest number of operands in a chain, if there is one, and the rules of what stands
-- between parentheses
module _ (limit : Option ℕ) (inner : Nested) where
  -- primary = number | string | column | setfn | ( expr ) | ( query )
  -- setfn   = COUNT ( * ) | (COUNT|SUM|AVG|MIN|MAX) ( [ALL | DISTINCT] expr )
  abbrev pub IsPrimaryLayer : Rule PrimaryLayer
  IsPrimaryLayer ts (Primary-F.Number x) rest = IsNumber ts x rest
  IsPrimaryLayer ts (Primary-F.Text x) rest = IsString ts x rest
  IsPrimaryLayer ts (Primary-F.Column x) rest = IsColumn ts x rest
  IsPrimaryLayer ts Primary-F.CountRows rest = ts ≡ COUNT ∷ LEFT_PARENTHESIS ∷ ASTERISK ∷ RIGHT_PARENTHESIS ∷ rest
  IsPrimaryLayer ts (Primary-F.Aggregate function quantifier x) rest =
      (IsSetFunction ⨾ Parenthesized (Maybe IsQuantifier ⨾ inner.expression)) ts (function, (quantifier, x)) rest
  IsPrimaryLayer ts (Primary-F.Parenthesized x) rest = Parenthesized inner.expression ts x rest
  IsPrimaryLayer ts (Primary-F.Subquery x) rest = Parenthesized inner.query ts x rest

  pub record IsPrimary (ts : Tokens) (x : Primary) (rest : Tokens) : Type 0 where
    pub is : IsPrimaryLayer ts (out-Primary x) rest

  -- factor = [+ | -] primary
  pub record IsFactor (ts : Tokens) (x : Factor) (rest : Tokens) : Type 0 where
    pub is : (Maybe IsSign ⨾ IsPrimary) ts ((out-Factor x).sign, (out-Factor x).primary) rest

  -- term = factor {(* | /) factor}
  pub record IsTerm (ts : Tokens) (x : Term) (rest : Tokens) : Type 0 where
    pub is : Chain limit IsFactor (IsMultiplyOperator ⨾ IsFactor) ts ((out-Term x).first, (out-Term x).others) rest

  -- expr = term {(+ | - | ||) term}
  pub record IsExpression (ts : Tokens) (x : Expression) (rest : Tokens) : Type 0 where
    pub is : Chain limit IsTerm (IsAddOperator ⨾ IsTerm) ts ((out-Expression x).first, (out-Expression x).others) rest

  -- ( cond ) | predicate
  -- predicate = expr (= | <> | < | > | <= | >=) expr | expr [NOT] BETWEEN expr AND expr
  --           | expr [NOT] IN ( literal {, literal} ) | expr [NOT] IN ( query ) | expr [NOT] LIKE expr
  --           | expr IS [NOT] NULL | EXISTS ( query )
  abbrev pub IsPredicateLayer : Rule PredicateLayer
  IsPredicateLayer ts (Predicate-F.Nested x) rest = Parenthesized inner.condition ts x rest
  IsPredicateLayer ts (Predicate-F.Compare x op y) rest = (IsExpression ⨾ IsComparison ⨾ IsExpression) ts (x, (op, y)) rest
  IsPredicateLayer ts (Predicate-F.Between x not low high) rest =
      (IsExpression ⨾ Written NOT ⨾ BETWEEN ⊳ IsExpression ⨾ AND ⊳ IsExpression) ts (x, (not, (low, high))) rest
  IsPredicateLayer ts (Predicate-F.InList x not list) rest =
      (IsExpression ⨾ Written NOT ⨾ IN ⊳ Parenthesized (Listed IsLiteral)) ts (x, (not, list)) rest
  IsPredicateLayer ts (Predicate-F.InQuery x not query) rest =
      (IsExpression ⨾ Written NOT ⨾ IN ⊳ Parenthesized inner.query) ts (x, (not, query)) rest
  IsPredicateLayer ts (Predicate-F.Like x not pattern) rest = (IsExpression ⨾ Written NOT ⨾ LIKE ⊳ IsExpression) ts (x, (not, pattern)) rest
  IsPredicateLayer ts (Predicate-F.IsNull x not) rest = (IsExpression ⨾ IS ⊳ Written NOT ⊲ NULL) ts (x, not) rest
  IsPredicateLayer ts (Predicate-F.Exists query) rest = (EXISTS ⊳ Parenthesized inner.query) ts query rest

  pub record IsPredicate (ts : Tokens) (x : Predicate) (rest : Tokens) : Type 0 where
    pub is : IsPredicateLayer ts (out-Predicate x) rest

  -- test = ( ( cond ) | predicate ) [IS [NOT] (TRUE | FALSE | UNKNOWN)]
  pub record IsTest (ts : Tokens) (x : Test) (rest : Tokens) : Type 0 where
    pub is : (IsPredicate ⨾ Maybe IsTruthTest) ts ((out-Test x).predicate, (out-Test x).truth) rest

  -- neg = [NOT] test
  pub record IsNegation (ts : Tokens) (x : Negation) (rest : Tokens) : Type 0 where
    pub is : (Written NOT ⨾ IsTest) ts ((out-Negation x).is_negated, (out-Negation x).test) rest

  -- conj = neg {AND neg}
  pub record IsConjunction (ts : Tokens) (x : Conjunction) (rest : Tokens) : Type 0 where
    pub is : Chain limit IsNegation (AND ⊳ IsNegation) ts ((out-Conjunction x).first, (out-Conjunction x).others) rest

  -- cond = conj {OR conj}
  pub record IsCondition (ts : Tokens) (x : Condition) (rest : Tokens) : Type 0 where
    pub is : Chain limit IsConjunction (OR ⊳ IsConjunction) ts ((out-Condition x).first, (out-Condition x).others) rest
