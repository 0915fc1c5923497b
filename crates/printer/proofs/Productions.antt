-- Each production, from its parts.
use Rattle.std.proofs.Common.{◌≡◌, ◌++◌, ◌-◌, ◌≤◌, ◌==◌, false, ℕ, zero, suc, List, [], ◌∷◌, Option, sym, subst, length, take, drop, get_or, arith}
use Rattle.std.proofs.lemmas.List.{take_all}
use Rattle.ast.specs.declared.tree.Addend.{Addend, out-Addend}
use Rattle.ast.specs.declared.tree.Condition.{Condition, out-Condition}
use Rattle.ast.specs.declared.tree.Conjunction.{Conjunction, out-Conjunction}
use Rattle.ast.specs.declared.tree.Expression.{Expression, out-Expression}
use Rattle.ast.specs.declared.tree.Factor.{Factor, out-Factor}
use Rattle.ast.specs.declared.tree.Join.{Join, out-Join}
use Rattle.ast.specs.declared.tree.Negation.{Negation, out-Negation}
use Rattle.ast.specs.declared.tree.Operand.{Operand, out-Operand}
use Rattle.ast.specs.declared.tree.Predicate.{Predicate, out-Predicate}
use Rattle.ast.specs.declared.tree.Primary.{Primary, out-Primary}
use Rattle.ast.specs.declared.tree.Query.{Query, out-Query}
use Rattle.ast.specs.declared.tree.Select.{Select, out-Select}
use Rattle.ast.specs.declared.tree.SelectItem.{SelectItem, out-SelectItem}
use Rattle.ast.specs.declared.tree.TableReference.{TableReference, out-TableReference}
use Rattle.ast.specs.declared.tree.TableSource.{TableSource, out-TableSource}
use Rattle.ast.specs.declared.tree.Term.{Term, out-Term}
use Rattle.ast.specs.declared.tree.Test.{Test, out-Test}
use Rattle.ast.specs.Layers.{JoinLayer, OperandLayer, PredicateLayer, PrimaryLayer, TableSourceLayer}
use Rattle.ast.specs.Notation.{Tokens, Rule, ◌⨾◌, ◌⊳◌, Maybe, Written, Many, Listed, MaybeListed}
use Rattle.ast.specs.Terminals.{IsAddOperator, IsAlias, IsMultiplyOperator, IsQuantifier, IsSetOperator, IsSign, IsTruthTest}
use Rattle.ast.specs.Expressions.{Nested, IsCondition, IsConjunction, IsExpression, IsFactor, IsNegation, IsPredicate, IsPredicateLayer, IsPrimary, IsPrimaryLayer, IsTerm, IsTest}
use Rattle.ast.specs.Queries.{AreGroups, AreSelectItems, IsAddend, IsFilter, IsHaving, IsJoin, IsJoinLayer, IsOperand, IsOperandLayer, IsQuery, IsSelect, IsSelectItem, IsTableReference, IsTableSource, IsTableSourceLayer}
use Rattle.ast.specs.Grammar.{nested_at}
use Rattle.ast.specs.Words.{ALL, AND, COMMA, FROM, INTERSECT, NOT, OR, SELECT}
use Rattle.printer.specs.Writing.{LimitedRule, Puts, Prints}
use Rattle.printer.proofs.Parts.{◌⨟◌, ended, same, with_condition}

-- ---- what stands between parentheses, one level deeper

-- a rule that holds one level deeper holds of the same tokens
pub deeper : {A : Type 0} (Inside R : LimitedRule A) {x : A} {old new : Tokens}
    → ((limit : Option ℕ) (ts rest : Tokens) → Inside limit (nested_at limit zero) ts x rest → ⊥)
    → ((limit : Option ℕ) (depth : ℕ) (ts rest : Tokens) → Inside limit (nested_at limit (suc depth)) ts x rest → R limit (nested_at limit depth) ts x rest)
    → ((limit : Option ℕ) (depth : ℕ) (ts rest : Tokens) → R limit (nested_at limit depth) ts x rest → Inside limit (nested_at limit (suc depth)) ts x rest)
    → Prints R x old new → Prints Inside x old new
deeper Inside R {x} {old} {new} none from to p = record { kinds = p.kinds; put = p.put; only = only; again = again } where
  only : (limit : Option ℕ) (depth : ℕ) (ts rest : Tokens) → Inside limit (nested_at limit depth) ts x rest → ts ≡ p.kinds ++ rest
  only limit zero ts rest h = absurd (none limit ts rest h)
  only limit (suc depth) ts rest h = p.only limit depth ts rest (from limit depth ts rest h)

  again : (limit : Option ℕ) (depth : ℕ) (ts rest after : Tokens) → Inside limit (nested_at limit depth) ts x rest → Inside limit (nested_at limit depth) (p.kinds ++ after) x after
  again limit zero ts rest after h = absurd (none limit ts rest h)
  again limit (suc depth) ts rest after h = to limit depth _ after (p.again limit depth ts rest after (from limit depth ts rest h))

pub expression_inside : {x : Expression} {old new : Tokens} → Prints IsExpression x old new → Puts (λ limit inner ts rest. inner.expression ts x rest) old new
expression_inside = deeper (λ _ inner. inner.expression) IsExpression (λ _ _ _ h. h) (λ _ _ _ _ h. h) (λ _ _ _ _ h. h)

pub condition_inside : {x : Condition} {old new : Tokens} → Prints IsCondition x old new → Puts (λ limit inner ts rest. inner.condition ts x rest) old new
condition_inside = deeper (λ _ inner. inner.condition) IsCondition (λ _ _ _ h. h) (λ _ _ _ _ h. h) (λ _ _ _ _ h. h)

pub query_inside : {x : Query} {old new : Tokens} → Prints IsQuery x old new → Puts (λ limit inner ts rest. inner.query ts x rest) old new
query_inside = deeper (λ _ inner. inner.query) IsQuery (λ _ _ _ h. h) (λ _ _ _ _ h. h) (λ _ _ _ _ h. h)

-- ---- lists

-- a list with commas, at the end of the loop that put all but its first item
pub listed : {A : Type 0} (R : LimitedRule A) (xs : List A) (first : A) (at : ℕ) {old middle new : Tokens} → 1 ≤ length xs
    → first ≡ get_or xs 0 first → length (take (length xs - 1) (drop 1 xs)) ≤ at → Prints R first old middle
    → Prints (λ limit inner. Many (COMMA ⊳ R limit inner)) (take at (take (length xs - 1) (drop 1 xs))) middle new → Prints (λ limit inner. Listed (R limit inner)) xs old new
listed R [] first at some is end p q = absurd (omega arith)
listed R (x ∷ xs) first at {old} {middle} {new} some is end p q =
    let all : take (length (x ∷ xs) - 1) xs ≡ xs = take_all _ xs (omega arith) in
    subst (λ y. Prints R y old middle) is p ⨟
    subst (λ ys. Prints (λ limit inner. Many (COMMA ⊳ R limit inner)) ys middle new) all (ended (λ limit inner. COMMA ⊳ R limit inner) _ at end q)

-- a list that may be left out, and is not empty
pub some_listed : {A : Type 0} (R : LimitedRule (List A)) (xs : List A) {old new : Tokens} → (length xs == 0) ≡ false
    → Prints R xs old new → Prints (λ limit inner. MaybeListed (R limit inner)) xs old new
some_listed R [] some p = absurd (cc)
some_listed R (x ∷ xs) some p = p

-- ---- expressions

pub primary : {x : Primary} {y : PrimaryLayer} {old new : Tokens} → out-Primary x ≡ y
    → Puts (λ limit inner ts rest. IsPrimaryLayer limit inner ts y rest) old new → Prints IsPrimary x old new
primary {x} {y} is p = same p
    (λ limit inner ts rest h. subst (λ z. IsPrimaryLayer limit inner ts z rest) is h.is)
    (λ limit inner ts rest h. record { is = subst (λ z. IsPrimaryLayer limit inner ts z rest) (sym is) h })

pub factor : {x : Factor} {old n1 new : Tokens} → Prints (λ _ _. Maybe IsSign) (out-Factor x).sign old n1
    → Prints (IsPrimary) (out-Factor x).primary n1 new
    → Prints IsFactor x old new
factor p q = same (p ⨟ q) (λ limit inner ts rest h. h.is) (λ limit inner ts rest h. record { is = h })

pub term : {x : Term} {old middle new : Tokens} → Prints IsFactor (out-Term x).first old middle
    → Prints (λ limit inner. Many (IsMultiplyOperator ⨾ IsFactor limit inner)) (out-Term x).others middle new → Prints IsTerm x old new
term p q = same (with_condition (p ⨟ q)) (λ limit inner ts rest h. h.is) (λ limit inner ts rest h. record { is = h })

pub expression : {x : Expression} {old middle new : Tokens} → Prints IsTerm (out-Expression x).first old middle
    → Prints (λ limit inner. Many (IsAddOperator ⨾ IsTerm limit inner)) (out-Expression x).others middle new → Prints IsExpression x old new
expression p q = same (with_condition (p ⨟ q)) (λ limit inner ts rest h. h.is) (λ limit inner ts rest h. record { is = h })

-- ---- conditions

pub predicate : {x : Predicate} {y : PredicateLayer} {old new : Tokens} → out-Predicate x ≡ y
    → Puts (λ limit inner ts rest. IsPredicateLayer limit inner ts y rest) old new → Prints IsPredicate x old new
predicate {x} {y} is p = same p
    (λ limit inner ts rest h. subst (λ z. IsPredicateLayer limit inner ts z rest) is h.is)
    (λ limit inner ts rest h. record { is = subst (λ z. IsPredicateLayer limit inner ts z rest) (sym is) h })

pub test : {x : Test} {old n1 new : Tokens} → Prints (IsPredicate) (out-Test x).predicate old n1
    → Prints (λ _ _. Maybe IsTruthTest) (out-Test x).truth n1 new
    → Prints IsTest x old new
test p q = same (p ⨟ q) (λ limit inner ts rest h. h.is) (λ limit inner ts rest h. record { is = h })

pub negation : {x : Negation} {old n1 new : Tokens} → Prints (λ _ _. Written NOT) (out-Negation x).is_negated old n1
    → Prints (IsTest) (out-Negation x).test n1 new
    → Prints IsNegation x old new
negation p q = same (p ⨟ q) (λ limit inner ts rest h. h.is) (λ limit inner ts rest h. record { is = h })

pub conjunction : {x : Conjunction} {old middle new : Tokens} → Prints IsNegation (out-Conjunction x).first old middle
    → Prints (λ limit inner. Many (AND ⊳ IsNegation limit inner)) (out-Conjunction x).others middle new → Prints IsConjunction x old new
conjunction p q = same (with_condition (p ⨟ q)) (λ limit inner ts rest h. h.is) (λ limit inner ts rest h. record { is = h })

pub condition : {x : Condition} {old middle new : Tokens} → Prints IsConjunction (out-Condition x).first old middle
    → Prints (λ limit inner. Many (OR ⊳ IsConjunction limit inner)) (out-Condition x).others middle new → Prints IsCondition x old new
condition p q = same (with_condition (p ⨟ q)) (λ limit inner ts rest h. h.is) (λ limit inner ts rest h. record { is = h })

-- ---- queries

pub table_source : {x : TableSource} {y : TableSourceLayer} {old new : Tokens} → out-TableSource x ≡ y
    → Puts (λ limit inner ts rest. IsTableSourceLayer limit inner ts y rest) old new → Prints IsTableSource x old new
table_source {x} {y} is p = same p
    (λ limit inner ts rest h. subst (λ z. IsTableSourceLayer limit inner ts z rest) is h.is)
    (λ limit inner ts rest h. record { is = subst (λ z. IsTableSourceLayer limit inner ts z rest) (sym is) h })

pub join : {x : Join} {y : JoinLayer} {old new : Tokens} → out-Join x ≡ y
    → Puts (λ limit inner ts rest. IsJoinLayer limit inner ts y rest) old new → Prints IsJoin x old new
join {x} {y} is p = same p
    (λ limit inner ts rest h. subst (λ z. IsJoinLayer limit inner ts z rest) is h.is)
    (λ limit inner ts rest h. record { is = subst (λ z. IsJoinLayer limit inner ts z rest) (sym is) h })

pub table_reference : {x : TableReference} {old n1 new : Tokens} → Prints (IsTableSource) (out-TableReference x).first old n1
    → Prints (λ limit inner. Many (IsJoin limit inner)) (out-TableReference x).joins n1 new
    → Prints IsTableReference x old new
table_reference p q = same (p ⨟ q) (λ limit inner ts rest h. h.is) (λ limit inner ts rest h. record { is = h })

pub select_item : {x : SelectItem} {old n1 new : Tokens} → Prints (IsExpression) (out-SelectItem x).value old n1
    → Prints (λ _ _. Maybe IsAlias) (out-SelectItem x).alias n1 new
    → Prints IsSelectItem x old new
select_item p q = same (p ⨟ q) (λ limit inner ts rest h. h.is) (λ limit inner ts rest h. record { is = h })

pub select : {x : Select} {old n1 n2 n3 n4 n5 n6 n7 new : Tokens} → Puts (λ _ _ ts rest. ts ≡ SELECT ∷ rest) old n1
    → Prints (λ _ _. Maybe IsQuantifier) (out-Select x).quantifier n1 n2 → Prints AreSelectItems (out-Select x).items n2 n3
    → Puts (λ _ _ ts rest. ts ≡ FROM ∷ rest) n3 n4 → Prints (λ limit inner. Listed (IsTableReference limit inner)) (out-Select x).from n4 n5
    → Prints IsFilter (out-Select x).filter n5 n6 → Prints AreGroups (out-Select x).groups n6 n7
    → Prints IsHaving (out-Select x).having n7 new → Prints IsSelect x old new
select word quantifier items from tables filter groups having =
    same ((word ⨟ quantifier) ⨟ items ⨟ (from ⨟ tables) ⨟ filter ⨟ groups ⨟ having) (λ limit inner ts rest h. h.is) (λ limit inner ts rest h. record { is = h })

pub operand : {x : Operand} {y : OperandLayer} {old new : Tokens} → out-Operand x ≡ y
    → Puts (λ limit inner ts rest. IsOperandLayer limit inner ts y rest) old new → Prints IsOperand x old new
operand {x} {y} is p = same p
    (λ limit inner ts rest h. subst (λ z. IsOperandLayer limit inner ts z rest) is h.is)
    (λ limit inner ts rest h. record { is = subst (λ z. IsOperandLayer limit inner ts z rest) (sym is) h })

pub addend : {x : Addend} {old middle new : Tokens} → Prints IsOperand (out-Addend x).first old middle
    → Prints (λ limit inner. Many (INTERSECT ⊳ Written ALL ⨾ IsOperand limit inner)) (out-Addend x).others middle new → Prints IsAddend x old new
addend p q = same (with_condition (p ⨟ q)) (λ limit inner ts rest h. h.is) (λ limit inner ts rest h. record { is = h })

pub query : {x : Query} {old middle new : Tokens} → Prints IsAddend (out-Query x).first old middle
    → Prints (λ limit inner. Many (IsSetOperator ⨾ IsAddend limit inner)) (out-Query x).others middle new → Prints IsQuery x old new
query p q = same (with_condition (with_condition (p ⨟ q))) (λ limit inner ts rest h. (h.is, h.not_lone))
    (λ limit inner ts rest h. record { is = h.0; not_lone = h.1 })
