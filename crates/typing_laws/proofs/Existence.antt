-- Every SELECT has a list of its set functions: by induction over the trees.
use Rattle.std.proofs.Common.{◌≡◌, refl, sym as flip, subst, Bool, true, false, List, [], ◌∷◌, ◌++◌, map, Option, Some, None, rules}
use Rattle.std.specs.List.{AllByRecursion}
use Rattle.ast.specs.declared.tree.Join.{Join, Join-F, roll-Join, map-Join}
use Rattle.ast.specs.declared.tree.Operand.{Operand, Operand-F, roll-Operand, map-Operand}
use Rattle.ast.specs.declared.tree.Predicate.{Predicate, Predicate-F, roll-Predicate, map-Predicate, out-Predicate}
use Rattle.ast.specs.declared.tree.Primary.{Primary, Primary-F, roll-Primary, map-Primary, out-Primary, the_lemmas}
use Rattle.ast.specs.declared.tree.TableSource.{TableSource, TableSource-F, roll-TableSource, map-TableSource}
use Rattle.ast.specs.declared.tree.Addend.{Addend, Addend-F, roll-Addend, map-Addend}
use Rattle.ast.specs.declared.tree.Condition.{Condition, Condition-F, roll-Condition, map-Condition, ind-Condition}
use Rattle.ast.specs.declared.tree.Conjunction.{Conjunction, Conjunction-F, roll-Conjunction, map-Conjunction}
use Rattle.ast.specs.declared.tree.Expression.{Expression, Expression-F, roll-Expression, map-Expression}
use Rattle.ast.specs.declared.tree.Factor.{Factor, Factor-F, roll-Factor, map-Factor}
use Rattle.ast.specs.declared.tree.Negation.{Negation, Negation-F, roll-Negation, map-Negation}
use Rattle.ast.specs.declared.tree.Query.{Query, Query-F, roll-Query, map-Query}
use Rattle.ast.specs.declared.tree.Select.{Select, Select-F, out-Select, roll-Select, map-Select}
use Rattle.ast.specs.declared.tree.SelectItem.{SelectItem, SelectItem-F, roll-SelectItem, map-SelectItem, ind-SelectItem}
use Rattle.ast.specs.declared.tree.TableReference.{TableReference, TableReference-F, roll-TableReference, map-TableReference}
use Rattle.ast.specs.declared.tree.Term.{Term, Term-F, roll-Term, map-Term}
use Rattle.ast.specs.declared.tree.Test.{Test, Test-F, roll-Test, map-Test}
use Rattle.ast.specs.Parts.{Node as AnyNode, parts, selected_parts, written, predicate_parts as parts_of_predicate, primary_parts as parts_of_primary}
use Rattle.ast.specs.Parts as node
use Rattle.typing.proofs.Nodes.{out_condition, out_conjunction, out_expression, out_factor, out_negation, out_selectitem, out_term, out_test}
use Rattle.typing_laws.specs.Listed.{Lists, is_set_function, is_looked_into, shown_nodes}
use Rattle.typing_laws.specs.Listed as lists

out_predicate : (x : _) → out-Predicate (roll-Predicate x) ≡ x
out_predicate x = search (rules, the_lemmas)

out_primary : (x : _) → out-Primary (roll-Primary x) ≡ x
out_primary x = search (rules, the_lemmas)

-- with a list for what follows a node, there is one from the node on
abbrev Walked : AnyNode → Type 0
Walked x = (nodes : List AnyNode) (found : List Primary) → Lists nodes found → (all : List Primary) × Lists (x ∷ nodes) all

walked_all : (xs : List AnyNode) → AllByRecursion Walked xs → (nodes : List AnyNode) (found : List Primary) → Lists nodes found → (all : List Primary) × Lists (xs ++ nodes) all
walked_all [] h nodes found l = (found, l)
walked_all (x ∷ xs) h nodes found l = let rest = walked_all xs h.1 nodes found l in h.0 (xs ++ nodes) rest.0 rest.1

looked : (x : AnyNode) → is_looked_into x ≡ true → AllByRecursion Walked (parts x) → Walked x
looked x e h nodes found l = let all = walked_all (parts x) h nodes found l in (all.0, lists.parted x nodes all.0 e all.1)

query_walked : (x : Query) → Walked (node.query x)
query_walked x nodes found l = (found, lists.passed x nodes found l)

module _ {T : Type 0} (at : T → AnyNode) where
  parts_walked : (ys : List ((t : T) × Walked (at t))) → AllByRecursion Walked (map at (map (λ y. y.0) ys))
  parts_walked [] = tt
  parts_walked (y ∷ ys) = (y.1, parts_walked ys)

  operands_walked : {O : Type 0} (ys : List (O × ((t : T) × Walked (at t)))) → AllByRecursion Walked (map (λ o. at o.1) (map {B = O × T} (λ o. (o.0, (o.1).0)) ys))
  operands_walked [] = tt
  operands_walked (y ∷ ys) = ((y.1).1, operands_walked ys)

-- ---- what is known of each tree

abbrev KnownJoin : Join → Type 0
KnownJoin t = Unit {0}

abbrev KnownOperand : Operand → Type 0
KnownOperand t = Unit {0}

abbrev KnownPredicate : Predicate → Type 0
KnownPredicate t = Walked (node.predicate t)

abbrev KnownPrimary : Primary → Type 0
KnownPrimary t = Walked (node.primary t)

abbrev KnownTableSource : TableSource → Type 0
KnownTableSource t = Unit {0}

abbrev KnownAddend : Addend → Type 0
KnownAddend t = Unit {0}

abbrev KnownCondition : Condition → Type 0
KnownCondition t = Walked (node.condition t)

abbrev KnownConjunction : Conjunction → Type 0
KnownConjunction t = Walked (node.conjunction t)

abbrev KnownExpression : Expression → Type 0
KnownExpression t = Walked (node.expression t)

abbrev KnownFactor : Factor → Type 0
KnownFactor t = Walked (node.factor t)

abbrev KnownNegation : Negation → Type 0
KnownNegation t = Walked (node.negation t)

abbrev KnownQuery : Query → Type 0
KnownQuery t = Unit {0}

abbrev KnownSelect : Select → Type 0
KnownSelect t = Unit {0}

abbrev KnownSelectItem : SelectItem → Type 0
KnownSelectItem t = Walked (node.select_item t)

abbrev KnownTableReference : TableReference → Type 0
KnownTableReference t = Unit {0}

abbrev KnownTerm : Term → Type 0
KnownTerm t = Walked (node.term t)

abbrev KnownTest : Test → Type 0
KnownTest t = Walked (node.test t)

-- a node of trees, and one of trees each with what is known of it
abbrev Layer : ((A B C D E F G H I J K L M N O P Q : Type 0) → Type 0) → Type 0
Layer T = T Join Operand Predicate Primary TableSource Addend Condition Conjunction Expression Factor Negation Query Select SelectItem TableReference Term Test

abbrev Parts : ((A B C D E F G H I J K L M N O P Q : Type 0) → Type 0) → Type 0
Parts T =
    T ((t : Join) × KnownJoin t) ((t : Operand) × KnownOperand t) ((t : Predicate) × KnownPredicate t) ((t : Primary) × KnownPrimary t) ((t : TableSource) × KnownTableSource t) ((t : Addend) × KnownAddend t) ((t : Condition) × KnownCondition t) ((t : Conjunction) × KnownConjunction t) ((t : Expression) × KnownExpression t) ((t : Factor) × KnownFactor t) ((t : Negation) × KnownNegation t) ((t : Query) × KnownQuery t) ((t : Select) × KnownSelect t) ((t : SelectItem) × KnownSelectItem t) ((t : TableReference) × KnownTableReference t) ((t : Term) × KnownTerm t) ((t : Test) × KnownTest t)

abbrev predicate_of : Parts Predicate-F → Layer Predicate-F
predicate_of y = map-Predicate _ _ _ _ _ _ _ _ _ _ _ _ _ _ _ _ _ _ _ _ _ _ _ _ _ _ _ _ _ _ _ _ _ _ (λ p. p.0) (λ p. p.0) (λ p. p.0) (λ p. p.0) (λ p. p.0) (λ p. p.0) (λ p. p.0) (λ p. p.0) (λ p. p.0) (λ p. p.0) (λ p. p.0) (λ p. p.0) (λ p. p.0) (λ p. p.0) (λ p. p.0) (λ p. p.0) (λ p. p.0) y

abbrev primary_of : Parts Primary-F → Layer Primary-F
primary_of y = map-Primary _ _ _ _ _ _ _ _ _ _ _ _ _ _ _ _ _ _ _ _ _ _ _ _ _ _ _ _ _ _ _ _ _ _ (λ p. p.0) (λ p. p.0) (λ p. p.0) (λ p. p.0) (λ p. p.0) (λ p. p.0) (λ p. p.0) (λ p. p.0) (λ p. p.0) (λ p. p.0) (λ p. p.0) (λ p. p.0) (λ p. p.0) (λ p. p.0) (λ p. p.0) (λ p. p.0) (λ p. p.0) y

abbrev condition_of : Parts Condition-F → Layer Condition-F
condition_of y = map-Condition _ _ _ _ _ _ _ _ _ _ _ _ _ _ _ _ _ _ _ _ _ _ _ _ _ _ _ _ _ _ _ _ _ _ (λ p. p.0) (λ p. p.0) (λ p. p.0) (λ p. p.0) (λ p. p.0) (λ p. p.0) (λ p. p.0) (λ p. p.0) (λ p. p.0) (λ p. p.0) (λ p. p.0) (λ p. p.0) (λ p. p.0) (λ p. p.0) (λ p. p.0) (λ p. p.0) (λ p. p.0) y

abbrev conjunction_of : Parts Conjunction-F → Layer Conjunction-F
conjunction_of y = map-Conjunction _ _ _ _ _ _ _ _ _ _ _ _ _ _ _ _ _ _ _ _ _ _ _ _ _ _ _ _ _ _ _ _ _ _ (λ p. p.0) (λ p. p.0) (λ p. p.0) (λ p. p.0) (λ p. p.0) (λ p. p.0) (λ p. p.0) (λ p. p.0) (λ p. p.0) (λ p. p.0) (λ p. p.0) (λ p. p.0) (λ p. p.0) (λ p. p.0) (λ p. p.0) (λ p. p.0) (λ p. p.0) y

abbrev expression_of : Parts Expression-F → Layer Expression-F
expression_of y = map-Expression _ _ _ _ _ _ _ _ _ _ _ _ _ _ _ _ _ _ _ _ _ _ _ _ _ _ _ _ _ _ _ _ _ _ (λ p. p.0) (λ p. p.0) (λ p. p.0) (λ p. p.0) (λ p. p.0) (λ p. p.0) (λ p. p.0) (λ p. p.0) (λ p. p.0) (λ p. p.0) (λ p. p.0) (λ p. p.0) (λ p. p.0) (λ p. p.0) (λ p. p.0) (λ p. p.0) (λ p. p.0) y

abbrev factor_of : Parts Factor-F → Layer Factor-F
factor_of y = map-Factor _ _ _ _ _ _ _ _ _ _ _ _ _ _ _ _ _ _ _ _ _ _ _ _ _ _ _ _ _ _ _ _ _ _ (λ p. p.0) (λ p. p.0) (λ p. p.0) (λ p. p.0) (λ p. p.0) (λ p. p.0) (λ p. p.0) (λ p. p.0) (λ p. p.0) (λ p. p.0) (λ p. p.0) (λ p. p.0) (λ p. p.0) (λ p. p.0) (λ p. p.0) (λ p. p.0) (λ p. p.0) y

abbrev negation_of : Parts Negation-F → Layer Negation-F
negation_of y = map-Negation _ _ _ _ _ _ _ _ _ _ _ _ _ _ _ _ _ _ _ _ _ _ _ _ _ _ _ _ _ _ _ _ _ _ (λ p. p.0) (λ p. p.0) (λ p. p.0) (λ p. p.0) (λ p. p.0) (λ p. p.0) (λ p. p.0) (λ p. p.0) (λ p. p.0) (λ p. p.0) (λ p. p.0) (λ p. p.0) (λ p. p.0) (λ p. p.0) (λ p. p.0) (λ p. p.0) (λ p. p.0) y

abbrev item_of : Parts SelectItem-F → Layer SelectItem-F
item_of y = map-SelectItem _ _ _ _ _ _ _ _ _ _ _ _ _ _ _ _ _ _ _ _ _ _ _ _ _ _ _ _ _ _ _ _ _ _ (λ p. p.0) (λ p. p.0) (λ p. p.0) (λ p. p.0) (λ p. p.0) (λ p. p.0) (λ p. p.0) (λ p. p.0) (λ p. p.0) (λ p. p.0) (λ p. p.0) (λ p. p.0) (λ p. p.0) (λ p. p.0) (λ p. p.0) (λ p. p.0) (λ p. p.0) y

abbrev term_of : Parts Term-F → Layer Term-F
term_of y = map-Term _ _ _ _ _ _ _ _ _ _ _ _ _ _ _ _ _ _ _ _ _ _ _ _ _ _ _ _ _ _ _ _ _ _ (λ p. p.0) (λ p. p.0) (λ p. p.0) (λ p. p.0) (λ p. p.0) (λ p. p.0) (λ p. p.0) (λ p. p.0) (λ p. p.0) (λ p. p.0) (λ p. p.0) (λ p. p.0) (λ p. p.0) (λ p. p.0) (λ p. p.0) (λ p. p.0) (λ p. p.0) y

abbrev test_of : Parts Test-F → Layer Test-F
test_of y = map-Test _ _ _ _ _ _ _ _ _ _ _ _ _ _ _ _ _ _ _ _ _ _ _ _ _ _ _ _ _ _ _ _ _ _ (λ p. p.0) (λ p. p.0) (λ p. p.0) (λ p. p.0) (λ p. p.0) (λ p. p.0) (λ p. p.0) (λ p. p.0) (λ p. p.0) (λ p. p.0) (λ p. p.0) (λ p. p.0) (λ p. p.0) (λ p. p.0) (λ p. p.0) (λ p. p.0) (λ p. p.0) y

-- ---- the parts of each node

predicate_walked : (y : Parts Predicate-F) → AllByRecursion Walked (parts_of_predicate (predicate_of y))
predicate_walked (Predicate-F.Nested c) = (c.1, tt)
predicate_walked (Predicate-F.Compare a operator b) = (a.1, (b.1, tt))
predicate_walked (Predicate-F.Between a n low high) = (a.1, (low.1, (high.1, tt)))
predicate_walked (Predicate-F.InList a n literals) = (a.1, tt)
predicate_walked (Predicate-F.InQuery a n query) = (a.1, (query_walked query.0, tt))
predicate_walked (Predicate-F.Like a n b) = (a.1, (b.1, tt))
predicate_walked (Predicate-F.IsNull a n) = (a.1, tt)
predicate_walked (Predicate-F.Exists query) = (query_walked query.0, tt)

primary_walked : (y : Parts Primary-F) → is_set_function (primary_of y) ≡ false → AllByRecursion Walked (parts_of_primary (primary_of y))
primary_walked (Primary-F.Number number) e = tt
primary_walked (Primary-F.Text codes) e = tt
primary_walked (Primary-F.Column column) e = tt
primary_walked Primary-F.CountRows e = tt
primary_walked (Primary-F.Aggregate function quantifier x) e = (x.1, tt)
primary_walked (Primary-F.Parenthesized x) e = (x.1, tt)
primary_walked (Primary-F.Subquery query) e = (query_walked query.0, tt)

primary_either : (x : Primary) → (is_set_function (out-Primary x) ≡ false → AllByRecursion Walked (parts_of_primary (out-Primary x))) → Walked (node.primary x)
primary_either x inside = by (is_set_function (out-Primary x)) refl
  where
    by : (b : Bool) → is_set_function (out-Primary x) ≡ b → Walked (node.primary x)
    by true e = λ nodes found l. (x ∷ found, lists.one x nodes found e l)
    by false e = looked (node.primary x) (rw e refl) (inside e)

-- ---- the trees

join_node : (x : Layer Join-F) (y : Parts Join-F) → map-Join _ _ _ _ _ _ _ _ _ _ _ _ _ _ _ _ _ _ _ _ _ _ _ _ _ _ _ _ _ _ _ _ _ _ (λ p. p.0) (λ p. p.0) (λ p. p.0) (λ p. p.0) (λ p. p.0) (λ p. p.0) (λ p. p.0) (λ p. p.0) (λ p. p.0) (λ p. p.0) (λ p. p.0) (λ p. p.0) (λ p. p.0) (λ p. p.0) (λ p. p.0) (λ p. p.0) (λ p. p.0) y ≡ x → KnownJoin (roll-Join x)
join_node x y is = tt

operand_node : (x : Layer Operand-F) (y : Parts Operand-F) → map-Operand _ _ _ _ _ _ _ _ _ _ _ _ _ _ _ _ _ _ _ _ _ _ _ _ _ _ _ _ _ _ _ _ _ _ (λ p. p.0) (λ p. p.0) (λ p. p.0) (λ p. p.0) (λ p. p.0) (λ p. p.0) (λ p. p.0) (λ p. p.0) (λ p. p.0) (λ p. p.0) (λ p. p.0) (λ p. p.0) (λ p. p.0) (λ p. p.0) (λ p. p.0) (λ p. p.0) (λ p. p.0) y ≡ x → KnownOperand (roll-Operand x)
operand_node x y is = tt

predicate_node : (x : Layer Predicate-F) (y : Parts Predicate-F) → predicate_of y ≡ x → KnownPredicate (roll-Predicate x)
predicate_node x y is = subst (λ (z : Layer Predicate-F). KnownPredicate (roll-Predicate z)) is (looked (node.predicate (roll-Predicate (predicate_of y))) refl (rw (out_predicate (predicate_of y)) (predicate_walked y)))

primary_node : (x : Layer Primary-F) (y : Parts Primary-F) → primary_of y ≡ x → KnownPrimary (roll-Primary x)
primary_node x y is = subst (λ (z : Layer Primary-F). KnownPrimary (roll-Primary z)) is (primary_either (roll-Primary (primary_of y)) (rw (out_primary (primary_of y)) (λ e. primary_walked y e)))

source_node : (x : Layer TableSource-F) (y : Parts TableSource-F) → map-TableSource _ _ _ _ _ _ _ _ _ _ _ _ _ _ _ _ _ _ _ _ _ _ _ _ _ _ _ _ _ _ _ _ _ _ (λ p. p.0) (λ p. p.0) (λ p. p.0) (λ p. p.0) (λ p. p.0) (λ p. p.0) (λ p. p.0) (λ p. p.0) (λ p. p.0) (λ p. p.0) (λ p. p.0) (λ p. p.0) (λ p. p.0) (λ p. p.0) (λ p. p.0) (λ p. p.0) (λ p. p.0) y ≡ x → KnownTableSource (roll-TableSource x)
source_node x y is = tt

addend_node : (x : Layer Addend-F) (y : Parts Addend-F) → map-Addend _ _ _ _ _ _ _ _ _ _ _ _ _ _ _ _ _ _ _ _ _ _ _ _ _ _ _ _ _ _ _ _ _ _ (λ p. p.0) (λ p. p.0) (λ p. p.0) (λ p. p.0) (λ p. p.0) (λ p. p.0) (λ p. p.0) (λ p. p.0) (λ p. p.0) (λ p. p.0) (λ p. p.0) (λ p. p.0) (λ p. p.0) (λ p. p.0) (λ p. p.0) (λ p. p.0) (λ p. p.0) y ≡ x → KnownAddend (roll-Addend x)
addend_node x y is = tt

condition_node : (x : Layer Condition-F) (y : Parts Condition-F) → condition_of y ≡ x → KnownCondition (roll-Condition x)
condition_node x y is = subst (λ (z : Layer Condition-F). KnownCondition (roll-Condition z)) is (looked (node.condition (roll-Condition (condition_of y))) refl (rw (out_condition (condition_of y)) (y.first.1, parts_walked node.conjunction y.others)))

conjunction_node : (x : Layer Conjunction-F) (y : Parts Conjunction-F) → conjunction_of y ≡ x → KnownConjunction (roll-Conjunction x)
conjunction_node x y is = subst (λ (z : Layer Conjunction-F). KnownConjunction (roll-Conjunction z)) is (looked (node.conjunction (roll-Conjunction (conjunction_of y))) refl (rw (out_conjunction (conjunction_of y)) (y.first.1, parts_walked node.negation y.others)))

expression_node : (x : Layer Expression-F) (y : Parts Expression-F) → expression_of y ≡ x → KnownExpression (roll-Expression x)
expression_node x y is = subst (λ (z : Layer Expression-F). KnownExpression (roll-Expression z)) is (looked (node.expression (roll-Expression (expression_of y))) refl (rw (out_expression (expression_of y)) (y.first.1, operands_walked node.term y.others)))

factor_node : (x : Layer Factor-F) (y : Parts Factor-F) → factor_of y ≡ x → KnownFactor (roll-Factor x)
factor_node x y is = subst (λ (z : Layer Factor-F). KnownFactor (roll-Factor z)) is (looked (node.factor (roll-Factor (factor_of y))) refl (subst (λ (l : Layer Factor-F). AllByRecursion Walked (node.primary l.primary ∷ [])) (flip (out_factor (factor_of y))) (y.primary.1, tt)))

negation_node : (x : Layer Negation-F) (y : Parts Negation-F) → negation_of y ≡ x → KnownNegation (roll-Negation x)
negation_node x y is = subst (λ (z : Layer Negation-F). KnownNegation (roll-Negation z)) is (looked (node.negation (roll-Negation (negation_of y))) refl (subst (λ (l : Layer Negation-F). AllByRecursion Walked (node.test l.test ∷ [])) (flip (out_negation (negation_of y))) (y.test.1, tt)))

query_node : (x : Layer Query-F) (y : Parts Query-F) → map-Query _ _ _ _ _ _ _ _ _ _ _ _ _ _ _ _ _ _ _ _ _ _ _ _ _ _ _ _ _ _ _ _ _ _ (λ p. p.0) (λ p. p.0) (λ p. p.0) (λ p. p.0) (λ p. p.0) (λ p. p.0) (λ p. p.0) (λ p. p.0) (λ p. p.0) (λ p. p.0) (λ p. p.0) (λ p. p.0) (λ p. p.0) (λ p. p.0) (λ p. p.0) (λ p. p.0) (λ p. p.0) y ≡ x → KnownQuery (roll-Query x)
query_node x y is = tt

select_node : (x : Layer Select-F) (y : Parts Select-F) → map-Select _ _ _ _ _ _ _ _ _ _ _ _ _ _ _ _ _ _ _ _ _ _ _ _ _ _ _ _ _ _ _ _ _ _ (λ p. p.0) (λ p. p.0) (λ p. p.0) (λ p. p.0) (λ p. p.0) (λ p. p.0) (λ p. p.0) (λ p. p.0) (λ p. p.0) (λ p. p.0) (λ p. p.0) (λ p. p.0) (λ p. p.0) (λ p. p.0) (λ p. p.0) (λ p. p.0) (λ p. p.0) y ≡ x → KnownSelect (roll-Select x)
select_node x y is = tt

item_node : (x : Layer SelectItem-F) (y : Parts SelectItem-F) → item_of y ≡ x → KnownSelectItem (roll-SelectItem x)
item_node x y is = subst (λ (z : Layer SelectItem-F). KnownSelectItem (roll-SelectItem z)) is (looked (node.select_item (roll-SelectItem (item_of y))) refl (rw (out_selectitem (item_of y)) (y.value.1, tt)))

reference_node : (x : Layer TableReference-F) (y : Parts TableReference-F) → map-TableReference _ _ _ _ _ _ _ _ _ _ _ _ _ _ _ _ _ _ _ _ _ _ _ _ _ _ _ _ _ _ _ _ _ _ (λ p. p.0) (λ p. p.0) (λ p. p.0) (λ p. p.0) (λ p. p.0) (λ p. p.0) (λ p. p.0) (λ p. p.0) (λ p. p.0) (λ p. p.0) (λ p. p.0) (λ p. p.0) (λ p. p.0) (λ p. p.0) (λ p. p.0) (λ p. p.0) (λ p. p.0) y ≡ x → KnownTableReference (roll-TableReference x)
reference_node x y is = tt

term_node : (x : Layer Term-F) (y : Parts Term-F) → term_of y ≡ x → KnownTerm (roll-Term x)
term_node x y is = subst (λ (z : Layer Term-F). KnownTerm (roll-Term z)) is (looked (node.term (roll-Term (term_of y))) refl (rw (out_term (term_of y)) (y.first.1, operands_walked node.factor y.others)))

test_node : (x : Layer Test-F) (y : Parts Test-F) → test_of y ≡ x → KnownTest (roll-Test x)
test_node x y is = subst (λ (z : Layer Test-F). KnownTest (roll-Test z)) is (looked (node.test (roll-Test (test_of y))) refl (subst (λ (l : Layer Test-F). AllByRecursion Walked (node.predicate l.predicate ∷ [])) (flip (out_test (test_of y))) (y.predicate.1, tt)))

items-walked : (t : SelectItem) → Walked (node.select_item t)
items-walked = ind-SelectItem KnownJoin KnownOperand KnownPredicate KnownPrimary KnownTableSource KnownAddend KnownCondition KnownConjunction KnownExpression KnownFactor KnownNegation KnownQuery KnownSelect KnownSelectItem KnownTableReference KnownTerm KnownTest
    join_node operand_node predicate_node primary_node source_node addend_node condition_node conjunction_node expression_node factor_node negation_node query_node select_node item_node reference_node term_node test_node

conditions-walked : (t : Condition) → Walked (node.condition t)
conditions-walked = ind-Condition KnownJoin KnownOperand KnownPredicate KnownPrimary KnownTableSource KnownAddend KnownCondition KnownConjunction KnownExpression KnownFactor KnownNegation KnownQuery KnownSelect KnownSelectItem KnownTableReference KnownTerm KnownTest
    join_node operand_node predicate_node primary_node source_node addend_node condition_node conjunction_node expression_node factor_node negation_node query_node select_node item_node reference_node term_node test_node

having_listed : (having : Option Condition) → (found : List Primary) × Lists (written node.condition having) found
having_listed None = ([], lists.none)
having_listed (Some c) = conditions-walked c [] [] lists.none

items_walked : (items : List SelectItem) → AllByRecursion Walked (map node.select_item items)
items_walked [] = tt
items_walked (item ∷ items) = (items-walked item, items_walked items)

selected_walked : (items : Option (List SelectItem)) → AllByRecursion Walked (selected_parts items)
selected_walked None = tt
selected_walked (Some items) = items_walked items

pub selects-listed : (tree : Select) → (functions : List Primary) × Lists (shown_nodes tree) functions
selects-listed tree =
    let having = having_listed (out-Select tree).having in
    walked_all (selected_parts (out-Select tree).items) (selected_walked (out-Select tree).items) (written node.condition (out-Select tree).having) having.0 having.1
