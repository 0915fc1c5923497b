-- Each node, from its parts.
use Rattle.std.proofs.Common.{◌≡◌, ◌++◌, ◌∙◌, ◌==◌, ap, false, length, Bool, List, [], ◌∷◌, map, refl, sym}
use Rattle.std.specs.Prelude.{flat_map}
use Rattle.std.specs.Option.{option_map}
use Rattle.std.proofs.lemmas.List.Folds.{flat_map-map}
use Rattle.ast.specs.declared.tree.Addend.{Addend, out-Addend}
use Rattle.ast.specs.declared.tree.Condition.{Condition, out-Condition}
use Rattle.ast.specs.declared.tree.Conjunction.{Conjunction, out-Conjunction}
use Rattle.ast.specs.declared.tree.Expression.{Expression, out-Expression}
use Rattle.ast.specs.declared.tree.Factor.{Factor, out-Factor}
use Rattle.ast.specs.declared.tree.Join.{Join, out-Join}
use Rattle.ast.specs.declared.tree.Negation.{Negation, out-Negation}
use Rattle.ast.specs.declared.tree.Operand.{Operand, out-Operand}
use Rattle.ast.specs.declared.tree.Predicate.{Predicate, out-Predicate}
use Rattle.ast.specs.declared.tree.Primary.{Primary, out-Primary}
use Rattle.ast.specs.declared.tree.Query.{Query, out-Query}
use Rattle.ast.specs.declared.tree.Select.{Select, out-Select}
use Rattle.ast.specs.declared.tree.SelectItem.{SelectItem, out-SelectItem}
use Rattle.ast.specs.declared.tree.TableReference.{TableReference, out-TableReference}
use Rattle.ast.specs.declared.tree.TableSource.{TableSource, out-TableSource}
use Rattle.ast.specs.declared.tree.Term.{Term, out-Term}
use Rattle.ast.specs.declared.tree.Test.{Test, out-Test}
use Rattle.lexer.specs.declared.kinds.Kind.{Kind}
use Rattle.ast.specs.declared.operator.AddOperator.{AddOperator}
use Rattle.ast.specs.declared.operator.Column.{Column}
use Rattle.ast.specs.declared.operator.MultiplyOperator.{MultiplyOperator}
use Rattle.ast.specs.declared.operator.SetOperator.{SetOperator}
use Rattle.ast.specs.Layers.{JoinLayer, OperandLayer, PredicateLayer, PrimaryLayer, TableSourceLayer}
use Rattle.ast.specs.Notation.{Tokens}
use Rattle.ast.specs.Words.{AND, BY, COMMA, FROM, GROUP, HAVING, NOT, OR, SELECT, WHERE}
use Rattle.typing.specs.Printed.{condition_tokens, groups_tokens, items_tokens, join_step, operand_step, predicate_step, primary_step, reference_step, source_step}
use Rattle.typing.specs.Tokens.{add_tokens, alias_tokens, chain, column_tokens, if_written, intersect_tokens, joined_by, listed, maybe, multiply_tokens, quantifier_tokens, set_tokens, sign_tokens, test_tokens as truth_tokens}
use Rattle.condition_printer.specs.Trees.{Puts, addend_tokens, conjunction_tokens, expression_tokens, factor_tokens, item_tokens, join_tokens, negation_tokens, operand_tokens, predicate_tokens, primary_tokens, query_tokens, reference_tokens, select_tokens, source_tokens, term_tokens, test_tokens}
use Rattle.condition_printer.proofs.Nodes.{addend_is, condition_is, conjunction_is, expression_is, factor_is, item_is, join_is, join_parts, negation_is, operand_is, operand_parts, predicate_is, predicate_parts, primary_is, primary_parts, query_is, reference_is, select_is, source_is, source_parts, term_is, test_is}
use Rattle.condition_printer.proofs.Parts.{◌⨟◌, same}

-- ---- nodes of several kinds

pub primary : (x : Primary) {y : PrimaryLayer} {old new : Tokens} → out-Primary x ≡ y → Puts (primary_step (primary_parts y)) old new → Puts (primary_tokens x) old new
primary x is p = same (sym (primary_is x ∙ ap (λ d. primary_step (primary_parts d)) is)) p

pub predicate : (x : Predicate) {y : PredicateLayer} {old new : Tokens} → out-Predicate x ≡ y → Puts (predicate_step (predicate_parts y)) old new → Puts (predicate_tokens x) old new
predicate x is p = same (sym (predicate_is x ∙ ap (λ d. predicate_step (predicate_parts d)) is)) p

pub table_source : (x : TableSource) {y : TableSourceLayer} {old new : Tokens} → out-TableSource x ≡ y → Puts (source_step (source_parts y)) old new → Puts (source_tokens x) old new
table_source x is p = same (sym (source_is x ∙ ap (λ d. source_step (source_parts d)) is)) p

pub join : (x : Join) {y : JoinLayer} {old new : Tokens} → out-Join x ≡ y → Puts (join_step (join_parts y)) old new → Puts (join_tokens x) old new
join x is p = same (sym (join_is x ∙ ap (λ d. join_step (join_parts d)) is)) p

pub operand : (x : Operand) {y : OperandLayer} {old new : Tokens} → out-Operand x ≡ y → Puts (operand_step (operand_parts y)) old new → Puts (operand_tokens x) old new
operand x is p = same (sym (operand_is x ∙ ap (λ d. operand_step (operand_parts d)) is)) p

-- ---- operators with their operands

abbrev pub summand : AddOperator × Term → Tokens
summand o = add_tokens o.0 ++ term_tokens o.1

abbrev pub multiplier : MultiplyOperator × Factor → Tokens
multiplier o = multiply_tokens o.0 ++ factor_tokens o.1

abbrev pub disjunct : Conjunction → Tokens
disjunct x = OR ∷ conjunction_tokens x

abbrev pub conjunct : Negation → Tokens
conjunct x = AND ∷ negation_tokens x

abbrev pub combined : SetOperator × Addend → Tokens
combined o = set_tokens o.0 ++ addend_tokens o.1

abbrev pub intersected : Bool × Operand → Tokens
intersected o = intersect_tokens o.0 ++ operand_tokens o.1

abbrev pub next_item : SelectItem → Tokens
next_item x = COMMA ∷ item_tokens x

abbrev pub next_reference : TableReference → Tokens
next_reference x = COMMA ∷ reference_tokens x

-- ---- chains

-- a chain is its first operand, and then each operator with its operand
chained : {O A : Type 0} (g : O → Tokens) (f : A → Tokens) (first : Tokens) (others : List (O × A)) →
    chain g first (map (λ o. (o.0, f o.1)) others) ≡ first ++ flat_map (λ o. g o.0 ++ f o.1) others
chained g f first others = ap (λ ts. first ++ ts) (flat_map-map (λ o. g o.0 ++ o.1) (λ o. (o.0, f o.1)) others)

joined : {A : Type 0} (t : Kind) (f : A → Tokens) (first : Tokens) (others : List A) → joined_by t first (map f others) ≡ first ++ flat_map (λ x. t ∷ f x) others
joined t f first others = ap (λ ts. first ++ ts) (flat_map-map (λ ts. t ∷ ts) f others)

pub term : (x : Term) {old middle new : Tokens} → Puts (factor_tokens (out-Term x).first) old middle
    → Puts (flat_map multiplier (out-Term x).others) middle new → Puts (term_tokens x) old new
term x p q = same (sym (term_is x ∙ chained multiply_tokens factor_tokens (factor_tokens (out-Term x).first) (out-Term x).others)) (p ⨟ q)

pub expression : (x : Expression) {old middle new : Tokens} → Puts (term_tokens (out-Expression x).first) old middle
    → Puts (flat_map summand (out-Expression x).others) middle new → Puts (expression_tokens x) old new
expression x p q = same (sym (expression_is x ∙ chained add_tokens term_tokens (term_tokens (out-Expression x).first) (out-Expression x).others)) (p ⨟ q)

pub addend : (x : Addend) {old middle new : Tokens} → Puts (operand_tokens (out-Addend x).first) old middle
    → Puts (flat_map intersected (out-Addend x).others) middle new → Puts (addend_tokens x) old new
addend x p q = same (sym (addend_is x ∙ chained intersect_tokens operand_tokens (operand_tokens (out-Addend x).first) (out-Addend x).others)) (p ⨟ q)

pub query : (x : Query) {old middle new : Tokens} → Puts (addend_tokens (out-Query x).first) old middle
    → Puts (flat_map combined (out-Query x).others) middle new → Puts (query_tokens x) old new
query x p q = same (sym (query_is x ∙ chained set_tokens addend_tokens (addend_tokens (out-Query x).first) (out-Query x).others)) (p ⨟ q)

pub conjunction : (x : Conjunction) {old middle new : Tokens} → Puts (negation_tokens (out-Conjunction x).first) old middle
    → Puts (flat_map conjunct (out-Conjunction x).others) middle new → Puts (conjunction_tokens x) old new
conjunction x p q = same (sym (conjunction_is x ∙ joined AND negation_tokens (negation_tokens (out-Conjunction x).first) (out-Conjunction x).others)) (p ⨟ q)

pub condition : (x : Condition) {old middle new : Tokens} → Puts (conjunction_tokens (out-Condition x).first) old middle
    → Puts (flat_map disjunct (out-Condition x).others) middle new → Puts (condition_tokens x) old new
condition x p q = same (sym (condition_is x ∙ joined OR conjunction_tokens (conjunction_tokens (out-Condition x).first) (out-Condition x).others)) (p ⨟ q)

-- ---- others

pub factor : (x : Factor) {old middle new : Tokens} → Puts (maybe sign_tokens (out-Factor x).sign) old middle → Puts (primary_tokens (out-Factor x).primary) middle new → Puts (factor_tokens x) old new
factor x p q = same (sym (factor_is x)) (p ⨟ q)

pub test : (x : Test) {old middle new : Tokens} → Puts (predicate_tokens (out-Test x).predicate) old middle → Puts (maybe truth_tokens (out-Test x).truth) middle new → Puts (test_tokens x) old new
test x p q = same (sym (test_is x)) (p ⨟ q)

pub negation : (x : Negation) {old middle new : Tokens} → Puts (if_written (out-Negation x).is_negated NOT) old middle → Puts (test_tokens (out-Negation x).test) middle new → Puts (negation_tokens x) old new
negation x p q = same (sym (negation_is x)) (p ⨟ q)

pub select_item : (x : SelectItem) {old middle new : Tokens} → Puts (expression_tokens (out-SelectItem x).value) old middle → Puts (maybe alias_tokens (out-SelectItem x).alias) middle new → Puts (item_tokens x) old new
select_item x p q = same (sym (item_is x)) (p ⨟ q)

all_joins : (first : Tokens) (joins : List Join) → reference_step (record { first = first; joins = map join_tokens joins }) ≡ first ++ flat_map join_tokens joins
all_joins first [] = refl
all_joins first (j ∷ joins) = ap (λ ts. first ++ (join_tokens j ++ ts)) (all_joins [] joins)

pub table_reference : (x : TableReference) {old middle new : Tokens} → Puts (source_tokens (out-TableReference x).first) old middle
    → Puts (flat_map join_tokens (out-TableReference x).joins) middle new → Puts (reference_tokens x) old new
table_reference x p q = same (sym (reference_is x ∙ all_joins (source_tokens (out-TableReference x).first) (out-TableReference x).joins)) (p ⨟ q)

pub select : (x : Select) {old n1 n2 n3 n4 n5 n6 n7 new : Tokens} → Puts (SELECT ∷ []) old n1 → Puts (maybe quantifier_tokens (out-Select x).quantifier) n1 n2
    → Puts (items_tokens (option_map (map item_tokens) (out-Select x).items)) n2 n3 → Puts (FROM ∷ []) n3 n4 → Puts (listed (map reference_tokens (out-Select x).from)) n4 n5
    → Puts (maybe (λ ts. WHERE ∷ ts) (option_map condition_tokens (out-Select x).filter)) n5 n6 → Puts (groups_tokens (out-Select x).groups) n6 n7
    → Puts (maybe (λ ts. HAVING ∷ ts) (option_map condition_tokens (out-Select x).having)) n7 new → Puts (select_tokens x) old new
select x word quantifier items from tables filter groups having =
    same (sym (select_is x)) ((word ⨟ quantifier) ⨟ items ⨟ (from ⨟ tables) ⨟ filter ⨟ groups ⨟ having)

pub grouped : (columns : List Column) {old new : Tokens} → (length columns == 0) ≡ false → Puts (GROUP ∷ BY ∷ listed (map column_tokens columns)) old new → Puts (groups_tokens columns) old new
grouped [] some p = absurd (cc)
grouped (x ∷ xs) some p = p
