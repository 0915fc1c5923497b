-- The tokens of a node, from those of its parts.
use Rattle.std.proofs.Common.{◌≡◌, map, rules}
use Rattle.std.specs.Option.{option_map}
use Rattle.ast.specs.declared.tree.Join.{Join, Join-F, out-Join, map-Join, fold_out-Join}
use Rattle.ast.specs.declared.tree.Operand.{Operand, Operand-F, out-Operand, map-Operand, fold_out-Operand}
use Rattle.ast.specs.declared.tree.Predicate.{Predicate, Predicate-F, out-Predicate, map-Predicate, fold_out-Predicate}
use Rattle.ast.specs.declared.tree.Primary.{Primary, Primary-F, out-Primary, map-Primary, fold_out-Primary}
use Rattle.ast.specs.declared.tree.TableSource.{TableSource, TableSource-F, out-TableSource, map-TableSource, fold_out-TableSource}
use Rattle.ast.specs.declared.tree.Addend.{Addend, Addend-F, out-Addend, map-Addend, fold_out-Addend}
use Rattle.ast.specs.declared.tree.Condition.{Condition, Condition-F, out-Condition, map-Condition, fold_out-Condition}
use Rattle.ast.specs.declared.tree.Conjunction.{Conjunction, Conjunction-F, out-Conjunction, map-Conjunction, fold_out-Conjunction}
use Rattle.ast.specs.declared.tree.Expression.{Expression, Expression-F, out-Expression, map-Expression, fold_out-Expression, the_lemmas}
use Rattle.ast.specs.declared.tree.Factor.{Factor, Factor-F, out-Factor, map-Factor, fold_out-Factor}
use Rattle.ast.specs.declared.tree.Negation.{Negation, Negation-F, out-Negation, map-Negation, fold_out-Negation}
use Rattle.ast.specs.declared.tree.Query.{Query, Query-F, out-Query, map-Query, fold_out-Query}
use Rattle.ast.specs.declared.tree.Select.{Select, out-Select}
use Rattle.ast.specs.declared.tree.SelectItem.{SelectItem, SelectItem-F, out-SelectItem, map-SelectItem, fold_out-SelectItem}
use Rattle.ast.specs.declared.tree.TableReference.{TableReference, TableReference-F, out-TableReference, map-TableReference, fold_out-TableReference}
use Rattle.ast.specs.declared.tree.Term.{Term, Term-F, out-Term, map-Term, fold_out-Term}
use Rattle.ast.specs.declared.tree.Test.{Test, Test-F, out-Test, map-Test, fold_out-Test}
use Rattle.typing.specs.Printed.{Layer, condition_tokens, join_step, operand_step, predicate_step, primary_step, source_step, addend_step, condition_step, conjunction_step, expression_step, factor_step, negation_step, query_step, select_step, item_step, reference_step, term_step, test_step}
use Rattle.condition_printer.specs.Trees.{join_tokens, operand_tokens, predicate_tokens, primary_tokens, source_tokens, addend_tokens, conjunction_tokens, expression_tokens, factor_tokens, negation_tokens, query_tokens, select_tokens, item_tokens, reference_tokens, term_tokens, test_tokens}

-- a node of trees
abbrev pub Node : ((A B C D E F G H I J K L M N O P Q : Type 0) → Type 0) → Type 0
Node T = T Join Operand Predicate Primary TableSource Addend Condition Conjunction Expression Factor Negation Query Select SelectItem TableReference Term Test

-- ---- a node with the tokens of its parts in their places, and its own tokens

abbrev pub join_parts : Node Join-F → Layer Join-F
join_parts d = map-Join _ _ _ _ _ _ _ _ _ _ _ _ _ _ _ _ _ _ _ _ _ _ _ _ _ _ _ _ _ _ _ _ _ _ join_tokens operand_tokens predicate_tokens primary_tokens source_tokens addend_tokens condition_tokens conjunction_tokens expression_tokens factor_tokens negation_tokens query_tokens select_tokens item_tokens reference_tokens term_tokens test_tokens d

pub join_is : (x : Join) → join_tokens x ≡ join_step (join_parts (out-Join x))
unfolding join_tokens operand_tokens predicate_tokens primary_tokens source_tokens addend_tokens condition_tokens conjunction_tokens expression_tokens factor_tokens negation_tokens query_tokens select_tokens item_tokens reference_tokens term_tokens test_tokens
join_is x = fold_out-Join _ _ _ _ _ _ _ _ _ _ _ _ _ _ _ _ _ join_step operand_step predicate_step primary_step source_step addend_step condition_step conjunction_step expression_step factor_step negation_step query_step select_step item_step reference_step term_step test_step x

abbrev pub operand_parts : Node Operand-F → Layer Operand-F
operand_parts d = map-Operand _ _ _ _ _ _ _ _ _ _ _ _ _ _ _ _ _ _ _ _ _ _ _ _ _ _ _ _ _ _ _ _ _ _ join_tokens operand_tokens predicate_tokens primary_tokens source_tokens addend_tokens condition_tokens conjunction_tokens expression_tokens factor_tokens negation_tokens query_tokens select_tokens item_tokens reference_tokens term_tokens test_tokens d

pub operand_is : (x : Operand) → operand_tokens x ≡ operand_step (operand_parts (out-Operand x))
unfolding join_tokens operand_tokens predicate_tokens primary_tokens source_tokens addend_tokens condition_tokens conjunction_tokens expression_tokens factor_tokens negation_tokens query_tokens select_tokens item_tokens reference_tokens term_tokens test_tokens
operand_is x = fold_out-Operand _ _ _ _ _ _ _ _ _ _ _ _ _ _ _ _ _ join_step operand_step predicate_step primary_step source_step addend_step condition_step conjunction_step expression_step factor_step negation_step query_step select_step item_step reference_step term_step test_step x

abbrev pub predicate_parts : Node Predicate-F → Layer Predicate-F
predicate_parts d = map-Predicate _ _ _ _ _ _ _ _ _ _ _ _ _ _ _ _ _ _ _ _ _ _ _ _ _ _ _ _ _ _ _ _ _ _ join_tokens operand_tokens predicate_tokens primary_tokens source_tokens addend_tokens condition_tokens conjunction_tokens expression_tokens factor_tokens negation_tokens query_tokens select_tokens item_tokens reference_tokens term_tokens test_tokens d

pub predicate_is : (x : Predicate) → predicate_tokens x ≡ predicate_step (predicate_parts (out-Predicate x))
unfolding join_tokens operand_tokens predicate_tokens primary_tokens source_tokens addend_tokens condition_tokens conjunction_tokens expression_tokens factor_tokens negation_tokens query_tokens select_tokens item_tokens reference_tokens term_tokens test_tokens
predicate_is x = fold_out-Predicate _ _ _ _ _ _ _ _ _ _ _ _ _ _ _ _ _ join_step operand_step predicate_step primary_step source_step addend_step condition_step conjunction_step expression_step factor_step negation_step query_step select_step item_step reference_step term_step test_step x

abbrev pub primary_parts : Node Primary-F → Layer Primary-F
primary_parts d = map-Primary _ _ _ _ _ _ _ _ _ _ _ _ _ _ _ _ _ _ _ _ _ _ _ _ _ _ _ _ _ _ _ _ _ _ join_tokens operand_tokens predicate_tokens primary_tokens source_tokens addend_tokens condition_tokens conjunction_tokens expression_tokens factor_tokens negation_tokens query_tokens select_tokens item_tokens reference_tokens term_tokens test_tokens d

pub primary_is : (x : Primary) → primary_tokens x ≡ primary_step (primary_parts (out-Primary x))
unfolding join_tokens operand_tokens predicate_tokens primary_tokens source_tokens addend_tokens condition_tokens conjunction_tokens expression_tokens factor_tokens negation_tokens query_tokens select_tokens item_tokens reference_tokens term_tokens test_tokens
primary_is x = fold_out-Primary _ _ _ _ _ _ _ _ _ _ _ _ _ _ _ _ _ join_step operand_step predicate_step primary_step source_step addend_step condition_step conjunction_step expression_step factor_step negation_step query_step select_step item_step reference_step term_step test_step x

abbrev pub source_parts : Node TableSource-F → Layer TableSource-F
source_parts d = map-TableSource _ _ _ _ _ _ _ _ _ _ _ _ _ _ _ _ _ _ _ _ _ _ _ _ _ _ _ _ _ _ _ _ _ _ join_tokens operand_tokens predicate_tokens primary_tokens source_tokens addend_tokens condition_tokens conjunction_tokens expression_tokens factor_tokens negation_tokens query_tokens select_tokens item_tokens reference_tokens term_tokens test_tokens d

pub source_is : (x : TableSource) → source_tokens x ≡ source_step (source_parts (out-TableSource x))
unfolding join_tokens operand_tokens predicate_tokens primary_tokens source_tokens addend_tokens condition_tokens conjunction_tokens expression_tokens factor_tokens negation_tokens query_tokens select_tokens item_tokens reference_tokens term_tokens test_tokens
source_is x = fold_out-TableSource _ _ _ _ _ _ _ _ _ _ _ _ _ _ _ _ _ join_step operand_step predicate_step primary_step source_step addend_step condition_step conjunction_step expression_step factor_step negation_step query_step select_step item_step reference_step term_step test_step x

abbrev pub addend_parts : Node Addend-F → Layer Addend-F
addend_parts d = map-Addend _ _ _ _ _ _ _ _ _ _ _ _ _ _ _ _ _ _ _ _ _ _ _ _ _ _ _ _ _ _ _ _ _ _ join_tokens operand_tokens predicate_tokens primary_tokens source_tokens addend_tokens condition_tokens conjunction_tokens expression_tokens factor_tokens negation_tokens query_tokens select_tokens item_tokens reference_tokens term_tokens test_tokens d

pub addend_is : (x : Addend) → addend_tokens x ≡ addend_step (addend_parts (out-Addend x))
unfolding join_tokens operand_tokens predicate_tokens primary_tokens source_tokens addend_tokens condition_tokens conjunction_tokens expression_tokens factor_tokens negation_tokens query_tokens select_tokens item_tokens reference_tokens term_tokens test_tokens
addend_is x = fold_out-Addend _ _ _ _ _ _ _ _ _ _ _ _ _ _ _ _ _ join_step operand_step predicate_step primary_step source_step addend_step condition_step conjunction_step expression_step factor_step negation_step query_step select_step item_step reference_step term_step test_step x

abbrev pub condition_parts : Node Condition-F → Layer Condition-F
condition_parts d = map-Condition _ _ _ _ _ _ _ _ _ _ _ _ _ _ _ _ _ _ _ _ _ _ _ _ _ _ _ _ _ _ _ _ _ _ join_tokens operand_tokens predicate_tokens primary_tokens source_tokens addend_tokens condition_tokens conjunction_tokens expression_tokens factor_tokens negation_tokens query_tokens select_tokens item_tokens reference_tokens term_tokens test_tokens d

pub condition_is : (x : Condition) → condition_tokens x ≡ condition_step (condition_parts (out-Condition x))
unfolding join_tokens operand_tokens predicate_tokens primary_tokens source_tokens addend_tokens condition_tokens conjunction_tokens expression_tokens factor_tokens negation_tokens query_tokens select_tokens item_tokens reference_tokens term_tokens test_tokens
condition_is x = fold_out-Condition _ _ _ _ _ _ _ _ _ _ _ _ _ _ _ _ _ join_step operand_step predicate_step primary_step source_step addend_step condition_step conjunction_step expression_step factor_step negation_step query_step select_step item_step reference_step term_step test_step x

abbrev pub conjunction_parts : Node Conjunction-F → Layer Conjunction-F
conjunction_parts d = map-Conjunction _ _ _ _ _ _ _ _ _ _ _ _ _ _ _ _ _ _ _ _ _ _ _ _ _ _ _ _ _ _ _ _ _ _ join_tokens operand_tokens predicate_tokens primary_tokens source_tokens addend_tokens condition_tokens conjunction_tokens expression_tokens factor_tokens negation_tokens query_tokens select_tokens item_tokens reference_tokens term_tokens test_tokens d

pub conjunction_is : (x : Conjunction) → conjunction_tokens x ≡ conjunction_step (conjunction_parts (out-Conjunction x))
unfolding join_tokens operand_tokens predicate_tokens primary_tokens source_tokens addend_tokens condition_tokens conjunction_tokens expression_tokens factor_tokens negation_tokens query_tokens select_tokens item_tokens reference_tokens term_tokens test_tokens
conjunction_is x = fold_out-Conjunction _ _ _ _ _ _ _ _ _ _ _ _ _ _ _ _ _ join_step operand_step predicate_step primary_step source_step addend_step condition_step conjunction_step expression_step factor_step negation_step query_step select_step item_step reference_step term_step test_step x

abbrev pub expression_parts : Node Expression-F → Layer Expression-F
expression_parts d = map-Expression _ _ _ _ _ _ _ _ _ _ _ _ _ _ _ _ _ _ _ _ _ _ _ _ _ _ _ _ _ _ _ _ _ _ join_tokens operand_tokens predicate_tokens primary_tokens source_tokens addend_tokens condition_tokens conjunction_tokens expression_tokens factor_tokens negation_tokens query_tokens select_tokens item_tokens reference_tokens term_tokens test_tokens d

pub expression_is : (x : Expression) → expression_tokens x ≡ expression_step (expression_parts (out-Expression x))
unfolding join_tokens operand_tokens predicate_tokens primary_tokens source_tokens addend_tokens condition_tokens conjunction_tokens expression_tokens factor_tokens negation_tokens query_tokens select_tokens item_tokens reference_tokens term_tokens test_tokens
expression_is x = fold_out-Expression _ _ _ _ _ _ _ _ _ _ _ _ _ _ _ _ _ join_step operand_step predicate_step primary_step source_step addend_step condition_step conjunction_step expression_step factor_step negation_step query_step select_step item_step reference_step term_step test_step x

abbrev pub factor_parts : Node Factor-F → Layer Factor-F
factor_parts d = map-Factor _ _ _ _ _ _ _ _ _ _ _ _ _ _ _ _ _ _ _ _ _ _ _ _ _ _ _ _ _ _ _ _ _ _ join_tokens operand_tokens predicate_tokens primary_tokens source_tokens addend_tokens condition_tokens conjunction_tokens expression_tokens factor_tokens negation_tokens query_tokens select_tokens item_tokens reference_tokens term_tokens test_tokens d

pub factor_is : (x : Factor) → factor_tokens x ≡ factor_step (factor_parts (out-Factor x))
unfolding join_tokens operand_tokens predicate_tokens primary_tokens source_tokens addend_tokens condition_tokens conjunction_tokens expression_tokens factor_tokens negation_tokens query_tokens select_tokens item_tokens reference_tokens term_tokens test_tokens
factor_is x = fold_out-Factor _ _ _ _ _ _ _ _ _ _ _ _ _ _ _ _ _ join_step operand_step predicate_step primary_step source_step addend_step condition_step conjunction_step expression_step factor_step negation_step query_step select_step item_step reference_step term_step test_step x

abbrev pub negation_parts : Node Negation-F → Layer Negation-F
negation_parts d = map-Negation _ _ _ _ _ _ _ _ _ _ _ _ _ _ _ _ _ _ _ _ _ _ _ _ _ _ _ _ _ _ _ _ _ _ join_tokens operand_tokens predicate_tokens primary_tokens source_tokens addend_tokens condition_tokens conjunction_tokens expression_tokens factor_tokens negation_tokens query_tokens select_tokens item_tokens reference_tokens term_tokens test_tokens d

pub negation_is : (x : Negation) → negation_tokens x ≡ negation_step (negation_parts (out-Negation x))
unfolding join_tokens operand_tokens predicate_tokens primary_tokens source_tokens addend_tokens condition_tokens conjunction_tokens expression_tokens factor_tokens negation_tokens query_tokens select_tokens item_tokens reference_tokens term_tokens test_tokens
negation_is x = fold_out-Negation _ _ _ _ _ _ _ _ _ _ _ _ _ _ _ _ _ join_step operand_step predicate_step primary_step source_step addend_step condition_step conjunction_step expression_step factor_step negation_step query_step select_step item_step reference_step term_step test_step x

abbrev pub query_parts : Node Query-F → Layer Query-F
query_parts d = map-Query _ _ _ _ _ _ _ _ _ _ _ _ _ _ _ _ _ _ _ _ _ _ _ _ _ _ _ _ _ _ _ _ _ _ join_tokens operand_tokens predicate_tokens primary_tokens source_tokens addend_tokens condition_tokens conjunction_tokens expression_tokens factor_tokens negation_tokens query_tokens select_tokens item_tokens reference_tokens term_tokens test_tokens d

pub query_is : (x : Query) → query_tokens x ≡ query_step (query_parts (out-Query x))
unfolding join_tokens operand_tokens predicate_tokens primary_tokens source_tokens addend_tokens condition_tokens conjunction_tokens expression_tokens factor_tokens negation_tokens query_tokens select_tokens item_tokens reference_tokens term_tokens test_tokens
query_is x = fold_out-Query _ _ _ _ _ _ _ _ _ _ _ _ _ _ _ _ _ join_step operand_step predicate_step primary_step source_step addend_step condition_step conjunction_step expression_step factor_step negation_step query_step select_step item_step reference_step term_step test_step x

pub select_is : (x : Select) → select_tokens x
    ≡ select_step (record {
      quantifier = (out-Select x).quantifier;
      items = option_map (map item_tokens) (out-Select x).items;
      from = map reference_tokens (out-Select x).from;
      filter = option_map condition_tokens (out-Select x).filter;
      groups = (out-Select x).groups;
      having = option_map condition_tokens (out-Select x).having;
    })
unfolding select_tokens item_tokens reference_tokens condition_tokens
select_is x = search (rules, the_lemmas)

abbrev pub item_parts : Node SelectItem-F → Layer SelectItem-F
item_parts d = map-SelectItem _ _ _ _ _ _ _ _ _ _ _ _ _ _ _ _ _ _ _ _ _ _ _ _ _ _ _ _ _ _ _ _ _ _ join_tokens operand_tokens predicate_tokens primary_tokens source_tokens addend_tokens condition_tokens conjunction_tokens expression_tokens factor_tokens negation_tokens query_tokens select_tokens item_tokens reference_tokens term_tokens test_tokens d

pub item_is : (x : SelectItem) → item_tokens x ≡ item_step (item_parts (out-SelectItem x))
unfolding join_tokens operand_tokens predicate_tokens primary_tokens source_tokens addend_tokens condition_tokens conjunction_tokens expression_tokens factor_tokens negation_tokens query_tokens select_tokens item_tokens reference_tokens term_tokens test_tokens
item_is x = fold_out-SelectItem _ _ _ _ _ _ _ _ _ _ _ _ _ _ _ _ _ join_step operand_step predicate_step primary_step source_step addend_step condition_step conjunction_step expression_step factor_step negation_step query_step select_step item_step reference_step term_step test_step x

abbrev pub reference_parts : Node TableReference-F → Layer TableReference-F
reference_parts d = map-TableReference _ _ _ _ _ _ _ _ _ _ _ _ _ _ _ _ _ _ _ _ _ _ _ _ _ _ _ _ _ _ _ _ _ _ join_tokens operand_tokens predicate_tokens primary_tokens source_tokens addend_tokens condition_tokens conjunction_tokens expression_tokens factor_tokens negation_tokens query_tokens select_tokens item_tokens reference_tokens term_tokens test_tokens d

pub reference_is : (x : TableReference) → reference_tokens x ≡ reference_step (reference_parts (out-TableReference x))
unfolding join_tokens operand_tokens predicate_tokens primary_tokens source_tokens addend_tokens condition_tokens conjunction_tokens expression_tokens factor_tokens negation_tokens query_tokens select_tokens item_tokens reference_tokens term_tokens test_tokens
reference_is x = fold_out-TableReference _ _ _ _ _ _ _ _ _ _ _ _ _ _ _ _ _ join_step operand_step predicate_step primary_step source_step addend_step condition_step conjunction_step expression_step factor_step negation_step query_step select_step item_step reference_step term_step test_step x

abbrev pub term_parts : Node Term-F → Layer Term-F
term_parts d = map-Term _ _ _ _ _ _ _ _ _ _ _ _ _ _ _ _ _ _ _ _ _ _ _ _ _ _ _ _ _ _ _ _ _ _ join_tokens operand_tokens predicate_tokens primary_tokens source_tokens addend_tokens condition_tokens conjunction_tokens expression_tokens factor_tokens negation_tokens query_tokens select_tokens item_tokens reference_tokens term_tokens test_tokens d

pub term_is : (x : Term) → term_tokens x ≡ term_step (term_parts (out-Term x))
unfolding join_tokens operand_tokens predicate_tokens primary_tokens source_tokens addend_tokens condition_tokens conjunction_tokens expression_tokens factor_tokens negation_tokens query_tokens select_tokens item_tokens reference_tokens term_tokens test_tokens
term_is x = fold_out-Term _ _ _ _ _ _ _ _ _ _ _ _ _ _ _ _ _ join_step operand_step predicate_step primary_step source_step addend_step condition_step conjunction_step expression_step factor_step negation_step query_step select_step item_step reference_step term_step test_step x

abbrev pub test_parts : Node Test-F → Layer Test-F
test_parts d = map-Test _ _ _ _ _ _ _ _ _ _ _ _ _ _ _ _ _ _ _ _ _ _ _ _ _ _ _ _ _ _ _ _ _ _ join_tokens operand_tokens predicate_tokens primary_tokens source_tokens addend_tokens condition_tokens conjunction_tokens expression_tokens factor_tokens negation_tokens query_tokens select_tokens item_tokens reference_tokens term_tokens test_tokens d

pub test_is : (x : Test) → test_tokens x ≡ test_step (test_parts (out-Test x))
unfolding join_tokens operand_tokens predicate_tokens primary_tokens source_tokens addend_tokens condition_tokens conjunction_tokens expression_tokens factor_tokens negation_tokens query_tokens select_tokens item_tokens reference_tokens term_tokens test_tokens
test_is x = fold_out-Test _ _ _ _ _ _ _ _ _ _ _ _ _ _ _ _ _ join_step operand_step predicate_step primary_step source_step addend_step condition_step conjunction_step expression_step factor_step negation_step query_step select_step item_step reference_step term_step test_step x
