-- Of a node of a tree, what it is found to be, from what its parts are: for any node at once.
use Rattle.std.proofs.Common.{◌≡◌}
use Rattle.ast.specs.declared.tree.Join.{Join, Join-F, roll-Join, map-Join, fold-roll-Join}
use Rattle.ast.specs.declared.tree.Operand.{Operand, Operand-F, roll-Operand, map-Operand, fold-roll-Operand}
use Rattle.ast.specs.declared.tree.Predicate.{Predicate, Predicate-F, roll-Predicate, map-Predicate, fold-roll-Predicate}
use Rattle.ast.specs.declared.tree.Primary.{Primary, Primary-F, roll-Primary, map-Primary, fold-roll-Primary}
use Rattle.ast.specs.declared.tree.TableSource.{TableSource, TableSource-F, roll-TableSource, map-TableSource, fold-roll-TableSource}
use Rattle.ast.specs.declared.tree.Addend.{Addend, Addend-F, roll-Addend, map-Addend, fold-roll-Addend}
use Rattle.ast.specs.declared.tree.Condition.{Condition, Condition-F, roll-Condition, map-Condition, fold-roll-Condition}
use Rattle.ast.specs.declared.tree.Conjunction.{Conjunction, Conjunction-F, roll-Conjunction, map-Conjunction, fold-roll-Conjunction}
use Rattle.ast.specs.declared.tree.Expression.{Expression, Expression-F, roll-Expression, map-Expression, fold-roll-Expression}
use Rattle.ast.specs.declared.tree.Factor.{Factor, Factor-F, roll-Factor, map-Factor, fold-roll-Factor}
use Rattle.ast.specs.declared.tree.Negation.{Negation, Negation-F, roll-Negation, map-Negation, fold-roll-Negation}
use Rattle.ast.specs.declared.tree.Query.{Query, Query-F, roll-Query, map-Query, fold-roll-Query}
use Rattle.ast.specs.declared.tree.Select.{Select, Select-F, roll-Select, map-Select, fold-roll-Select}
use Rattle.ast.specs.declared.tree.SelectItem.{SelectItem, SelectItem-F, roll-SelectItem, map-SelectItem, fold-roll-SelectItem}
use Rattle.ast.specs.declared.tree.TableReference.{TableReference, TableReference-F, roll-TableReference, map-TableReference, fold-roll-TableReference}
use Rattle.ast.specs.declared.tree.Term.{Term, Term-F, roll-Term, map-Term, fold-roll-Term}
use Rattle.ast.specs.declared.tree.Test.{Test, Test-F, roll-Test, map-Test, fold-roll-Test}
use Rattle.typing.specs.Known.{Known}
use Rattle.typing.specs.Typing.{Layer, join_step, operand_step, predicate_step, primary_step, source_step, addend_step, condition_step, conjunction_step, expression_step, factor_step, negation_step, query_step, select_step, item_step, reference_step, term_step, test_step, join_part, operand_found, predicate_part, primary_part, source_part, addend_found, condition_part, conjunction_part, expression_part, factor_part, negation_part, query_found, select_found, item_part, reference_part, term_part, test_part}

-- a node of trees
abbrev pub Node : ((A B C D E F G H I J K L M N O P Q : Type 0) → Type 0) → Type 0
Node T = T Join Operand Predicate Primary TableSource Addend Condition Conjunction Expression Factor Negation Query Select SelectItem TableReference Term Test

module _ (k : Known) where
  abbrev pub join_meant : Node Join-F → Layer Join-F
  join_meant d = map-Join _ _ _ _ _ _ _ _ _ _ _ _ _ _ _ _ _ _ _ _ _ _ _ _ _ _ _ _ _ _ _ _ _ _ (join_part k) (operand_found k) (predicate_part k) (primary_part k) (source_part k) (addend_found k) (condition_part k) (conjunction_part k) (expression_part k) (factor_part k) (negation_part k) (query_found k) (select_found k) (item_part k) (reference_part k) (term_part k) (test_part k) d

  pub join_rolled : (d : Node Join-F) → join_part k (roll-Join d) ≡ join_step (join_meant d)
  unfolding join_part operand_found predicate_part primary_part source_part addend_found condition_part conjunction_part expression_part factor_part negation_part query_found select_found item_part reference_part term_part test_part
  join_rolled d = fold-roll-Join _ _ _ _ _ _ _ _ _ _ _ _ _ _ _ _ _ join_step operand_step predicate_step primary_step (source_step k) addend_step condition_step conjunction_step expression_step factor_step negation_step query_step select_step item_step reference_step term_step test_step d

  abbrev pub operand_meant : Node Operand-F → Layer Operand-F
  operand_meant d = map-Operand _ _ _ _ _ _ _ _ _ _ _ _ _ _ _ _ _ _ _ _ _ _ _ _ _ _ _ _ _ _ _ _ _ _ (join_part k) (operand_found k) (predicate_part k) (primary_part k) (source_part k) (addend_found k) (condition_part k) (conjunction_part k) (expression_part k) (factor_part k) (negation_part k) (query_found k) (select_found k) (item_part k) (reference_part k) (term_part k) (test_part k) d

  pub operand_rolled : (d : Node Operand-F) → operand_found k (roll-Operand d) ≡ operand_step (operand_meant d)
  unfolding join_part operand_found predicate_part primary_part source_part addend_found condition_part conjunction_part expression_part factor_part negation_part query_found select_found item_part reference_part term_part test_part
  operand_rolled d = fold-roll-Operand _ _ _ _ _ _ _ _ _ _ _ _ _ _ _ _ _ join_step operand_step predicate_step primary_step (source_step k) addend_step condition_step conjunction_step expression_step factor_step negation_step query_step select_step item_step reference_step term_step test_step d

  abbrev pub predicate_meant : Node Predicate-F → Layer Predicate-F
  predicate_meant d = map-Predicate _ _ _ _ _ _ _ _ _ _ _ _ _ _ _ _ _ _ _ _ _ _ _ _ _ _ _ _ _ _ _ _ _ _ (join_part k) (operand_found k) (predicate_part k) (primary_part k) (source_part k) (addend_found k) (condition_part k) (conjunction_part k) (expression_part k) (factor_part k) (negation_part k) (query_found k) (select_found k) (item_part k) (reference_part k) (term_part k) (test_part k) d

  pub predicate_rolled : (d : Node Predicate-F) → predicate_part k (roll-Predicate d) ≡ predicate_step (predicate_meant d)
  unfolding join_part operand_found predicate_part primary_part source_part addend_found condition_part conjunction_part expression_part factor_part negation_part query_found select_found item_part reference_part term_part test_part
  predicate_rolled d = fold-roll-Predicate _ _ _ _ _ _ _ _ _ _ _ _ _ _ _ _ _ join_step operand_step predicate_step primary_step (source_step k) addend_step condition_step conjunction_step expression_step factor_step negation_step query_step select_step item_step reference_step term_step test_step d

  abbrev pub primary_meant : Node Primary-F → Layer Primary-F
  primary_meant d = map-Primary _ _ _ _ _ _ _ _ _ _ _ _ _ _ _ _ _ _ _ _ _ _ _ _ _ _ _ _ _ _ _ _ _ _ (join_part k) (operand_found k) (predicate_part k) (primary_part k) (source_part k) (addend_found k) (condition_part k) (conjunction_part k) (expression_part k) (factor_part k) (negation_part k) (query_found k) (select_found k) (item_part k) (reference_part k) (term_part k) (test_part k) d

  pub primary_rolled : (d : Node Primary-F) → primary_part k (roll-Primary d) ≡ primary_step (primary_meant d)
  unfolding join_part operand_found predicate_part primary_part source_part addend_found condition_part conjunction_part expression_part factor_part negation_part query_found select_found item_part reference_part term_part test_part
  primary_rolled d = fold-roll-Primary _ _ _ _ _ _ _ _ _ _ _ _ _ _ _ _ _ join_step operand_step predicate_step primary_step (source_step k) addend_step condition_step conjunction_step expression_step factor_step negation_step query_step select_step item_step reference_step term_step test_step d

  abbrev pub source_meant : Node TableSource-F → Layer TableSource-F
  source_meant d = map-TableSource _ _ _ _ _ _ _ _ _ _ _ _ _ _ _ _ _ _ _ _ _ _ _ _ _ _ _ _ _ _ _ _ _ _ (join_part k) (operand_found k) (predicate_part k) (primary_part k) (source_part k) (addend_found k) (condition_part k) (conjunction_part k) (expression_part k) (factor_part k) (negation_part k) (query_found k) (select_found k) (item_part k) (reference_part k) (term_part k) (test_part k) d

  pub source_rolled : (d : Node TableSource-F) → source_part k (roll-TableSource d) ≡ source_step k (source_meant d)
  unfolding join_part operand_found predicate_part primary_part source_part addend_found condition_part conjunction_part expression_part factor_part negation_part query_found select_found item_part reference_part term_part test_part
  source_rolled d = fold-roll-TableSource _ _ _ _ _ _ _ _ _ _ _ _ _ _ _ _ _ join_step operand_step predicate_step primary_step (source_step k) addend_step condition_step conjunction_step expression_step factor_step negation_step query_step select_step item_step reference_step term_step test_step d

  abbrev pub addend_meant : Node Addend-F → Layer Addend-F
  addend_meant d = map-Addend _ _ _ _ _ _ _ _ _ _ _ _ _ _ _ _ _ _ _ _ _ _ _ _ _ _ _ _ _ _ _ _ _ _ (join_part k) (operand_found k) (predicate_part k) (primary_part k) (source_part k) (addend_found k) (condition_part k) (conjunction_part k) (expression_part k) (factor_part k) (negation_part k) (query_found k) (select_found k) (item_part k) (reference_part k) (term_part k) (test_part k) d

  pub addend_rolled : (d : Node Addend-F) → addend_found k (roll-Addend d) ≡ addend_step (addend_meant d)
  unfolding join_part operand_found predicate_part primary_part source_part addend_found condition_part conjunction_part expression_part factor_part negation_part query_found select_found item_part reference_part term_part test_part
  addend_rolled d = fold-roll-Addend _ _ _ _ _ _ _ _ _ _ _ _ _ _ _ _ _ join_step operand_step predicate_step primary_step (source_step k) addend_step condition_step conjunction_step expression_step factor_step negation_step query_step select_step item_step reference_step term_step test_step d

  abbrev pub condition_meant : Node Condition-F → Layer Condition-F
  condition_meant d = map-Condition _ _ _ _ _ _ _ _ _ _ _ _ _ _ _ _ _ _ _ _ _ _ _ _ _ _ _ _ _ _ _ _ _ _ (join_part k) (operand_found k) (predicate_part k) (primary_part k) (source_part k) (addend_found k) (condition_part k) (conjunction_part k) (expression_part k) (factor_part k) (negation_part k) (query_found k) (select_found k) (item_part k) (reference_part k) (term_part k) (test_part k) d

  pub condition_rolled : (d : Node Condition-F) → condition_part k (roll-Condition d) ≡ condition_step (condition_meant d)
  unfolding join_part operand_found predicate_part primary_part source_part addend_found condition_part conjunction_part expression_part factor_part negation_part query_found select_found item_part reference_part term_part test_part
  condition_rolled d = fold-roll-Condition _ _ _ _ _ _ _ _ _ _ _ _ _ _ _ _ _ join_step operand_step predicate_step primary_step (source_step k) addend_step condition_step conjunction_step expression_step factor_step negation_step query_step select_step item_step reference_step term_step test_step d

  abbrev pub conjunction_meant : Node Conjunction-F → Layer Conjunction-F
  conjunction_meant d = map-Conjunction _ _ _ _ _ _ _ _ _ _ _ _ _ _ _ _ _ _ _ _ _ _ _ _ _ _ _ _ _ _ _ _ _ _ (join_part k) (operand_found k) (predicate_part k) (primary_part k) (source_part k) (addend_found k) (condition_part k) (conjunction_part k) (expression_part k) (factor_part k) (negation_part k) (query_found k) (select_found k) (item_part k) (reference_part k) (term_part k) (test_part k) d

  pub conjunction_rolled : (d : Node Conjunction-F) → conjunction_part k (roll-Conjunction d) ≡ conjunction_step (conjunction_meant d)
  unfolding join_part operand_found predicate_part primary_part source_part addend_found condition_part conjunction_part expression_part factor_part negation_part query_found select_found item_part reference_part term_part test_part
  conjunction_rolled d = fold-roll-Conjunction _ _ _ _ _ _ _ _ _ _ _ _ _ _ _ _ _ join_step operand_step predicate_step primary_step (source_step k) addend_step condition_step conjunction_step expression_step factor_step negation_step query_step select_step item_step reference_step term_step test_step d

  abbrev pub expression_meant : Node Expression-F → Layer Expression-F
  expression_meant d = map-Expression _ _ _ _ _ _ _ _ _ _ _ _ _ _ _ _ _ _ _ _ _ _ _ _ _ _ _ _ _ _ _ _ _ _ (join_part k) (operand_found k) (predicate_part k) (primary_part k) (source_part k) (addend_found k) (condition_part k) (conjunction_part k) (expression_part k) (factor_part k) (negation_part k) (query_found k) (select_found k) (item_part k) (reference_part k) (term_part k) (test_part k) d

  pub expression_rolled : (d : Node Expression-F) → expression_part k (roll-Expression d) ≡ expression_step (expression_meant d)
  unfolding join_part operand_found predicate_part primary_part source_part addend_found condition_part conjunction_part expression_part factor_part negation_part query_found select_found item_part reference_part term_part test_part
  expression_rolled d = fold-roll-Expression _ _ _ _ _ _ _ _ _ _ _ _ _ _ _ _ _ join_step operand_step predicate_step primary_step (source_step k) addend_step condition_step conjunction_step expression_step factor_step negation_step query_step select_step item_step reference_step term_step test_step d

  abbrev pub factor_meant : Node Factor-F → Layer Factor-F
  factor_meant d = map-Factor _ _ _ _ _ _ _ _ _ _ _ _ _ _ _ _ _ _ _ _ _ _ _ _ _ _ _ _ _ _ _ _ _ _ (join_part k) (operand_found k) (predicate_part k) (primary_part k) (source_part k) (addend_found k) (condition_part k) (conjunction_part k) (expression_part k) (factor_part k) (negation_part k) (query_found k) (select_found k) (item_part k) (reference_part k) (term_part k) (test_part k) d

  pub factor_rolled : (d : Node Factor-F) → factor_part k (roll-Factor d) ≡ factor_step (factor_meant d)
  unfolding join_part operand_found predicate_part primary_part source_part addend_found condition_part conjunction_part expression_part factor_part negation_part query_found select_found item_part reference_part term_part test_part
  factor_rolled d = fold-roll-Factor _ _ _ _ _ _ _ _ _ _ _ _ _ _ _ _ _ join_step operand_step predicate_step primary_step (source_step k) addend_step condition_step conjunction_step expression_step factor_step negation_step query_step select_step item_step reference_step term_step test_step d

  abbrev pub negation_meant : Node Negation-F → Layer Negation-F
  negation_meant d = map-Negation _ _ _ _ _ _ _ _ _ _ _ _ _ _ _ _ _ _ _ _ _ _ _ _ _ _ _ _ _ _ _ _ _ _ (join_part k) (operand_found k) (predicate_part k) (primary_part k) (source_part k) (addend_found k) (condition_part k) (conjunction_part k) (expression_part k) (factor_part k) (negation_part k) (query_found k) (select_found k) (item_part k) (reference_part k) (term_part k) (test_part k) d

  pub negation_rolled : (d : Node Negation-F) → negation_part k (roll-Negation d) ≡ negation_step (negation_meant d)
  unfolding join_part operand_found predicate_part primary_part source_part addend_found condition_part conjunction_part expression_part factor_part negation_part query_found select_found item_part reference_part term_part test_part
  negation_rolled d = fold-roll-Negation _ _ _ _ _ _ _ _ _ _ _ _ _ _ _ _ _ join_step operand_step predicate_step primary_step (source_step k) addend_step condition_step conjunction_step expression_step factor_step negation_step query_step select_step item_step reference_step term_step test_step d

  abbrev pub query_meant : Node Query-F → Layer Query-F
  query_meant d = map-Query _ _ _ _ _ _ _ _ _ _ _ _ _ _ _ _ _ _ _ _ _ _ _ _ _ _ _ _ _ _ _ _ _ _ (join_part k) (operand_found k) (predicate_part k) (primary_part k) (source_part k) (addend_found k) (condition_part k) (conjunction_part k) (expression_part k) (factor_part k) (negation_part k) (query_found k) (select_found k) (item_part k) (reference_part k) (term_part k) (test_part k) d

  pub query_rolled : (d : Node Query-F) → query_found k (roll-Query d) ≡ query_step (query_meant d)
  unfolding join_part operand_found predicate_part primary_part source_part addend_found condition_part conjunction_part expression_part factor_part negation_part query_found select_found item_part reference_part term_part test_part
  query_rolled d = fold-roll-Query _ _ _ _ _ _ _ _ _ _ _ _ _ _ _ _ _ join_step operand_step predicate_step primary_step (source_step k) addend_step condition_step conjunction_step expression_step factor_step negation_step query_step select_step item_step reference_step term_step test_step d

  abbrev pub select_meant : Node Select-F → Layer Select-F
  select_meant d = map-Select _ _ _ _ _ _ _ _ _ _ _ _ _ _ _ _ _ _ _ _ _ _ _ _ _ _ _ _ _ _ _ _ _ _ (join_part k) (operand_found k) (predicate_part k) (primary_part k) (source_part k) (addend_found k) (condition_part k) (conjunction_part k) (expression_part k) (factor_part k) (negation_part k) (query_found k) (select_found k) (item_part k) (reference_part k) (term_part k) (test_part k) d

  pub select_rolled : (d : Node Select-F) → select_found k (roll-Select d) ≡ select_step (select_meant d)
  unfolding join_part operand_found predicate_part primary_part source_part addend_found condition_part conjunction_part expression_part factor_part negation_part query_found select_found item_part reference_part term_part test_part
  select_rolled d = fold-roll-Select _ _ _ _ _ _ _ _ _ _ _ _ _ _ _ _ _ join_step operand_step predicate_step primary_step (source_step k) addend_step condition_step conjunction_step expression_step factor_step negation_step query_step select_step item_step reference_step term_step test_step d

  abbrev pub item_meant : Node SelectItem-F → Layer SelectItem-F
  item_meant d = map-SelectItem _ _ _ _ _ _ _ _ _ _ _ _ _ _ _ _ _ _ _ _ _ _ _ _ _ _ _ _ _ _ _ _ _ _ (join_part k) (operand_found k) (predicate_part k) (primary_part k) (source_part k) (addend_found k) (condition_part k) (conjunction_part k) (expression_part k) (factor_part k) (negation_part k) (query_found k) (select_found k) (item_part k) (reference_part k) (term_part k) (test_part k) d

  pub item_rolled : (d : Node SelectItem-F) → item_part k (roll-SelectItem d) ≡ item_step (item_meant d)
  unfolding join_part operand_found predicate_part primary_part source_part addend_found condition_part conjunction_part expression_part factor_part negation_part query_found select_found item_part reference_part term_part test_part
  item_rolled d = fold-roll-SelectItem _ _ _ _ _ _ _ _ _ _ _ _ _ _ _ _ _ join_step operand_step predicate_step primary_step (source_step k) addend_step condition_step conjunction_step expression_step factor_step negation_step query_step select_step item_step reference_step term_step test_step d

  abbrev pub reference_meant : Node TableReference-F → Layer TableReference-F
  reference_meant d = map-TableReference _ _ _ _ _ _ _ _ _ _ _ _ _ _ _ _ _ _ _ _ _ _ _ _ _ _ _ _ _ _ _ _ _ _ (join_part k) (operand_found k) (predicate_part k) (primary_part k) (source_part k) (addend_found k) (condition_part k) (conjunction_part k) (expression_part k) (factor_part k) (negation_part k) (query_found k) (select_found k) (item_part k) (reference_part k) (term_part k) (test_part k) d

  pub reference_rolled : (d : Node TableReference-F) → reference_part k (roll-TableReference d) ≡ reference_step (reference_meant d)
  unfolding join_part operand_found predicate_part primary_part source_part addend_found condition_part conjunction_part expression_part factor_part negation_part query_found select_found item_part reference_part term_part test_part
  reference_rolled d = fold-roll-TableReference _ _ _ _ _ _ _ _ _ _ _ _ _ _ _ _ _ join_step operand_step predicate_step primary_step (source_step k) addend_step condition_step conjunction_step expression_step factor_step negation_step query_step select_step item_step reference_step term_step test_step d

  abbrev pub term_meant : Node Term-F → Layer Term-F
  term_meant d = map-Term _ _ _ _ _ _ _ _ _ _ _ _ _ _ _ _ _ _ _ _ _ _ _ _ _ _ _ _ _ _ _ _ _ _ (join_part k) (operand_found k) (predicate_part k) (primary_part k) (source_part k) (addend_found k) (condition_part k) (conjunction_part k) (expression_part k) (factor_part k) (negation_part k) (query_found k) (select_found k) (item_part k) (reference_part k) (term_part k) (test_part k) d

  pub term_rolled : (d : Node Term-F) → term_part k (roll-Term d) ≡ term_step (term_meant d)
  unfolding join_part operand_found predicate_part primary_part source_part addend_found condition_part conjunction_part expression_part factor_part negation_part query_found select_found item_part reference_part term_part test_part
  term_rolled d = fold-roll-Term _ _ _ _ _ _ _ _ _ _ _ _ _ _ _ _ _ join_step operand_step predicate_step primary_step (source_step k) addend_step condition_step conjunction_step expression_step factor_step negation_step query_step select_step item_step reference_step term_step test_step d

  abbrev pub test_meant : Node Test-F → Layer Test-F
  test_meant d = map-Test _ _ _ _ _ _ _ _ _ _ _ _ _ _ _ _ _ _ _ _ _ _ _ _ _ _ _ _ _ _ _ _ _ _ (join_part k) (operand_found k) (predicate_part k) (primary_part k) (source_part k) (addend_found k) (condition_part k) (conjunction_part k) (expression_part k) (factor_part k) (negation_part k) (query_found k) (select_found k) (item_part k) (reference_part k) (term_part k) (test_part k) d

  pub test_rolled : (d : Node Test-F) → test_part k (roll-Test d) ≡ test_step (test_meant d)
  unfolding join_part operand_found predicate_part primary_part source_part addend_found condition_part conjunction_part expression_part factor_part negation_part query_found select_found item_part reference_part term_part test_part
  test_rolled d = fold-roll-Test _ _ _ _ _ _ _ _ _ _ _ _ _ _ _ _ _ join_step operand_step predicate_step primary_step (source_step k) addend_step condition_step conjunction_step expression_step factor_step negation_step query_step select_step item_step reference_step term_step test_step d
