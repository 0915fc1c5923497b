-- The tokens of each kind of tree: the folds of the steps that say them of conditions. And what it
-- is to put tokens at the end of a list.
use Rattle.std.specs.Prelude.{◌≡◌, ◌++◌}
use Rattle.ast.specs.declared.tree.Join.{Join, fold-Join}
use Rattle.ast.specs.declared.tree.Operand.{Operand, fold-Operand}
use Rattle.ast.specs.declared.tree.Predicate.{Predicate, fold-Predicate}
use Rattle.ast.specs.declared.tree.Primary.{Primary, fold-Primary}
use Rattle.ast.specs.declared.tree.TableSource.{TableSource, fold-TableSource}
use Rattle.ast.specs.declared.tree.Addend.{Addend, fold-Addend}
use Rattle.ast.specs.declared.tree.Conjunction.{Conjunction, fold-Conjunction}
use Rattle.ast.specs.declared.tree.Expression.{Expression, fold-Expression}
use Rattle.ast.specs.declared.tree.Factor.{Factor, fold-Factor}
use Rattle.ast.specs.declared.tree.Negation.{Negation, fold-Negation}
use Rattle.ast.specs.declared.tree.Query.{Query, fold-Query}
use Rattle.ast.specs.declared.tree.Select.{Select, fold-Select}
use Rattle.ast.specs.declared.tree.SelectItem.{SelectItem, fold-SelectItem}
use Rattle.ast.specs.declared.tree.TableReference.{TableReference, fold-TableReference}
use Rattle.ast.specs.declared.tree.Term.{Term, fold-Term}
use Rattle.ast.specs.declared.tree.Test.{Test, fold-Test}
use Rattle.ast.specs.Notation.{Tokens}
use Rattle.typing.specs.Printed.{join_step, operand_step, predicate_step, primary_step, source_step, addend_step, condition_step, conjunction_step, expression_step, factor_step, negation_step, query_step, select_step, item_step, reference_step, term_step, test_step}

-- the tokens are put at the end
pub record Puts (tokens old new : Tokens) : Type 0 where
  pub is : new ≡ old ++ tokens

unfoldable pub join_tokens : Join → Tokens
join_tokens = fold-Join _ _ _ _ _ _ _ _ _ _ _ _ _ _ _ _ _ join_step operand_step predicate_step primary_step source_step addend_step condition_step conjunction_step expression_step factor_step negation_step query_step select_step item_step reference_step term_step test_step

unfoldable pub operand_tokens : Operand → Tokens
operand_tokens = fold-Operand _ _ _ _ _ _ _ _ _ _ _ _ _ _ _ _ _ join_step operand_step predicate_step primary_step source_step addend_step condition_step conjunction_step expression_step factor_step negation_step query_step select_step item_step reference_step term_step test_step

unfoldable pub predicate_tokens : Predicate → Tokens
predicate_tokens = fold-Predicate _ _ _ _ _ _ _ _ _ _ _ _ _ _ _ _ _ join_step operand_step predicate_step primary_step source_step addend_step condition_step conjunction_step expression_step factor_step negation_step query_step select_step item_step reference_step term_step test_step

unfoldable pub primary_tokens : Primary → Tokens
primary_tokens = fold-Primary _ _ _ _ _ _ _ _ _ _ _ _ _ _ _ _ _ join_step operand_step predicate_step primary_step source_step addend_step condition_step conjunction_step expression_step factor_step negation_step query_step select_step item_step reference_step term_step test_step

unfoldable pub source_tokens : TableSource → Tokens
source_tokens = fold-TableSource _ _ _ _ _ _ _ _ _ _ _ _ _ _ _ _ _ join_step operand_step predicate_step primary_step source_step addend_step condition_step conjunction_step expression_step factor_step negation_step query_step select_step item_step reference_step term_step test_step

unfoldable pub addend_tokens : Addend → Tokens
addend_tokens = fold-Addend _ _ _ _ _ _ _ _ _ _ _ _ _ _ _ _ _ join_step operand_step predicate_step primary_step source_step addend_step condition_step conjunction_step expression_step factor_step negation_step query_step select_step item_step reference_step term_step test_step

unfoldable pub conjunction_tokens : Conjunction → Tokens
conjunction_tokens = fold-Conjunction _ _ _ _ _ _ _ _ _ _ _ _ _ _ _ _ _ join_step operand_step predicate_step primary_step source_step addend_step condition_step conjunction_step expression_step factor_step negation_step query_step select_step item_step reference_step term_step test_step

unfoldable pub expression_tokens : Expression → Tokens
expression_tokens = fold-Expression _ _ _ _ _ _ _ _ _ _ _ _ _ _ _ _ _ join_step operand_step predicate_step primary_step source_step addend_step condition_step conjunction_step expression_step factor_step negation_step query_step select_step item_step reference_step term_step test_step

unfoldable pub factor_tokens : Factor → Tokens
factor_tokens = fold-Factor _ _ _ _ _ _ _ _ _ _ _ _ _ _ _ _ _ join_step operand_step predicate_step primary_step source_step addend_step condition_step conjunction_step expression_step factor_step negation_step query_step select_step item_step reference_step term_step test_step

unfoldable pub negation_tokens : Negation → Tokens
negation_tokens = fold-Negation _ _ _ _ _ _ _ _ _ _ _ _ _ _ _ _ _ join_step operand_step predicate_step primary_step source_step addend_step condition_step conjunction_step expression_step factor_step negation_step query_step select_step item_step reference_step term_step test_step

unfoldable pub query_tokens : Query → Tokens
query_tokens = fold-Query _ _ _ _ _ _ _ _ _ _ _ _ _ _ _ _ _ join_step operand_step predicate_step primary_step source_step addend_step condition_step conjunction_step expression_step factor_step negation_step query_step select_step item_step reference_step term_step test_step

unfoldable pub select_tokens : Select → Tokens
select_tokens = fold-Select _ _ _ _ _ _ _ _ _ _ _ _ _ _ _ _ _ join_step operand_step predicate_step primary_step source_step addend_step condition_step conjunction_step expression_step factor_step negation_step query_step select_step item_step reference_step term_step test_step

unfoldable pub item_tokens : SelectItem → Tokens
item_tokens = fold-SelectItem _ _ _ _ _ _ _ _ _ _ _ _ _ _ _ _ _ join_step operand_step predicate_step primary_step source_step addend_step condition_step conjunction_step expression_step factor_step negation_step query_step select_step item_step reference_step term_step test_step

unfoldable pub reference_tokens : TableReference → Tokens
reference_tokens = fold-TableReference _ _ _ _ _ _ _ _ _ _ _ _ _ _ _ _ _ join_step operand_step predicate_step primary_step source_step addend_step condition_step conjunction_step expression_step factor_step negation_step query_step select_step item_step reference_step term_step test_step

unfoldable pub term_tokens : Term → Tokens
term_tokens = fold-Term _ _ _ _ _ _ _ _ _ _ _ _ _ _ _ _ _ join_step operand_step predicate_step primary_step source_step addend_step condition_step conjunction_step expression_step factor_step negation_step query_step select_step item_step reference_step term_step test_step

unfoldable pub test_tokens : Test → Tokens
test_tokens = fold-Test _ _ _ _ _ _ _ _ _ _ _ _ _ _ _ _ _ join_step operand_step predicate_step primary_step source_step addend_step condition_step conjunction_step expression_step factor_step negation_step query_step select_step item_step reference_step term_step test_step
