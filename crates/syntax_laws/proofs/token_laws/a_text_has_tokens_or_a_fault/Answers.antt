use Rattle.lexer.proofs.Unique.{AreTokens-unique, IsFirstFault-unique, no_fault}
use Rattle.syntax_laws.proofs.Reached.{text_has_one}
use Rattle.syntax_laws.proofs.token_laws.a_text_has_tokens_or_a_fault.Goals as goal

pub returns-clause-one_of_the_two : goal.returns-clause-one_of_the_two
returns-clause-one_of_the_two c text = text_has_one text

pub returns-clause-not_both : goal.returns-clause-not_both
returns-clause-not_both c text tokens fault are first = no_fault text tokens fault are first

pub returns-clause-one_list : goal.returns-clause-one_list
returns-clause-one_list c text tokens others are also = AreTokens-unique text tokens others are also

pub returns-clause-one_fault : goal.returns-clause-one_fault
returns-clause-one_fault c text fault other first also = IsFirstFault-unique text fault other first also
