use Rattle.rule_laws.proofs.Example.{reads, stands_for, text}
use Rattle.rule_laws.proofs.theorems.a_text_stands_for_a_condition.Goals as goal

pub returns : goal.returns
returns c = (text, stands_for, reads)
