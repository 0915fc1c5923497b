use Rattle.check_laws.proofs.OneCondition.{one_condition}
use Rattle.check_laws.proofs.laws.a_check_is_one_condition.Goals as goal

pub returns : goal.returns
returns c name columns text one other h k = one_condition c.a_text_has_tokens_or_a_fault.ensures.one_list c.tokens_have_at_most_one_tree.ensures.condition name columns text one other h k
