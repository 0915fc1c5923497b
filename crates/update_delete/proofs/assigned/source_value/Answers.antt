use Rattle.query_answers.proofs.Faults.{first_given}
use Rattle.update_delete.proofs.assigned.source_value.Goals as goal

pub returns : goal.returns
returns c = first_given c.expression_value.result _ c.expression_value.ensures.gives
