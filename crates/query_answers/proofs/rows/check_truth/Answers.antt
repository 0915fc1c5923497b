use Rattle.query_answers.proofs.Faults.{first_given}
use Rattle.query_answers.proofs.rows.check_truth.Goals as goal

pub returns : goal.returns
returns c = first_given c.condition_truth.result _ c.condition_truth.ensures.gives
