use Rattle.query_answers.proofs.Faults.{first_given}
use Rattle.update_delete.proofs.touched.truth_at.Goals as goal

pub returns : goal.returns
returns c = first_given c.condition_truth.result _ c.condition_truth.ensures.gives
