use Rattle.update_delete.proofs.held.check_truth.Goals as goal

pub returns : goal.returns
returns c = rw c.new.ensures at c.truth_at.ensures
