use Rattle.update_delete.proofs.held.may_hold.Goals as goal

pub returns : goal.returns
returns c = rw c.in_ok-evaluate_checks.ensures.ok c.admit.ensures.passes
