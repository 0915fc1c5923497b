use Rattle.shell.proofs.Running.{carries_out, script_ends, status_among}
use Rattle.shell.proofs.run.carry_out.Goals as goal

pub returns-clause-carries_out : goal.returns-clause-carries_out
returns-clause-carries_out g c = λ rules are settled.
    carries_out rules (c.no_reply_is_damaged.ensures.script rules are) _ _ _ _ _ _ _ _ _ c.run-outcome.result _ _ (c.run-outcome.ensures.plays rules are settled)
    (c.run-outcome.ensures.stopped rules are settled) c.ended.ensures.says c.ended.ensures.status

pub returns-clause-ends : goal.returns-clause-ends
returns-clause-ends g c = script_ends _ _ _ _ _ _ _ c.run-outcome.result _ _ c.run-outcome.ensures.shows c.ended.ensures.says c.ended.ensures.status

pub returns-clause-status : goal.returns-clause-status
returns-clause-status g c = status_among c.run-outcome.result _ c.ended.ensures.status

pub returns-clause-settled : goal.returns-clause-settled
returns-clause-settled g c = c.run-outcome.ensures.settled

pub returns-clause-counts : goal.returns-clause-counts
returns-clause-counts g c = c.run-outcome.ensures.counts
