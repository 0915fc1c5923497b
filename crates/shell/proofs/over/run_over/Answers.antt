use Rattle.std.proofs.Common.{refl, inr}
use Rattle.endings.proofs.Said.{told_alone}
use Rattle.shell.proofs.over.run_over.Goals as goal

pub returns-in-Ok-clause-status : goal.returns-in-Ok-clause-status
returns-in-Ok-clause-status g c = c.run_to_end.ensures.status

pub returns-in-Ok-clause-runs : goal.returns-in-Ok-clause-runs
returns-in-Ok-clause-runs g c = rw c.in-Ok.is c.run_to_end.ensures.runs

pub returns-in-Ok-clause-ends : goal.returns-in-Ok-clause-ends
returns-in-Ok-clause-ends g c = rw c.in-Ok.is c.run_to_end.ensures.ends

pub returns-in-Ok-clause-unreadable : goal.returns-in-Ok-clause-unreadable
returns-in-Ok-clause-unreadable g c = rw c.in-Ok.is c.run_to_end.ensures.unreadable

pub returns-in-Ok-clause-begun : goal.returns-in-Ok-clause-begun
returns-in-Ok-clause-begun g c = rw c.in-Ok.is c.run_to_end.ensures.begun

pub returns-in-Ok-clause-not_opened : goal.returns-in-Ok-clause-not_opened
returns-in-Ok-clause-not_opened g c = rw c.in-Ok.is tt

pub returns-in-Err-clause-status : goal.returns-in-Err-clause-status
returns-in-Err-clause-status g c = inr (inr c.failed.ensures.status)

pub returns-in-Err-clause-runs : goal.returns-in-Err-clause-runs
returns-in-Err-clause-runs g c = rw c.in-Err.is tt

pub returns-in-Err-clause-ends : goal.returns-in-Err-clause-ends
returns-in-Err-clause-ends g c = rw c.in-Err.is tt

pub returns-in-Err-clause-unreadable : goal.returns-in-Err-clause-unreadable
returns-in-Err-clause-unreadable g c = rw c.in-Err.is tt

pub returns-in-Err-clause-begun : goal.returns-in-Err-clause-begun
returns-in-Err-clause-begun g c = rw c.in-Err.is tt

pub returns-in-Err-clause-not_opened : goal.returns-in-Err-clause-not_opened
returns-in-Err-clause-not_opened g c = rw c.in-Err.is (refl, told_alone _ _ _ _ c.failed.ensures.tells, c.failed.ensures.status)

pub returns-in-Ok-clause-nothing : goal.returns-in-Ok-clause-nothing
returns-in-Ok-clause-nothing g c = rw c.in-Ok.is tt

pub returns-in-Err-clause-nothing : goal.returns-in-Err-clause-nothing
returns-in-Err-clause-nothing g c = rw c.in-Err.is (c.failed.ensures.device, c.failed.ensures.unclosed)
