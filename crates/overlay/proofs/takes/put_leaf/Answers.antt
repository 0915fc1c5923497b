use Rattle.overlay.proofs.takes.put_leaf.Goals as goal

pub returns-in-Ok-clause-written : goal.returns-in-Ok-clause-written
returns-in-Ok-clause-written c = record { bytes = c.new_leaf.result; kind = c.new_leaf.ensures; both = c.in-Ok.ensures.written }

pub returns-in-Err-clause-left : goal.returns-in-Err-clause-left
returns-in-Err-clause-left c = (c.new_leaf.result, c.in-Err.ensures.left)

pub returns-in-Err-clause-refusal : goal.returns-in-Err-clause-refusal
returns-in-Err-clause-refusal c = c.in-Err.ensures.refusal
