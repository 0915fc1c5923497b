use Rattle.std.proofs.Common.{sym, ◌∙◌}
use Rattle.check_constraints.proofs.reading.read.Goals as goal

pub returns-in-Err-clause-unreadable : goal.returns-in-Err-clause-unreadable
returns-in-Err-clause-unreadable c = λ is readable.
    let memory = c.fault_of.ensures.memory (c.in-Err.ensures.only readable.condition readable.reads readable.nested) in
    absurd (cc (sym memory ∙ is))
