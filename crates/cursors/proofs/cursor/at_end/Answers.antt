use Rattle.std.proofs.Common.{refl}
use Rattle.cursors.proofs.Counts.{no_device, no_limit}
use Rattle.cursors.proofs.cursor.at_end.Goals as goal

pub returns-in-Some-clause-refused : goal.returns-in-Some-clause-refused
returns-in-Some-clause-refused c = (c.in-Some.fault, c.refusal_of_fault.ensures, c.in-Some.is)

pub returns-in-Some-clause-limits : goal.returns-in-Some-clause-limits
returns-in-Some-clause-limits c = rw c.refusal_of_fault.ensures (no_limit c.in-Some.fault)

pub returns-in-Some-clause-device : goal.returns-in-Some-clause-device
returns-in-Some-clause-device c = rw c.refusal_of_fault.ensures (no_device c.in-Some.fault)

pub returns-in-None-clause-end : goal.returns-in-None-clause-end
returns-in-None-clause-end c = (refl, c.in-None.is)

pub returns-in-None-clause-refused : goal.returns-in-None-clause-refused
returns-in-None-clause-refused c = tt

pub returns-in-None-clause-limits : goal.returns-in-None-clause-limits
returns-in-None-clause-limits c = tt

pub returns-in-None-clause-device : goal.returns-in-None-clause-device
returns-in-None-clause-device c = tt

pub returns-in-Some-clause-end : goal.returns-in-Some-clause-end
returns-in-Some-clause-end c = tt
