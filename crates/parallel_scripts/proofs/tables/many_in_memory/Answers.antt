use Rattle.std.proofs.Common.{refl, inl, ap}
use Rattle.std.specs.FinMap.{empty}
use Rattle.parallel_scripts.proofs.tables.many_in_memory.Goals as goal

pub returns-clause-runs : goal.returns-clause-runs
returns-clause-runs g c = rw c.new-device.ensures at (c.many_on.ensures.runs empty (refl, inl (ap (λ d. d.bytes) c.new-device.ensures, refl)))

pub returns-clause-status : goal.returns-clause-status
returns-clause-status g c = c.many_on.ensures.status

pub returns-clause-many : goal.returns-clause-many
returns-clause-many g c = c.many_on.ensures.many
