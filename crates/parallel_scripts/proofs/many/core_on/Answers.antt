use Rattle.parallel_scripts.proofs.many.core_on.Goals as goal

pub returns-clause-opened : goal.returns-clause-opened
returns-clause-opened g c = c.open.ensures.opened

pub returns-clause-empty : goal.returns-clause-empty
returns-clause-empty g c = c.open.ensures.empty

pub returns-clause-readable : goal.returns-clause-readable
returns-clause-readable g c = c.open.ensures.readable

pub returns-clause-counts : goal.returns-clause-counts
returns-clause-counts g c = c.open.ensures.counts

pub returns-clause-refused : goal.returns-clause-refused
returns-clause-refused g c = c.open.ensures.stops

pub returns-clause-device : goal.returns-clause-device
returns-clause-device g c = c.open.ensures.device

pub returns-clause-begun : goal.returns-clause-begun
returns-clause-begun g c = c.open.ensures.begun

pub returns-clause-same : goal.returns-clause-same
returns-clause-same g c = c.open.ensures.same

pub returns-clause-left : goal.returns-clause-left
returns-clause-left g c = c.open.ensures.left
