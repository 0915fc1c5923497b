use Rattle.streams.proofs.ReadNodes.{read_whole}
use Rattle.streams.proofs.whole.whole_given.Goals as goal

pub returns-in-Ok-clause-reads : goal.returns-in-Ok-clause-reads
returns-in-Ok-clause-reads c = λ entries tree h. read_whole entries c.kept_rows.new.place tree (rw c.in-Ok.is at c.kept_rows.ensures.kept h)
