use Rattle.known_tables.proofs.Whole.{all-fit, all-indexed}
use Rattle.known_tables.proofs.laws.described_tables_are_known.Goals as goal

pub returns-clause-fits : goal.returns-clause-fits
returns-clause-fits c = all-fit

pub returns-clause-indexed : goal.returns-clause-indexed
returns-clause-indexed c = all-indexed
