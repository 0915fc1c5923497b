use Rattle.rule_laws.proofs.Good.{good_by_every}
use Rattle.rule_laws.proofs.theorems.good_databases_are_good_by_every_reading.Goals as goal

pub returns : goal.returns
returns c = good_by_every
