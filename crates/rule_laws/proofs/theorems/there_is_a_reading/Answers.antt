use Rattle.rule_laws.proofs.Reading.{reading, is_reading}
use Rattle.rule_laws.proofs.theorems.there_is_a_reading.Goals as goal

pub returns : goal.returns
returns c = (reading, is_reading)
