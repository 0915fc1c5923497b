use Rattle.operator_laws.proofs.Multiplicity.{times-combined}
use Rattle.operator_laws.proofs.operators.set_operators_go_by_multiplicities.Goals as goal

pub returns : goal.returns
returns c = times-combined
