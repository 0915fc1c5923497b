use Rattle.typing.proofs.FlatChains.{ands-flat, ors-flat}
use Rattle.typing.proofs.laws.chains_stay_flat.Goals as goal

pub returns : goal.returns
returns c = record { and = ands-flat; or = ors-flat }
