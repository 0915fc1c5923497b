use Rattle.std.proofs.Common.{refl}
use Rattle.transfers.proofs.files.refuse.Goals as goal

pub returns : goal.returns
returns g c = record { is_told = _; told = c.tell.ensures.tells; failed = refl }
