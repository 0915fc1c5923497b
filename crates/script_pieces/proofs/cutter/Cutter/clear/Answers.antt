use Rattle.std.proofs.Common.{refl}
use Rattle.script_pieces.proofs.Cutters.{fresh}
use Rattle.script_pieces.proofs.cutter.Cutter.clear.Goals as goal

pub returns : goal.returns
returns c = fresh _ refl refl c.clear.ensures
