use Rattle.std.proofs.Common.{refl}
use Rattle.script_pieces.proofs.Cutters.{fresh}
use Rattle.script_pieces.proofs.cutter.Cutter.new.Goals as goal

pub returns : goal.returns
returns c = fresh _ refl refl c.in_ok-new.ensures
