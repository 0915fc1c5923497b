use Rattle.std.proofs.Common.{take}
use Rattle.parallel_scripts.specs.Cut.{AreCut}
use Rattle.parallel_scripts.proofs.cut.cut_all.Given as goal

abbrev pub invariant-loop-bytes : goal.invariant-loop-bytes
invariant-loop-bytes l = AreCut (take l.bytes-index l.scripts) l.all.texts.items l.all.parts.items
