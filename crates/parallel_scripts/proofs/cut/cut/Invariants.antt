use Rattle.std.proofs.Common.{take}
use Rattle.parallel_scripts.specs.Cut.{texts_in}
use Rattle.parallel_scripts.proofs.Cutting.{HasCut}
use Rattle.parallel_scripts.proofs.cut.cut.Given as goal

abbrev pub invariant-loop-byte : goal.invariant-loop-byte
invariant-loop-byte l = HasCut (take l.byte-index l.bytes) l.cutter (texts_in l.script.texts.items) l.script.parts.items
