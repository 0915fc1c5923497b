use Rattle.std.proofs.Common.{drop}
use Rattle.lexer.proofs.Recognized.{AreAmong}
use Rattle.lexer.proofs.recognition.are_folded_to.Given as goal

abbrev pub invariant-loop-byte : goal.invariant-loop-byte
invariant-loop-byte l = AreAmong l.fn.run l.fn.text (drop l.byte-index l.fn.run) l.left
