use Rattle.std.proofs.Common.{length}
use Rattle.lexer.proofs.Recognized.{IsAmong}
use Rattle.lexer.proofs.recognition.after_words.Given as goal

abbrev pub invariant-loop-left : goal.invariant-loop-left
invariant-loop-left l = IsAmong l.fn.words l.fn.text l.left l.rest

abbrev pub decreases-loop-left : goal.decreases-loop-left
decreases-loop-left l = length l.left
