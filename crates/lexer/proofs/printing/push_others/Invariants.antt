use Rattle.std.proofs.Common.{◌≡◌, ◌++◌, length}
use Rattle.lexer.specs.Printing.{spaced_text, AreKinds}
use Rattle.lexer.proofs.printing.push_others.Given as goal

abbrev pub invariant-loop-rest : goal.invariant-loop-rest
invariant-loop-rest l = record {
  text : l.text.items ++ spaced_text l.rest ≡ l.fn.text.items ++ spaced_text l.kinds;
  kinds : AreKinds l.rest → AreKinds l.kinds;
}

abbrev pub decreases-loop-rest : goal.decreases-loop-rest
decreases-loop-rest l = length l.rest
