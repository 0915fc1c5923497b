use Rattle.std.proofs.Common.{◌≡◌, take}
use Rattle.syntax_tests.specs.Escapes.{line_of}
use Rattle.syntax_tests.proofs.escapes.escaped.Given as goal

abbrev pub invariant-loop-byte : goal.invariant-loop-byte
invariant-loop-byte l = l.line.items ≡ line_of (take l.byte-index l.text)
