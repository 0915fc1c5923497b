use Rattle.std.proofs.Common.{◌≡◌, [], false, length, ◌≤◌}
use Rattle.lexer.specs.Reading.{string_from}
use Rattle.lexer.proofs.strings.read_string.Given as goal

abbrev pub invariant-loop-rest : goal.invariant-loop-rest
invariant-loop-rest l = (string_from false [] l.fn.bytes ≡ string_from l.pending l.done l.rest) × (length l.rest ≤ length l.fn.bytes)

abbrev pub decreases-loop-rest : goal.decreases-loop-rest
decreases-loop-rest l = length l.rest
