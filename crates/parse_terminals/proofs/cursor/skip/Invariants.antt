use Rattle.std.proofs.Common.{◌≡◌, ◌+◌, ◌≤◌, length}
use Rattle.parse_terminals.specs.Readers.{kinds}
use Rattle.parse_terminals.specs.Readers as read
use Rattle.parse_terminals.proofs.cursor.skip.Given as goal

abbrev pub invariant-loop-rest : goal.invariant-loop-rest
invariant-loop-rest l = (read.skip (kinds l.fn.tokens) 0 ≡ read.skip (kinds l.rest) l.open) × (l.open + length l.rest ≤ length l.fn.tokens)

abbrev pub decreases-loop-rest : goal.decreases-loop-rest
decreases-loop-rest l = length l.rest
