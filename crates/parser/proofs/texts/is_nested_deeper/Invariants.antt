use Rattle.std.proofs.Common.{◌≡◌, ◌+◌, ◌≤◌, length}
use Rattle.parse_terminals.specs.Readers.{kinds}
use Rattle.parser.specs.Shallow.{is_shallow}
use Rattle.parser.proofs.texts.is_nested_deeper.Given as goal

abbrev pub invariant-loop-rest : goal.invariant-loop-rest
invariant-loop-rest l = (is_shallow (kinds l.fn.tokens) 64 ≡ is_shallow (kinds l.rest) l.left) × (l.left + length l.rest ≤ 64 + length l.fn.tokens)

abbrev pub decreases-loop-rest : goal.decreases-loop-rest
decreases-loop-rest l = length l.rest
