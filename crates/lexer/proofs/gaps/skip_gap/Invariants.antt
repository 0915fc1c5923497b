use Rattle.std.proofs.Common.{◌≡◌, ◌≤◌, length}
use Rattle.lexer.specs.Reading.{gap, gap_from}
use Rattle.lexer.proofs.gaps.skip_gap.Given as goal

abbrev pub invariant-loop-rest : goal.invariant-loop-rest
invariant-loop-rest l = (gap l.fn.bytes ≡ gap_from l.in_comment l.rest) × (length l.rest ≤ length l.fn.bytes)

abbrev pub decreases-loop-rest : goal.decreases-loop-rest
decreases-loop-rest l = length l.rest
