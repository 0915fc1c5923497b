use Rattle.std.proofs.Common.{◌≡◌}
use Rattle.csvio.specs.Dumping.{order_text}
use Rattle.csvio.proofs.query_text.order_text.Given as goal

-- the positions so far
abbrev pub invariant-loop-position : goal.invariant-loop-position
invariant-loop-position l = l.text.items ≡ order_text l.position
