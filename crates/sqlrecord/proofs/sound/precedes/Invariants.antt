use Rattle.std.proofs.Common.{◌≡◌, length}
use Rattle.std.specs.Ordering.{is_lt}
use Rattle.sqlrecord.specs.Key.{byte_order}
use Rattle.sqlrecord.proofs.sound.precedes.Given as goal

-- what is left of both decides
abbrev pub invariant-eights : goal.invariant-eights
invariant-eights l = is_lt (byte_order l.ours l.theirs) ≡ is_lt (byte_order l.fn.a l.fn.b)

abbrev pub decreases-eights : goal.decreases-eights
decreases-eights l = length l.ours
