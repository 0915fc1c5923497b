use Rattle.std.proofs.Common.{◌≡◌, length}
use Rattle.std.specs.Ordering.{is_lt}
use Rattle.sqlrecord.specs.Key.{byte_order}
use Rattle.sqlrecord.proofs.sound.precedes_by_bytes.Given as goal

-- what is left of both decides
abbrev pub invariant-compared : goal.invariant-compared
invariant-compared l = is_lt (byte_order l.ours l.theirs) ≡ is_lt (byte_order l.fn.a l.fn.b)

abbrev pub decreases-compared : goal.decreases-compared
decreases-compared l = length l.ours
