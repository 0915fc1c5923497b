use Rattle.std.proofs.Common.{◌≡◌}
use Rattle.cursors.specs.ByName.{closed_upto}
use Rattle.cursors.proofs.named.close_each.Given as goal

abbrev pub invariant-loop-at : goal.invariant-loop-at
invariant-loop-at l = l.declared ≡ closed_upto l.at l.fn.declared
