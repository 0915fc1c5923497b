use Rattle.std.proofs.Common.{◌≡◌, length}
use Rattle.pool.specs.Versions.{versions_of, device_of, refused_of, unwritten_of}
use Rattle.snapshot_pins.specs.Pinned.{ArePinned}
use Rattle.snapshot_pins.proofs.readers.Readers.end_all.Given as goal

abbrev pub invariant-ended : goal.invariant-ended
invariant-ended g l = record {
  pinned : ArePinned l.self (versions_of l.pool).pins;
  last : (versions_of l.pool).last ≡ (versions_of l.fn.pool).last;
  newest : (versions_of l.pool).pages (versions_of l.fn.pool).last ≡ (versions_of l.fn.pool).pages (versions_of l.fn.pool).last;
  unwritten : unwritten_of l.pool ≡ unwritten_of l.fn.pool;
  device : device_of l.pool ≡ device_of l.fn.pool;
  refused : refused_of l.pool ≡ refused_of l.fn.pool;
}

abbrev pub decreases-ended : goal.decreases-ended
decreases-ended g l = length l.self.list
