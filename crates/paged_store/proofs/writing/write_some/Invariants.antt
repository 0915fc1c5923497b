use Rattle.std.proofs.Common.{◌≡◌, ◌≤◌, ◌<◌, ◌-◌, ◌^◌, min}
use Rattle.pool.specs.Versions.{versions_of, unwritten_of, refused_of}
use Rattle.paged_store.proofs.writing.write_some.Given as goal

abbrev pub invariant-written : goal.invariant-written
invariant-written g l = record {
  left : l.left ≡ min (unwritten_of l.pool) (2 ^ 32 - 1);
  less : 0 < unwritten_of l.fn.pool → unwritten_of l.pool < unwritten_of l.fn.pool;
  versions : versions_of l.pool ≡ versions_of l.fn.pool;
  rising : refused_of l.fn.pool ≤ refused_of l.pool;
}

abbrev pub decreases-written : goal.decreases-written
decreases-written g l = unwritten_of l.pool
