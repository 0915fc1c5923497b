use Rattle.std.proofs.Common.{◌≤◌}
use Rattle.scripts.specs.Settled.{store_of}
use Rattle.csvio.proofs.Committed.{HasPut}
use Rattle.csvio.proofs.batches.put_batches.Given as goal

abbrev pub invariant-loop-batch : goal.invariant-loop-batch
invariant-loop-batch g l = record {
  puts : HasPut g.S.Store.is_sound g.S.Store.shows l.session.number l.table l.fn.batches l.initial.core l.core l.batch-iterator.rest.items l.committed;
  counts : g.S.Store.refused (store_of l.initial.core) ≤ g.S.Store.refused (store_of l.core);
}
