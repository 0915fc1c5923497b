use Rattle.std.proofs.Common.{◌≡◌, ◌≤◌}
use Rattle.store.specs.Contents.{Contents, rows_of, replaced_all}
use Rattle.store.specs.Errors.{HasLongRow}
use Rattle.pool.specs.Versions.{versions_of, device_of, refused_of}
use Rattle.overlay.specs.WriteSet.{private_of, settled_of}
use Rattle.paged_store.proofs.ManyLemmas.{HasChanged}
use Rattle.paged_store.proofs.many_rows.replace_rows.Given as goal

abbrev pub invariant-loop-entry : goal.invariant-loop-entry
invariant-loop-entry g l = record {
  versions : versions_of l.pool ≡ versions_of l.fn.pool;
  settled : settled_of l.changes ≡ settled_of l.fn.changes;
  rising : refused_of l.fn.pool ≤ refused_of l.pool;
  writes : g.D.Disk.writes (device_of l.pool) ≡ g.D.Disk.writes (device_of l.fn.pool);
  changed : HasChanged ((versions_of l.fn.pool).pages l.at) (private_of l.fn.changes) (private_of l.changes) (λ (x : Contents). replaced_all x l.name l.fn.rows) (λ (x : Contents). replaced_all x l.name l.entry-iterator.rest.items);
  long : HasLongRow (rows_of l.entry-iterator.rest.items) → HasLongRow (rows_of l.fn.rows);
}
