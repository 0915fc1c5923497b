use Rattle.pool.specs.Versions.{versions_of, refused_of}
use Rattle.overlay.specs.WriteSet.{fresh_of, settled_of, private_of}
use Rattle.snapshot_pins.specs.Pinned.{numbers_of}
use Rattle.std.proofs.Common.{IfOk}
use Rattle.std.specs.FinMap.{get}
use Rattle.store.specs.Contents.{Contents}
use Rattle.store.specs.Indexes.{ranged}
use Rattle.store.specs.View.{AreEntries}
use Rattle.database_versions.specs.Databases.{IsDatabase}
use Rattle.paged_store.specs.Sound.{IsSound}
use Rattle.paged_store.proofs.PageLemmas.{none_private}
use Rattle.paged_store.proofs.ReadLemmas.{read_found, read_working, found_there, working_there, read_fails}
use Rattle.paged_store.proofs.seen.ranged_seen.Goals as goal

pub returns-in-Found-clause-rows : goal.returns-in-Found-clause-rows
returns-in-Found-clause-rows g c = λ settled. read_found g.D.Disk.is_honest (versions_of c.args.pool.now) (numbers_of c.args.readers.now) (private_of c.args.changes.now) settled c.args.commits c.requires c.in-Found.reader c.number_seen-at.result c.number_seen-at.ensures (private_of c.new-none.result) (none_private (fresh_of c.new-none.result) (settled_of c.new-none.result) c.new-none.ensures.fresh c.new-none.ensures.settled) (λ (x : Contents). IfOk c.rows_within.result (λ found. AreEntries found (ranged (get x c.args.name.now) c.args.index c.args.low.now c.args.high.now))) c.args.view c.in-Found.is c.rows_within.ensures.rows

pub returns-in-Found-clause-refused : goal.returns-in-Found-clause-refused
returns-in-Found-clause-refused g c = λ settled. read_fails c.rows_within.result (IsDatabase ((versions_of c.args.pool.now).pages c.number_seen-at.result) (private_of c.new-none.result)) (IsSound g.D.Disk.is_honest (versions_of c.args.pool.now) (numbers_of c.args.readers.now) (private_of c.args.changes.now) settled) (refused_of c.args.pool.now) (refused_of c.rows_within.new.pool) (found_there g.D.Disk.is_honest (versions_of c.args.pool.now) (numbers_of c.args.readers.now) (private_of c.args.changes.now) settled c.args.commits c.requires c.in-Found.reader c.number_seen-at.result c.number_seen-at.ensures (private_of c.new-none.result) (none_private (fresh_of c.new-none.result) (settled_of c.new-none.result) c.new-none.ensures.fresh c.new-none.ensures.settled)) c.rows_within.ensures.refused

pub returns-in-Working-clause-rows : goal.returns-in-Working-clause-rows
returns-in-Working-clause-rows g c = λ settled. read_working g.D.Disk.is_honest (versions_of c.args.pool.now) (numbers_of c.args.readers.now) (private_of c.args.changes.now) settled c.args.commits c.requires (λ (x : Contents). IfOk c.rows_within-in-Working.result (λ found. AreEntries found (ranged (get x c.args.name.now) c.args.index c.args.low.now c.args.high.now))) c.args.view c.in-Working.is c.rows_within-in-Working.ensures.rows

pub returns-in-Working-clause-refused : goal.returns-in-Working-clause-refused
returns-in-Working-clause-refused g c = λ settled. read_fails c.rows_within-in-Working.result (IsDatabase ((versions_of c.args.pool.now).pages c.args.commits) (private_of c.args.changes.now)) (IsSound g.D.Disk.is_honest (versions_of c.args.pool.now) (numbers_of c.args.readers.now) (private_of c.args.changes.now) settled) (refused_of c.args.pool.now) (refused_of c.rows_within-in-Working.new.pool) (working_there g.D.Disk.is_honest (versions_of c.args.pool.now) (numbers_of c.args.readers.now) (private_of c.args.changes.now) settled c.args.commits c.requires) c.rows_within-in-Working.ensures.refused
