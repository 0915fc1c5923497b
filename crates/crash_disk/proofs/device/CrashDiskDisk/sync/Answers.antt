use Rattle.std.proofs.Common.{subst, sym}
use Rattle.crash_disk.specs.Outcomes.{AddsSynced, Agrees, newest}
use Rattle.crash_disk.proofs.AddedLemmas.{add_synced_only, add_synced_agrees, add_synced_crash, add_synced_elapses, of_ok, on_any}
use Rattle.crash_disk.proofs.device.CrashDiskDisk.sync.Goals as goal

pub invariant_of-self-2 : goal.invariant_of-self-2
invariant_of-self-2 c =
    let added : AddsSynced c.args.self.now.later.items c.add_synced-added.new.later.items c.args.self.now.disk.bytes =
    subst (AddsSynced c.args.self.now.later.items c.add_synced-added.new.later.items) c.as_slice.ensures (of_ok c.add_synced-added.result c.add_synced-added.ensures.ok c.in_ok-counted.ensures.ok) in
    record {
      agrees = subst (Agrees (newest c.args.self.now.first c.add_synced-added.new.later.items)) (sym c.sync.ensures.same) (add_synced_agrees c.args.self.now.first c.args.self.now.later.items c.add_synced-added.new.later.items c.args.self.now.disk.bytes added);
    }

pub returns-clause-crash : goal.returns-clause-crash
returns-clause-crash c durable =
    let added : AddsSynced c.args.self.now.later.items c.add_synced-added.new.later.items c.args.self.now.disk.bytes =
    subst (AddsSynced c.args.self.now.later.items c.add_synced-added.new.later.items) c.as_slice.ensures (of_ok c.add_synced-added.result c.add_synced-added.ensures.ok c.in_ok-counted.ensures.ok) in
    add_synced_crash c.args.self.now.first c.args.self.now.later.items c.add_synced-added.new.later.items c.args.self.now.disk.bytes added c.args.self.now.agrees

pub returns-clause-time : goal.returns-clause-time
returns-clause-time c durable =
    let added : AddsSynced c.args.self.now.later.items c.add_synced-added.new.later.items c.args.self.now.disk.bytes =
    subst (AddsSynced c.args.self.now.later.items c.add_synced-added.new.later.items) c.as_slice.ensures (of_ok c.add_synced-added.result c.add_synced-added.ensures.ok c.in_ok-counted.ensures.ok) in
    add_synced_elapses c.args.self.now.first c.args.self.now.later.items c.add_synced-added.new.later.items c.args.self.now.disk.bytes added

pub returns-clause-durable : goal.returns-clause-durable
returns-clause-durable c durable =
    let added : AddsSynced c.args.self.now.later.items c.add_synced-added.new.later.items c.args.self.now.disk.bytes =
    subst (AddsSynced c.args.self.now.later.items c.add_synced-added.new.later.items) c.as_slice.ensures (of_ok c.add_synced-added.result c.add_synced-added.ensures.ok c.in_ok-counted.ensures.ok) in
    on_any c.sync.result (add_synced_only c.args.self.now.first c.args.self.now.later.items c.add_synced-added.new.later.items c.args.self.now.disk.bytes added)
