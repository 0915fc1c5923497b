use Rattle.std.proofs.Common.{refl}
use Rattle.pool.specs.Versions.{versions_of, refused_of}
use Rattle.overlay.specs.WriteSet.{settled_of, private_of}
use Rattle.snapshot_pins.specs.Pinned.{numbers_of}
use Rattle.std.specs.Prelude.{⊤}
use Rattle.store.specs.Errors.{Never}
use Rattle.database_versions.specs.Refusals.{of_pool}
use Rattle.database_versions.proofs.RefusalLemmas.{device_fails}
use Rattle.paged_store.proofs.ChangeLemmas.{told_fails}
use Rattle.paged_store.proofs.ShownLemmas.{shown_with}
use Rattle.paged_store.proofs.SoundLemmas.{same_sound}
use Rattle.paged_store.proofs.OrderlyLemmas.{no_more, orderly_same}
use Rattle.paged_store.proofs.SteadyLemmas.{steady_same}
use Rattle.paged_store.proofs.GoesLemmas.{pool_tells, of_device}
use Rattle.paged_store.proofs.paged.PagedStore.flush.Goals as goal

pub invariant_of-self : goal.invariant_of-self
invariant_of-self g c =
    let s = c.args.self.now in
    record { ordered = orderly_same g.D.Disk.is_honest (versions_of s.pool) (versions_of c.write_some.new.pool) s.readers s.commits c.write_some.ensures.versions s.ordered; steady = steady_same (versions_of s.pool) (versions_of c.write_some.new.pool) (private_of s.changes) (settled_of s.changes) c.write_some.ensures.versions s.steady }

pub returns-in-Ok-clause-shows : goal.returns-in-Ok-clause-shows
returns-in-Ok-clause-shows g c =
    let s = c.args.self.now in
    shown_with g.D.Disk.is_honest (versions_of s.pool) (versions_of c.write_some.new.pool) (numbers_of s.readers) (private_of s.changes) (settled_of s.changes) (private_of s.changes) (settled_of s.changes) c.write_some.ensures.versions refl refl

pub returns-in-Err-clause-shows : goal.returns-in-Err-clause-shows
returns-in-Err-clause-shows g c =
    let s = c.args.self.now in
    shown_with g.D.Disk.is_honest (versions_of s.pool) (versions_of c.write_some.new.pool) (numbers_of s.readers) (private_of s.changes) (settled_of s.changes) (private_of s.changes) (settled_of s.changes) c.write_some.ensures.versions refl refl

pub returns-in-Err-clause-refused : goal.returns-in-Err-clause-refused
returns-in-Err-clause-refused g c =
    let s = c.args.self.now in
    told_fails ⊤ (refused_of s.pool) (refused_of c.write_some.new.pool) Never c.of_pool.result (of_pool c.in-Err.error) c.of_pool.ensures
    (device_fails ⊤ Never (refused_of s.pool) (refused_of c.write_some.new.pool) c.in-Err.error c.in-Err.ensures.refusal)

pub returns-in-Ok-clause-damage : goal.returns-in-Ok-clause-damage
returns-in-Ok-clause-damage g c =
    (refl, tt)

pub returns-in-Ok-clause-goes : goal.returns-in-Ok-clause-goes
returns-in-Ok-clause-goes g c =
    let s = c.args.self.now in
    record {
      sound = same_sound g.D.Disk.is_honest (versions_of s.pool) (versions_of c.write_some.new.pool) (numbers_of s.readers) (private_of s.changes) (settled_of s.changes) c.write_some.ensures.versions;
      refused = c.write_some.ensures.rising;
      damaged = no_more s.damaged;
      read = no_more s.read;
      stays = tt;
      unchanged = tt;
    }

pub returns-in-Err-clause-damage : goal.returns-in-Err-clause-damage
returns-in-Err-clause-damage g c =
    (tt, pool_tells c.of_pool.result c.in-Err.error c.args.self.now.damaged c.of_pool.ensures (of_device (refused_of c.args.self.now.pool) (refused_of c.write_some.new.pool) c.in-Err.error c.in-Err.ensures.refusal))

pub returns-in-Err-clause-goes : goal.returns-in-Err-clause-goes
returns-in-Err-clause-goes g c =
    let s = c.args.self.now in
    record {
      sound = same_sound g.D.Disk.is_honest (versions_of s.pool) (versions_of c.write_some.new.pool) (numbers_of s.readers) (private_of s.changes) (settled_of s.changes) c.write_some.ensures.versions;
      refused = c.write_some.ensures.rising;
      damaged = no_more s.damaged;
      read = no_more s.read;
      stays = tt;
      unchanged = tt;
    }
