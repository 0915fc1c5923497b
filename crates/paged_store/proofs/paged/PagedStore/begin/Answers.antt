use Rattle.std.proofs.Common.{refl}
use Rattle.pool.specs.Versions.{versions_of, device_of, refused_of}
use Rattle.overlay.specs.WriteSet.{settled_of, private_of}
use Rattle.snapshot_pins.specs.Pinned.{numbers_of}
use Rattle.store.specs.Errors.{Never}
use Rattle.pool.proofs.RefusalLemmas.{of_device_less}
use Rattle.database_versions.specs.Refusals.{of_pool}
use Rattle.database_versions.proofs.RefusalLemmas.{device_fails}
use Rattle.paged_store.specs.Sound.{IsSound}
use Rattle.paged_store.proofs.ShownLemmas.{shown_begun, shown_same, shown_with}
use Rattle.paged_store.proofs.SoundLemmas.{sound_begun, sound_same, same_sound}
use Rattle.paged_store.proofs.ChangeLemmas.{memory_fails, told_fails}
use Rattle.paged_store.proofs.OrderlyLemmas.{orderly_kept, orderly_same, no_fall, no_more}
use Rattle.paged_store.proofs.SteadyLemmas.{steady_kept, steady_same}
use Rattle.paged_store.proofs.GoesLemmas.{last_kept, last_same, as_it_was, pool_tells, of_memory, of_device}
use Rattle.paged_store.proofs.paged.PagedStore.begin.Goals as goal

pub invariant_of-self-2 : goal.invariant_of-self-2
invariant_of-self-2 g c =
    let s = c.args.self.now in
    record { ordered = orderly_kept g.D.Disk.is_honest (versions_of s.pool) (versions_of c.begin.new.pool) s.readers c.begin.new.self s.commits (numbers_of c.begin.new.self) c.begin.ensures.kept c.begin.ensures.pinned s.ordered; steady = steady_kept (versions_of s.pool) (versions_of c.begin.new.pool) (numbers_of c.begin.new.self) (private_of s.changes) (settled_of s.changes) c.begin.ensures.kept s.steady }

pub returns-in-Ok-clause-shows : goal.returns-in-Ok-clause-shows
returns-in-Ok-clause-shows g c =
    let s = c.args.self.now in
    shown_begun g.D.Disk.is_honest (versions_of s.pool) (versions_of c.begin.new.pool) (numbers_of s.readers) (numbers_of c.begin.new.self) (private_of s.changes) (settled_of s.changes) c.args.reader c.in-Ok.ensures.begun c.begin.ensures.kept

pub returns-in-Err-clause-same : goal.returns-in-Err-clause-same
returns-in-Err-clause-same g c =
    let s = c.args.self.now in
    shown_same g.D.Disk.is_honest (versions_of s.pool) (versions_of c.begin.new.pool) (numbers_of s.readers) (numbers_of c.begin.new.self) (private_of s.changes) (settled_of s.changes) c.in-Err.ensures.same c.begin.ensures.kept

pub returns-in-Err-clause-refused : goal.returns-in-Err-clause-refused
returns-in-Err-clause-refused g c =
    let s = c.args.self.now in
    memory_fails (IsSound g.D.Disk.is_honest (versions_of s.pool) (numbers_of s.readers) (private_of s.changes) (settled_of s.changes)) (refused_of s.pool) (refused_of c.begin.new.pool) Never c.of_pool-in-Err.result c.in-Err.error c.of_pool-in-Err.ensures c.in-Err.ensures.cause

pub returns-in-Ok-clause-damage : goal.returns-in-Ok-clause-damage
returns-in-Ok-clause-damage g c =
    (refl, tt)

pub returns-in-Ok-clause-goes : goal.returns-in-Ok-clause-goes
returns-in-Ok-clause-goes g c =
    let s = c.args.self.now in
    record {
      sound = sound_begun g.D.Disk.is_honest (versions_of s.pool) (versions_of c.begin.new.pool) (numbers_of s.readers) (numbers_of c.begin.new.self) (private_of s.changes) (settled_of s.changes) c.args.reader c.in-Ok.ensures.begun c.begin.ensures.kept;
      refused = no_fall (refused_of s.pool) (refused_of c.begin.new.pool) c.begin.ensures.refused;
      damaged = no_more s.damaged;
      read = no_more s.read;
      stays = last_kept g.D.Disk.is_honest (versions_of s.pool) (versions_of c.begin.new.pool) (numbers_of s.readers) (numbers_of c.begin.new.self) (private_of s.changes) (settled_of s.changes) (private_of s.changes) (settled_of s.changes) _ _ _ _ _ _ _ _ _ _
          c.begin.ensures.kept.last c.begin.ensures.kept.newest (as_it_was g.D.Disk.writes (device_of s.pool) (device_of c.begin.new.pool) c.begin.ensures.device);
      unchanged = λ none. none;
    }

pub returns-in-Err-clause-damage : goal.returns-in-Err-clause-damage
returns-in-Err-clause-damage g c =
    (tt, pool_tells c.of_pool-in-Err.result c.in-Err.error c.args.self.now.damaged c.of_pool-in-Err.ensures (of_memory c.in-Err.error c.in-Err.ensures.cause))

pub returns-in-Err-clause-goes : goal.returns-in-Err-clause-goes
returns-in-Err-clause-goes g c =
    let s = c.args.self.now in
    record {
      sound = sound_same g.D.Disk.is_honest (versions_of s.pool) (versions_of c.begin.new.pool) (numbers_of s.readers) (numbers_of c.begin.new.self) (private_of s.changes) (settled_of s.changes) c.in-Err.ensures.same c.begin.ensures.kept;
      refused = no_fall (refused_of s.pool) (refused_of c.begin.new.pool) c.begin.ensures.refused;
      damaged = no_more s.damaged;
      read = no_more s.read;
      stays = last_kept g.D.Disk.is_honest (versions_of s.pool) (versions_of c.begin.new.pool) (numbers_of s.readers) (numbers_of c.begin.new.self) (private_of s.changes) (settled_of s.changes) (private_of s.changes) (settled_of s.changes) _ _ _ _ _ _ _ _ _ _
          c.begin.ensures.kept.last c.begin.ensures.kept.newest (as_it_was g.D.Disk.writes (device_of s.pool) (device_of c.begin.new.pool) c.begin.ensures.device);
      unchanged = λ none. none;
    }

-- a commit was refused

pub invariant_of-self : goal.invariant_of-self
invariant_of-self g c =
    let s = c.args.self.now in
    record { ordered = orderly_same g.D.Disk.is_honest (versions_of s.pool) (versions_of c.refuse.new.self) s.readers s.commits c.refuse.ensures.versions s.ordered; steady = steady_same (versions_of s.pool) (versions_of c.refuse.new.self) (private_of s.changes) (settled_of s.changes) c.refuse.ensures.versions s.steady }

pub returns-then-is_broken-clause-same : goal.returns-then-is_broken-clause-same
returns-then-is_broken-clause-same g c =
    let s = c.args.self.now in
    shown_with g.D.Disk.is_honest (versions_of s.pool) (versions_of c.refuse.new.self) (numbers_of s.readers) (private_of s.changes) (settled_of s.changes) (private_of s.changes) (settled_of s.changes) c.refuse.ensures.versions refl refl

pub returns-then-is_broken-clause-refused : goal.returns-then-is_broken-clause-refused
returns-then-is_broken-clause-refused g c =
    let s = c.args.self.now in
    let sound = IsSound g.D.Disk.is_honest (versions_of s.pool) (numbers_of s.readers) (private_of s.changes) (settled_of s.changes) in
    told_fails sound (refused_of s.pool) (refused_of c.refuse.new.self) Never c.of_pool.result (of_pool c.refuse.result) c.of_pool.ensures
    (device_fails sound Never (refused_of s.pool) (refused_of c.refuse.new.self) c.refuse.result c.refuse.ensures.refusal)

pub returns-then-is_broken-clause-damage : goal.returns-then-is_broken-clause-damage
returns-then-is_broken-clause-damage g c =
    (tt, pool_tells c.of_pool.result c.refuse.result c.args.self.now.damaged c.of_pool.ensures (of_device (refused_of c.args.self.now.pool) (refused_of c.refuse.new.self) c.refuse.result c.refuse.ensures.refusal))

pub returns-then-is_broken-clause-goes : goal.returns-then-is_broken-clause-goes
returns-then-is_broken-clause-goes g c =
    let s = c.args.self.now in
    record {
      sound = same_sound g.D.Disk.is_honest (versions_of s.pool) (versions_of c.refuse.new.self) (numbers_of s.readers) (private_of s.changes) (settled_of s.changes) c.refuse.ensures.versions;
      refused = of_device_less (refused_of s.pool) (refused_of c.refuse.new.self) c.refuse.result c.refuse.ensures.refusal;
      damaged = no_more s.damaged;
      read = no_more s.read;
      stays = last_same g.D.Disk.is_honest (versions_of s.pool) (versions_of c.refuse.new.self) (numbers_of s.readers) (numbers_of s.readers) (private_of s.changes) (settled_of s.changes) (private_of s.changes) (settled_of s.changes) _ _ _ _ _ _ _ _ _ _
          c.refuse.ensures.versions (as_it_was g.D.Disk.writes (device_of s.pool) (device_of c.refuse.new.self) c.refuse.ensures.device);
      unchanged = λ none. none;
    }
