use Rattle.std.proofs.Common.{refl}
use Rattle.pool.specs.Versions.{versions_of, refused_of}
use Rattle.overlay.specs.WriteSet.{settled_of, private_of}
use Rattle.snapshot_pins.specs.Pinned.{numbers_of}
use Rattle.paged_store.proofs.ShownLemmas.{shown_with}
use Rattle.paged_store.proofs.SoundLemmas.{same_sound}
use Rattle.paged_store.proofs.OrderlyLemmas.{no_more, orderly_same}
use Rattle.paged_store.proofs.SteadyLemmas.{steady_same}
use Rattle.paged_store.proofs.GoesLemmas.{last_same}
use Rattle.store.specs.Errors.{Never}
use Rattle.paged_store.specs.Store.{sound_of}
use Rattle.paged_store.proofs.ChangeLemmas.{told_fails}
use Rattle.paged_store.proofs.paged.PagedStore.prepare.Goals as goal

pub invariant_of-self : goal.invariant_of-self
invariant_of-self g c =
    let s = c.args.self.now in
    record { ordered = orderly_same g.D.Disk.is_honest (versions_of s.pool) (versions_of c.schema_seen.new.pool) s.readers s.commits c.schema_seen.ensures.versions s.ordered; steady = steady_same (versions_of s.pool) (versions_of c.schema_seen.new.pool) (private_of s.changes) (settled_of s.changes) c.schema_seen.ensures.versions s.steady }

pub invariant_of-self-in-Err : goal.invariant_of-self-in-Err
invariant_of-self-in-Err g c =
    let s = c.args.self.now in
    record { ordered = orderly_same g.D.Disk.is_honest (versions_of s.pool) (versions_of c.schema_seen.new.pool) s.readers s.commits c.schema_seen.ensures.versions s.ordered; steady = steady_same (versions_of s.pool) (versions_of c.schema_seen.new.pool) (private_of s.changes) (settled_of s.changes) c.schema_seen.ensures.versions s.steady }

pub returns-in-Ok-clause-shows : goal.returns-in-Ok-clause-shows
returns-in-Ok-clause-shows g c =
    let s = c.args.self.now in
    shown_with g.D.Disk.is_honest (versions_of s.pool) (versions_of c.schema_seen.new.pool) (numbers_of s.readers) (private_of s.changes) (settled_of s.changes) (private_of s.changes) (settled_of s.changes) c.schema_seen.ensures.versions refl refl

pub returns-in-Err-clause-shows : goal.returns-in-Err-clause-shows
returns-in-Err-clause-shows g c =
    let s = c.args.self.now in
    shown_with g.D.Disk.is_honest (versions_of s.pool) (versions_of c.schema_seen.new.pool) (numbers_of s.readers) (private_of s.changes) (settled_of s.changes) (private_of s.changes) (settled_of s.changes) c.schema_seen.ensures.versions refl refl

pub returns-in-Ok-clause-prepared : goal.returns-in-Ok-clause-prepared
returns-in-Ok-clause-prepared g c = λ sound. c.in-Ok.ensures.found (settled_of c.args.self.now.changes) sound

pub returns-in-Err-clause-refused : goal.returns-in-Err-clause-refused
returns-in-Err-clause-refused g c =
    let s = c.args.self.now in
    told_fails (sound_of s) (refused_of s.pool) (refused_of c.schema_seen.new.pool) Never c.told.result c.in-Err.error c.told.ensures.same (c.in-Err.ensures.refused (settled_of s.changes))

pub returns-in-Ok-clause-damage : goal.returns-in-Ok-clause-damage
returns-in-Ok-clause-damage g c =
    (refl, tt)

pub returns-in-Ok-clause-goes : goal.returns-in-Ok-clause-goes
returns-in-Ok-clause-goes g c =
    let s = c.args.self.now in
    record {
      sound = same_sound g.D.Disk.is_honest (versions_of s.pool) (versions_of c.schema_seen.new.pool) (numbers_of s.readers) (private_of s.changes) (settled_of s.changes) c.schema_seen.ensures.versions;
      refused = c.schema_seen.ensures.rising;
      damaged = no_more s.damaged;
      read = no_more s.read;
      stays = last_same g.D.Disk.is_honest (versions_of s.pool) (versions_of c.schema_seen.new.pool) (numbers_of s.readers) (numbers_of s.readers) (private_of s.changes) (settled_of s.changes) (private_of s.changes) (settled_of s.changes) _ _ _ _ _ _ _ _ _ _
          c.schema_seen.ensures.versions c.schema_seen.ensures.writes;
      unchanged = λ none. none;
    }

pub returns-in-Err-clause-damage : goal.returns-in-Err-clause-damage
returns-in-Err-clause-damage g c =
    (tt, c.told.ensures.tells)

pub returns-in-Err-clause-goes : goal.returns-in-Err-clause-goes
returns-in-Err-clause-goes g c =
    let s = c.args.self.now in
    record {
      sound = same_sound g.D.Disk.is_honest (versions_of s.pool) (versions_of c.schema_seen.new.pool) (numbers_of s.readers) (private_of s.changes) (settled_of s.changes) c.schema_seen.ensures.versions;
      refused = c.schema_seen.ensures.rising;
      damaged = c.told.ensures.rises;
      read = no_more s.read;
      stays = last_same g.D.Disk.is_honest (versions_of s.pool) (versions_of c.schema_seen.new.pool) (numbers_of s.readers) (numbers_of s.readers) (private_of s.changes) (settled_of s.changes) (private_of s.changes) (settled_of s.changes) _ _ _ _ _ _ _ _ _ _
          c.schema_seen.ensures.versions c.schema_seen.ensures.writes;
      unchanged = λ none. none;
    }
