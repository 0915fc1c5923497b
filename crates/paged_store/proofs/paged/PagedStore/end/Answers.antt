use Rattle.std.proofs.Common.{refl}
use Rattle.pool.specs.Versions.{versions_of, device_of, refused_of}
use Rattle.overlay.specs.WriteSet.{settled_of, private_of}
use Rattle.snapshot_pins.specs.Pinned.{numbers_of}
use Rattle.paged_store.proofs.ShownLemmas.{shown_ended}
use Rattle.paged_store.proofs.SoundLemmas.{sound_ended}
use Rattle.paged_store.proofs.OrderlyLemmas.{orderly_kept, no_fall, no_more}
use Rattle.paged_store.proofs.SteadyLemmas.{steady_kept}
use Rattle.paged_store.proofs.GoesLemmas.{last_kept, as_it_was}
use Rattle.paged_store.proofs.paged.PagedStore.end.Goals as goal

pub invariant_of-self : goal.invariant_of-self
invariant_of-self g c =
    let s = c.args.self.now in
    record { ordered = orderly_kept g.D.Disk.is_honest (versions_of s.pool) (versions_of c.end.new.pool) s.readers c.end.new.self s.commits (numbers_of c.end.new.self) c.end.ensures.kept c.end.ensures.pinned s.ordered; steady = steady_kept (versions_of s.pool) (versions_of c.end.new.pool) (numbers_of c.end.new.self) (private_of s.changes) (settled_of s.changes) c.end.ensures.kept s.steady }

pub returns-clause-shows : goal.returns-clause-shows
returns-clause-shows g c =
    let s = c.args.self.now in
    shown_ended g.D.Disk.is_honest (versions_of s.pool) (versions_of c.end.new.pool) (numbers_of s.readers) (numbers_of c.end.new.self) (private_of s.changes) (settled_of s.changes) c.args.reader c.end.ensures.ended c.end.ensures.kept

pub returns-clause-unwritten : goal.returns-clause-unwritten
returns-clause-unwritten g c = c.end.ensures.unwritten

pub returns-clause-damage : goal.returns-clause-damage
returns-clause-damage g c =
    refl

pub returns-clause-goes : goal.returns-clause-goes
returns-clause-goes g c =
    let s = c.args.self.now in
    record {
      sound = sound_ended g.D.Disk.is_honest (versions_of s.pool) (versions_of c.end.new.pool) (numbers_of s.readers) (numbers_of c.end.new.self) (private_of s.changes) (settled_of s.changes) c.args.reader c.end.ensures.ended c.end.ensures.kept;
      refused = no_fall (refused_of s.pool) (refused_of c.end.new.pool) c.end.ensures.refused;
      damaged = no_more s.damaged;
      read = no_more s.read;
      stays = last_kept g.D.Disk.is_honest (versions_of s.pool) (versions_of c.end.new.pool) (numbers_of s.readers) (numbers_of c.end.new.self) (private_of s.changes) (settled_of s.changes) (private_of s.changes) (settled_of s.changes) _ _ _ _ _ _ _ _ _ _
          c.end.ensures.kept.last c.end.ensures.kept.newest (as_it_was g.D.Disk.writes (device_of s.pool) (device_of c.end.new.pool) c.end.ensures.device);
      unchanged = λ none. none;
    }
