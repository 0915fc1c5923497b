use Rattle.std.proofs.Common.{refl, ap, inl, inr, Err}
use Rattle.pool.specs.Versions.{versions_of, refused_of}
use Rattle.overlay.specs.WriteSet.{fresh_of, settled_of, private_of}
use Rattle.snapshot_pins.specs.Pinned.{numbers_of}
use Rattle.paged_store.proofs.PageLemmas.{none_fresh}
use Rattle.paged_store.proofs.ShownLemmas.{shown_undone}
use Rattle.paged_store.proofs.SoundLemmas.{sound_moved}
use Rattle.paged_store.proofs.SteadyLemmas.{steady_at}
use Rattle.paged_store.proofs.GoesLemmas.{last_same}
use Rattle.paged_store.proofs.OrderlyLemmas.{no_more}
use Rattle.paged_store.proofs.paged.Paged.refuse.Goals as goal

pub returns-clause-undone : goal.returns-clause-undone
returns-clause-undone g c =
    let s = c.args.self.now in
    shown_undone g.D.Disk.is_honest (versions_of s.pool) (versions_of s.pool) (numbers_of s.readers) (private_of s.changes) (settled_of s.changes) (private_of c.undo.new.self) (settled_of c.undo.new.self) refl
    (none_fresh (fresh_of c.undo.new.self) (settled_of c.undo.new.self) (settled_of s.changes) c.undo.ensures.fresh c.undo.ensures.settled) c.undo.ensures.settled

pub invariant_of-self : goal.invariant_of-self
invariant_of-self g c =
    let s = c.args.self.now in
    record { ordered = s.ordered; steady = steady_at ((versions_of s.pool).pages (versions_of s.pool).last) (private_of c.undo.new.self) (settled_of c.undo.new.self) (none_fresh (fresh_of c.undo.new.self) (settled_of c.undo.new.self) (settled_of c.undo.new.self) c.undo.ensures.fresh refl) }

pub returns-clause-damage : goal.returns-clause-damage
returns-clause-damage g c =
    (tt, c.told.ensures.tells)

pub returns-clause-goes : goal.returns-clause-goes
returns-clause-goes g c =
    let s = c.args.self.now in
    record {
      sound = sound_moved g.D.Disk.is_honest (versions_of s.pool) (versions_of s.pool) (numbers_of s.readers) (private_of s.changes) (settled_of s.changes) (private_of c.undo.new.self) (settled_of c.undo.new.self) refl
          (inr (inl (none_fresh (fresh_of c.undo.new.self) (settled_of c.undo.new.self) (settled_of s.changes) c.undo.ensures.fresh c.undo.ensures.settled))) (inr (inl c.undo.ensures.settled));
      refused = no_more (refused_of s.pool);
      damaged = c.told.ensures.rises;
      read = no_more s.read;
      stays = last_same g.D.Disk.is_honest (versions_of s.pool) (versions_of s.pool) (numbers_of s.readers) (numbers_of s.readers) (private_of s.changes) (settled_of s.changes) (private_of c.undo.new.self) (settled_of c.undo.new.self) _ _ _ _ _ _ _ _ _ _
          refl refl;
      unchanged = tt;
    }

pub returns-clause-refused : goal.returns-clause-refused
returns-clause-refused g c =
    ap Err c.told.ensures.same
