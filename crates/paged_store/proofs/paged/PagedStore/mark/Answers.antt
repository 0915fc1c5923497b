use Rattle.std.proofs.Common.{◌∙◌, refl, inl, inr}
use Rattle.pool.specs.Versions.{versions_of, refused_of}
use Rattle.overlay.specs.WriteSet.{settled_of, private_of}
use Rattle.snapshot_pins.specs.Pinned.{numbers_of}
use Rattle.paged_store.proofs.ShownLemmas.{shown_marked, shown_with, same_but_mark}
use Rattle.paged_store.proofs.SoundLemmas.{sound_moved}
use Rattle.paged_store.proofs.SteadyLemmas.{steady_marked}
use Rattle.paged_store.proofs.GoesLemmas.{last_same}
use Rattle.paged_store.proofs.OrderlyLemmas.{no_more}
use Rattle.paged_store.proofs.paged.PagedStore.mark.Goals as goal

pub returns-in-Ok-clause-shows : goal.returns-in-Ok-clause-shows
returns-in-Ok-clause-shows g c =
    let s = c.args.self.now in
    shown_marked g.D.Disk.is_honest (versions_of s.pool) (numbers_of s.readers) (private_of s.changes) (settled_of s.changes) (private_of c.mark.new.self) (settled_of c.mark.new.self) c.in-Ok.ensures.same c.in-Ok.ensures.settled

pub returns-in-Err-clause-same : goal.returns-in-Err-clause-same
returns-in-Err-clause-same g c =
    let s = c.args.self.now in
    same_but_mark _ _ (shown_with g.D.Disk.is_honest (versions_of s.pool) (versions_of s.pool) (numbers_of s.readers) (private_of s.changes) (settled_of s.changes) (private_of c.mark.new.self) (settled_of c.mark.new.self) refl
    c.in-Err.ensures.same c.in-Err.ensures.left)

pub invariant_of-self : goal.invariant_of-self
invariant_of-self g c =
    let s = c.args.self.now in
    record { ordered = s.ordered; steady = steady_marked ((versions_of s.pool).pages (versions_of s.pool).last) (private_of s.changes) (settled_of s.changes) (private_of c.mark.new.self) (settled_of c.mark.new.self) c.mark.result c.mark.ensures.same c.mark.ensures.settled c.mark.ensures.left s.steady }

pub returns-in-Ok-clause-damage : goal.returns-in-Ok-clause-damage
returns-in-Ok-clause-damage g c =
    (refl, tt)

pub returns-in-Ok-clause-goes : goal.returns-in-Ok-clause-goes
returns-in-Ok-clause-goes g c =
    let s = c.args.self.now in
    record {
      sound = sound_moved g.D.Disk.is_honest (versions_of s.pool) (versions_of s.pool) (numbers_of s.readers) (private_of s.changes) (settled_of s.changes) (private_of c.mark.new.self) (settled_of c.mark.new.self) refl
          (inl c.in-Ok.ensures.same) (inl c.in-Ok.ensures.settled);
      refused = no_more (refused_of s.pool);
      damaged = no_more s.damaged;
      read = no_more s.read;
      stays = last_same g.D.Disk.is_honest (versions_of s.pool) (versions_of s.pool) (numbers_of s.readers) (numbers_of s.readers) (private_of s.changes) (settled_of s.changes) (private_of c.mark.new.self) (settled_of c.mark.new.self) _ _ _ _ _ _ _ _ _ _
          refl refl;
      unchanged = λ none. c.in-Ok.ensures.same ∙ none;
    }

pub returns-in-Err-clause-damage : goal.returns-in-Err-clause-damage
returns-in-Err-clause-damage g c =
    (tt, refl)

pub returns-in-Err-clause-goes : goal.returns-in-Err-clause-goes
returns-in-Err-clause-goes g c =
    let s = c.args.self.now in
    record {
      sound = sound_moved g.D.Disk.is_honest (versions_of s.pool) (versions_of s.pool) (numbers_of s.readers) (private_of s.changes) (settled_of s.changes) (private_of c.mark.new.self) (settled_of c.mark.new.self) refl
          (inl c.in-Err.ensures.same) (inr (inl c.in-Err.ensures.left));
      refused = no_more (refused_of s.pool);
      damaged = no_more s.damaged;
      read = no_more s.read;
      stays = last_same g.D.Disk.is_honest (versions_of s.pool) (versions_of s.pool) (numbers_of s.readers) (numbers_of s.readers) (private_of s.changes) (settled_of s.changes) (private_of c.mark.new.self) (settled_of c.mark.new.self) _ _ _ _ _ _ _ _ _ _
          refl refl;
      unchanged = λ none. c.in-Err.ensures.same ∙ none;
    }
