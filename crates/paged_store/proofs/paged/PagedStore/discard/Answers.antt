use Rattle.std.proofs.Common.{refl, inr}
use Rattle.pool.specs.Versions.{versions_of, refused_of}
use Rattle.overlay.specs.WriteSet.{fresh_of, settled_of, private_of}
use Rattle.snapshot_pins.specs.Pinned.{numbers_of}
use Rattle.paged_store.proofs.PageLemmas.{none_private}
use Rattle.paged_store.proofs.ShownLemmas.{shown_discarded}
use Rattle.paged_store.proofs.SoundLemmas.{sound_moved}
use Rattle.paged_store.proofs.SteadyLemmas.{steady_none}
use Rattle.paged_store.proofs.GoesLemmas.{last_same}
use Rattle.paged_store.proofs.OrderlyLemmas.{no_more}
use Rattle.paged_store.proofs.paged.PagedStore.discard.Goals as goal

pub returns-clause-shows : goal.returns-clause-shows
returns-clause-shows g c =
    let s = c.args.self.now in
    shown_discarded g.D.Disk.is_honest (versions_of s.pool) (numbers_of s.readers) (private_of s.changes) (settled_of s.changes) (private_of c.new.result) (settled_of c.new.result)
    (none_private (fresh_of c.new.result) (settled_of c.new.result) c.new.ensures.fresh c.new.ensures.settled) c.new.ensures.settled

pub invariant_of-self : goal.invariant_of-self
invariant_of-self g c =
    let s = c.args.self.now in
    record { ordered = s.ordered; steady = steady_none ((versions_of s.pool).pages (versions_of s.pool).last) (fresh_of c.new.result) (settled_of c.new.result) c.new.ensures.fresh c.new.ensures.settled }

pub returns-clause-damage : goal.returns-clause-damage
returns-clause-damage g c =
    refl

pub returns-clause-unchanged : goal.returns-clause-unchanged
returns-clause-unchanged g c =
    none_private (fresh_of c.new.result) (settled_of c.new.result) c.new.ensures.fresh c.new.ensures.settled

pub returns-clause-goes : goal.returns-clause-goes
returns-clause-goes g c =
    let s = c.args.self.now in
    record {
      sound = sound_moved g.D.Disk.is_honest (versions_of s.pool) (versions_of s.pool) (numbers_of s.readers) (private_of s.changes) (settled_of s.changes) (private_of c.new.result) (settled_of c.new.result) refl
          (inr (inr (none_private (fresh_of c.new.result) (settled_of c.new.result) c.new.ensures.fresh c.new.ensures.settled))) (inr (inr c.new.ensures.settled));
      refused = no_more (refused_of s.pool);
      damaged = no_more s.damaged;
      read = no_more s.read;
      stays = last_same g.D.Disk.is_honest (versions_of s.pool) (versions_of s.pool) (numbers_of s.readers) (numbers_of s.readers) (private_of s.changes) (settled_of s.changes) (private_of c.new.result) (settled_of c.new.result) _ _ _ _ _ _ _ _ _ _
          refl refl;
      unchanged = λ none. none_private (fresh_of c.new.result) (settled_of c.new.result) c.new.ensures.fresh c.new.ensures.settled;
    }
