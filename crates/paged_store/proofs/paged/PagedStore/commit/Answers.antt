use Rattle.std.proofs.Common.{◌∙◌, IsTrue, refl}
use Rattle.pool.specs.Pages.{over}
use Rattle.overlay.specs.Whole.{IsWhole}
use Rattle.pool.specs.Versions.{NeedsImages, versions_of, refused_of}
use Rattle.overlay.specs.WriteSet.{fresh_of, settled_of, private_of, undone_of}
use Rattle.snapshot_pins.specs.Pinned.{numbers_of}
use Rattle.database_versions.proofs.RefusalLemmas.{commit_fails}
use Rattle.store.specs.Errors.{CommittingReaches}
use Rattle.store.specs.declared.error.StoreLimit.{StoreLimit}
use Rattle.database_versions.specs.Refusals.{of_pool}
use Rattle.paged_store.specs.Counted.{IsCounted}
use Rattle.paged_store.specs.Sound.{IsSound}
use Rattle.paged_store.proofs.PageLemmas.{none_private}
use Rattle.paged_store.proofs.ShownLemmas.{shown_committed, shown_with}
use Rattle.paged_store.proofs.SoundLemmas.{sound_committed, same_sound}
use Rattle.paged_store.proofs.ChangeLemmas.{told_fails}
use Rattle.paged_store.proofs.OrderlyLemmas.{orderly_committed, orderly_same}
use Rattle.paged_store.proofs.SteadyLemmas.{steady_none, steady_same}
use Rattle.paged_store.proofs.OrderlyLemmas.{no_more}
use Rattle.paged_store.proofs.paged.PagedStore.commit.Goals as goal

pub returns-in-Ok-clause-shows : goal.returns-in-Ok-clause-shows
returns-in-Ok-clause-shows g c =
    let s = c.args.self.now in
    shown_committed g.D.Disk.is_honest (versions_of s.pool) (versions_of c.commit.new.pool) (numbers_of s.readers) (private_of s.changes) (settled_of s.changes) (private_of c.new.result) (settled_of c.new.result)
    c.in-Ok.ensures.last c.in-Ok.ensures.written
    (λ q n e. c.in-Ok.ensures.kept n (c.found_is_pinned.ensures s.readers (versions_of s.pool).pins q n s.ordered.pinned e)) s.ordered.first
    (none_private (fresh_of c.new.result) (settled_of c.new.result) c.new.ensures.fresh c.new.ensures.settled) c.new.ensures.settled

pub returns-in-Err-clause-same : goal.returns-in-Err-clause-same
returns-in-Err-clause-same g c =
    let s = c.args.self.now in
    shown_with g.D.Disk.is_honest (versions_of s.pool) (versions_of c.commit.new.pool) (numbers_of s.readers) (private_of s.changes) (settled_of s.changes) (private_of s.changes) (settled_of s.changes) c.in-Err.ensures.refused refl refl

pub returns-in-Err-clause-refused : goal.returns-in-Err-clause-refused
returns-in-Err-clause-refused g c =
    let s = c.args.self.now in
    let last = (versions_of s.pool).pages (versions_of s.pool).last in
    let sound = IsSound g.D.Disk.is_honest (versions_of s.pool) (numbers_of s.readers) (private_of s.changes) (settled_of s.changes) in
    let counted : StoreLimit → Type 0 = IsCounted (NeedsImages s.pool (private_of s.changes)) g.D.Disk.is_honest last (settled_of s.changes) (undone_of s.changes) in
    told_fails sound (refused_of s.pool) (refused_of c.commit.new.pool) (CommittingReaches counted s.pool.last) c.told.result (of_pool c.in-Err.error) (c.told.ensures.same ∙ c.of_pool.ensures)
    (commit_fails sound (IsTrue g.D.Disk.is_honest → IsWhole (over (private_of s.changes) last) → ⊥) counted s.pool.last (refused_of s.pool) (refused_of c.commit.new.pool) c.in-Err.error
    (λ (sound : IsSound g.D.Disk.is_honest (versions_of s.pool) (numbers_of s.readers) (private_of s.changes) (settled_of s.changes)) harm. harm sound.device sound.working.is.whole.whole)
    c.in-Err.ensures.refusal)

pub invariant_of-self : goal.invariant_of-self
invariant_of-self g c =
    let s = c.args.self.now in
    record {
      ordered = orderly_committed g.D.Disk.is_honest (versions_of s.pool) (versions_of c.commit.new.pool) s.readers s.commits c.in-Ok.number (private_of s.changes) c.in-Ok.ensures.number c.commit.ensures.pins
          c.in-Ok.ensures.written s.ordered;
      steady = steady_none ((versions_of c.commit.new.pool).pages (versions_of c.commit.new.pool).last) (fresh_of c.new.result) (settled_of c.new.result) c.new.ensures.fresh c.new.ensures.settled;
    }

pub invariant_of-self-in-Err : goal.invariant_of-self-in-Err
invariant_of-self-in-Err g c =
    let s = c.args.self.now in
    record {
      ordered = orderly_same g.D.Disk.is_honest (versions_of s.pool) (versions_of c.commit.new.pool) s.readers s.commits c.in-Err.ensures.refused s.ordered;
      steady = steady_same (versions_of s.pool) (versions_of c.commit.new.pool) (private_of s.changes) (settled_of s.changes) c.in-Err.ensures.refused s.steady;
    }

pub returns-in-Ok-clause-damage : goal.returns-in-Ok-clause-damage
returns-in-Ok-clause-damage g c =
    (refl, tt)

pub returns-in-Ok-clause-idle : goal.returns-in-Ok-clause-idle
returns-in-Ok-clause-idle g c =
    c.commit.ensures.idle

pub returns-in-Ok-clause-unchanged : goal.returns-in-Ok-clause-unchanged
returns-in-Ok-clause-unchanged g c =
    none_private (fresh_of c.new.result) (settled_of c.new.result) c.new.ensures.fresh c.new.ensures.settled

pub returns-in-Ok-clause-goes : goal.returns-in-Ok-clause-goes
returns-in-Ok-clause-goes g c =
    let s = c.args.self.now in
    record {
      sound = sound_committed g.D.Disk.is_honest (versions_of s.pool) (versions_of c.commit.new.pool) (numbers_of s.readers) (private_of s.changes) (settled_of s.changes) (private_of c.new.result) (settled_of c.new.result)
          c.in-Ok.ensures.written
          (λ q n e. c.in-Ok.ensures.kept n (c.found_is_pinned.ensures s.readers (versions_of s.pool).pins q n s.ordered.pinned e)) s.ordered.first
          (none_private (fresh_of c.new.result) (settled_of c.new.result) c.new.ensures.fresh c.new.ensures.settled) c.new.ensures.settled;
      refused = c.commit.ensures.rising;
      damaged = no_more s.damaged;
      read = no_more s.read;
      stays = tt;
      unchanged = tt;
    }

pub returns-in-Err-clause-damage : goal.returns-in-Err-clause-damage
returns-in-Err-clause-damage g c = (tt, c.told.ensures.tells)

pub returns-in-Err-clause-idle : goal.returns-in-Err-clause-idle
returns-in-Err-clause-idle g c =
    c.commit.ensures.idle

pub returns-in-Err-clause-goes : goal.returns-in-Err-clause-goes
returns-in-Err-clause-goes g c =
    let s = c.args.self.now in
    record {
      sound = same_sound g.D.Disk.is_honest (versions_of s.pool) (versions_of c.commit.new.pool) (numbers_of s.readers) (private_of s.changes) (settled_of s.changes) c.in-Err.ensures.refused;
      refused = c.commit.ensures.rising;
      damaged = c.told.ensures.rises;
      read = no_more s.read;
      stays = tt;
      unchanged = tt;
    }
