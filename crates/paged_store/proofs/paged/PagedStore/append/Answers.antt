use Rattle.std.proofs.Common.{◌∙◌}
use Rattle.store.specs.Contents.{Contents, appended}
use Rattle.pool.specs.Versions.{NeedsImages, versions_of, refused_of}
use Rattle.overlay.specs.WriteSet.{settled_of, private_of, undone_of}
use Rattle.snapshot_pins.specs.Pinned.{numbers_of}
use Rattle.paged_store.proofs.DoneLemmas.{done_shows, done_undone, done_sound, done_alone, done_steady, append_fails}
use Rattle.paged_store.proofs.OrderlyLemmas.{no_more, orderly_same}
use Rattle.paged_store.proofs.GoesLemmas.{last_same}
use Rattle.paged_store.proofs.paged.PagedStore.append.Goals as goal

pub returns-clause-shows : goal.returns-clause-shows
returns-clause-shows g c =
    let s = c.args.self.now in
    λ sound. done_shows g.D.Disk.is_honest (versions_of s.pool) (versions_of c.append_rows-done.new.pool) (numbers_of s.readers) (private_of s.changes) (settled_of s.changes) (private_of c.append_rows-done.new.changes) (settled_of c.append_rows-done.new.changes) (private_of c.undo_refused.new.changes) (settled_of c.undo_refused.new.changes)
    s.commits s.ordered.counted c.append_rows-done.ensures.versions c.append_rows-done.ensures.settled c.undo_refused.ensures.settled (λ (x : Contents). appended x c.args.name.now c.args.rows)
    c.undo_refused.result c.append_rows-done.result c.undo_refused.ensures.same c.undo_refused.ensures.made c.append_rows-done.ensures.appended sound

pub returns-clause-undone : goal.returns-clause-undone
returns-clause-undone g c =
    let s = c.args.self.now in
    done_undone g.D.Disk.is_honest (versions_of s.pool) (versions_of c.append_rows-done.new.pool) (numbers_of s.readers) (private_of s.changes) (settled_of s.changes) (private_of c.append_rows-done.new.changes) (settled_of c.append_rows-done.new.changes) (private_of c.undo_refused.new.changes) (settled_of c.undo_refused.new.changes)
    s.commits s.ordered.counted c.append_rows-done.ensures.versions c.append_rows-done.ensures.settled c.undo_refused.ensures.settled (λ (x : Contents). appended x c.args.name.now c.args.rows)
    c.undo_refused.result c.append_rows-done.result c.undo_refused.ensures.same c.undo_refused.ensures.left

pub returns-clause-goes : goal.returns-clause-goes
returns-clause-goes g c =
    let s = c.args.self.now in
    record {
      sound = done_sound g.D.Disk.is_honest (versions_of s.pool) (versions_of c.append_rows-done.new.pool) (numbers_of s.readers) (private_of s.changes) (settled_of s.changes) (private_of c.append_rows-done.new.changes) (settled_of c.append_rows-done.new.changes) (private_of c.undo_refused.new.changes) (settled_of c.undo_refused.new.changes)
          s.commits s.ordered.counted c.append_rows-done.ensures.versions c.append_rows-done.ensures.settled c.undo_refused.ensures.settled (λ (x : Contents). appended x c.args.name.now c.args.rows)
          c.append_rows-done.result c.undo_refused.ensures.made c.undo_refused.ensures.left c.append_rows-done.ensures.owned;
      refused = c.append_rows-done.ensures.rising;
      damaged = c.undo_refused.ensures.damage_rises;
      read = no_more s.read;
      stays = last_same g.D.Disk.is_honest (versions_of s.pool) (versions_of c.append_rows-done.new.pool) (numbers_of s.readers) (numbers_of s.readers) (private_of s.changes) (settled_of s.changes) (private_of c.undo_refused.new.changes) (settled_of c.undo_refused.new.changes) _ _ _ _ _ _ _ _ _ _
          c.append_rows-done.ensures.versions c.append_rows-done.ensures.writes;
      unchanged = tt;
    }

pub returns-clause-damage : goal.returns-clause-damage
returns-clause-damage g c = c.undo_refused.ensures.damage

pub returns-clause-alone : goal.returns-clause-alone
returns-clause-alone g c =
    let s = c.args.self.now in
    done_alone g.D.Disk.is_honest (versions_of s.pool) (versions_of c.append_rows-done.new.pool) (numbers_of s.readers) (private_of s.changes) (settled_of s.changes) (private_of c.undo_refused.new.changes) (settled_of c.undo_refused.new.changes) c.undo_refused.result
    c.append_rows-done.ensures.versions (c.undo_refused.ensures.settled ∙ c.append_rows-done.ensures.settled)

pub returns-clause-refused : goal.returns-clause-refused
returns-clause-refused g c =
    let s = c.args.self.now in
    append_fails (NeedsImages c.append_rows-done.new.pool (private_of c.undo_refused.new.changes)) g.D.Disk.is_honest (versions_of s.pool) (versions_of c.append_rows-done.new.pool) (numbers_of s.readers) (private_of s.changes) (settled_of s.changes) (private_of c.append_rows-done.new.changes) (settled_of c.append_rows-done.new.changes) (settled_of c.undo_refused.new.changes)
    s.commits s.ordered.counted c.append_rows-done.ensures.versions c.append_rows-done.ensures.settled c.undo_refused.ensures.settled (refused_of s.pool) (refused_of c.append_rows-done.new.pool)
    s.steady (undone_of c.undo_refused.new.changes) c.args.name.now c.args.rows c.undo_refused.result c.append_rows-done.result c.undo_refused.ensures.same c.undo_refused.ensures.undone c.append_rows-done.ensures.refused

pub invariant_of-self : goal.invariant_of-self
invariant_of-self g c =
    let s = c.args.self.now in
    record {
      ordered = orderly_same g.D.Disk.is_honest (versions_of s.pool) (versions_of c.append_rows-done.new.pool) s.readers s.commits c.append_rows-done.ensures.versions s.ordered;
      steady = done_steady g.D.Disk.is_honest (versions_of s.pool) (versions_of c.append_rows-done.new.pool) (numbers_of s.readers) (private_of s.changes) (settled_of s.changes) (private_of c.append_rows-done.new.changes) (settled_of c.append_rows-done.new.changes) (private_of c.undo_refused.new.changes) (settled_of c.undo_refused.new.changes)
          s.commits s.ordered.counted c.append_rows-done.ensures.versions c.append_rows-done.ensures.settled c.undo_refused.ensures.settled (λ (x : Contents). appended x c.args.name.now c.args.rows)
          c.append_rows-done.result c.undo_refused.ensures.made c.undo_refused.ensures.left c.append_rows-done.ensures.appended s.steady;
    }
