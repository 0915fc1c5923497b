use Rattle.std.proofs.Common.{refl, sym, subst, Result, IfOk}
use Rattle.std.specs.FinMap.{get}
use Rattle.std.specs.Option.{option_map}
use Rattle.store.specs.declared.error.StoreError.{StoreError}
use Rattle.store.specs.declared.rows.Numbered.{Numbered}
use Rattle.store.specs.Indexes.{some_ranged}
use Rattle.store.specs.View.{AreEntries, seen_by, position_of}
use Rattle.pool.specs.Versions.{versions_of, refused_of}
use Rattle.overlay.specs.WriteSet.{settled_of, private_of}
use Rattle.snapshot_pins.specs.Pinned.{numbers_of}
use Rattle.paged_store.specs.Store.{shown_of, sound_of}
use Rattle.paged_store.proofs.ShownLemmas.{shown_with}
use Rattle.paged_store.proofs.SoundLemmas.{same_sound}
use Rattle.paged_store.proofs.OrderlyLemmas.{orderly_same}
use Rattle.paged_store.proofs.SteadyLemmas.{steady_same}
use Rattle.paged_store.proofs.GoesLemmas.{fails_so}
use Rattle.paged_store.proofs.paged.PagedStore.range_block.Goals as goal

pub invariant_of-self : goal.invariant_of-self
invariant_of-self g c =
    let s = c.args.self.now in
    record {
      ordered = orderly_same g.D.Disk.is_honest (versions_of s.pool) (versions_of c.some_ranged_seen-found.new.pool) s.readers s.commits c.some_ranged_seen-found.ensures.versions s.ordered;
      steady = steady_same (versions_of s.pool) (versions_of c.some_ranged_seen-found.new.pool) (private_of s.changes) (settled_of s.changes) c.some_ranged_seen-found.ensures.versions s.steady;
    }

pub returns-clause-rows : goal.returns-clause-rows
returns-clause-rows g c =
    let s = c.args.self.now in
    λ sound. subst (λ (r : Result Numbered StoreError). IfOk r (λ found. AreEntries found (some_ranged (get (seen_by (shown_of s) c.args.view) c.args.name.now) c.args.index c.args.low.now c.args.high.now (option_map (λ p. position_of p.now) c.args.after) c.args.most))) (sym c.counted_rows.ensures.same)
    (c.some_ranged_seen-found.ensures.rows (settled_of s.changes) sound)

pub returns-clause-read : goal.returns-clause-read
returns-clause-read g c = c.counted_rows.ensures.read

pub returns-clause-refused : goal.returns-clause-refused
returns-clause-refused g c =
    let s = c.args.self.now in
    fails_so c.counted_rows.result c.some_ranged_seen-found.result (sound_of s) (refused_of s.pool) (refused_of c.some_ranged_seen-found.new.pool) c.counted_rows.ensures.same (c.some_ranged_seen-found.ensures.refused (settled_of s.changes))

pub returns-clause-damage : goal.returns-clause-damage
returns-clause-damage g c = c.counted_rows.ensures.damage

pub returns-clause-goes : goal.returns-clause-goes
returns-clause-goes g c =
    let s = c.args.self.now in
    record {
      sound = same_sound g.D.Disk.is_honest (versions_of s.pool) (versions_of c.some_ranged_seen-found.new.pool) (numbers_of s.readers) (private_of s.changes) (settled_of s.changes) c.some_ranged_seen-found.ensures.versions;
      refused = c.some_ranged_seen-found.ensures.rising;
      damaged = c.counted_rows.ensures.damage_rises;
      read = c.counted_rows.ensures.rows_rise;
      stays = record {
        shows = shown_with g.D.Disk.is_honest (versions_of s.pool) (versions_of c.some_ranged_seen-found.new.pool) (numbers_of s.readers) (private_of s.changes) (settled_of s.changes) (private_of s.changes) (settled_of s.changes) c.some_ranged_seen-found.ensures.versions refl refl;
        prepared = refl;
        writes = c.some_ranged_seen-found.ensures.writes;
      };
      unchanged = λ none. none;
    }
