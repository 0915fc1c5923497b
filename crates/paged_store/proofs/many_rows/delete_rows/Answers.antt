use Rattle.std.proofs.Common.{◌∙◌, ◌+◌, ap, arith, ℕ, List, drop}
use Rattle.std.specs.Prelude.{slice_index}
use Rattle.store.specs.Contents.{Contents, deleted, deleted_all}
use Rattle.pool.specs.Versions.{Versions, versions_of, refused_of}
use Rattle.overlay.specs.WriteSet.{private_of}
use Rattle.paged_store.proofs.ManyLemmas.{changed_on, drop_item, deleting_fails}
use Rattle.paged_store.proofs.many_rows.delete_rows.Goals as goal

pub loop-number-preserved : goal.loop-number-preserved
loop-number-preserved g c =
    let moved = drop_item c.args.numbers.now c.loop-number.number-index 0 (omega arith) in
    record {
      versions = c.delete_row.ensures.versions ∙ c.loop-number.invariant.versions;
      settled = c.delete_row.ensures.settled ∙ c.loop-number.invariant.settled;
      rising = omega (arith, c.loop-number.invariant.rising, c.delete_row.ensures.rising);
      writes = c.delete_row.ensures.writes ∙ c.loop-number.invariant.writes;
      changed = changed_on ((versions_of c.args.pool.now).pages c.args.at) ((versions_of c.loop-number.pool).pages c.args.at) (private_of c.args.changes.now) (private_of c.loop-number.changes) (private_of c.delete_row.new.changes)
          (λ (x : Contents). deleted_all x c.args.name.now c.args.numbers.now) (λ (x : Contents). deleted_all x c.args.name.now (drop c.loop-number.number-index c.args.numbers.now)) (λ (x : Contents). deleted_all x c.args.name.now (drop (c.loop-number.number-index + 1) c.args.numbers.now))
          (λ (x : Contents). deleted x c.args.name.now (slice_index c.args.numbers.now c.loop-number.number-index)) (ap (λ (v : Versions). v.pages c.args.at) c.loop-number.invariant.versions)
          (λ x. ap (λ (found : List ℕ). deleted_all x c.args.name.now found) moved) c.loop-number.invariant.changed c.in-Ok.ensures.deleted c.in-Ok.ensures.owned;
    }

pub returns-in-Err-clause-refused : goal.returns-in-Err-clause-refused
returns-in-Err-clause-refused g c =
    deleting_fails ((versions_of c.args.pool.now).pages c.args.at) ((versions_of c.loop-number.pool).pages c.args.at) (private_of c.args.changes.now) (private_of c.loop-number.changes) (private_of c.delete_row.new.changes)
    (λ (x : Contents). deleted_all x c.args.name.now c.args.numbers.now) (λ (x : Contents). deleted_all x c.args.name.now (drop c.loop-number.number-index c.args.numbers.now)) (ap (λ (v : Versions). v.pages c.args.at) c.loop-number.invariant.versions) c.loop-number.invariant.changed
    (refused_of c.args.pool.now) (refused_of c.loop-number.pool) (refused_of c.delete_row.new.pool) c.loop-number.invariant.rising c.in-Err.error c.in-Err.ensures.refused
