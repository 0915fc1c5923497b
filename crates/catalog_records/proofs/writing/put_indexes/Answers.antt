use Rattle.std.proofs.Common.{ℕ, ◌+◌}
use Rattle.sqlval.specs.declared.schema.Index.{Index}
use Rattle.catalog_records.specs.Records.{index_record}
use Rattle.catalog_records.proofs.Loops.{put-next}
use Rattle.catalog_records.proofs.writing.put_indexes.Goals as goal

pub loop-place-preserved : goal.loop-place-preserved
loop-place-preserved c =
    put-next (λ (x : ℕ × Index). index_record c.args.name.now x.0 x.1) (c.loop-place.place + 1) _ _ _ _ _ _ c.loop-place-test.true c.index-indexes-place.is
    (rw c.in_ok-index_record.ensures at c.in_ok-push.ensures.ok) c.loop-place.invariant
