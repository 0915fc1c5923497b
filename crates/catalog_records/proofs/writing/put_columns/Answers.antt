use Rattle.std.proofs.Common.{ℕ, ◌+◌}
use Rattle.sqlval.specs.declared.schema.Column.{Column}
use Rattle.catalog_records.specs.Records.{column_record}
use Rattle.catalog_records.proofs.Loops.{put-next}
use Rattle.catalog_records.proofs.writing.put_columns.Goals as goal

pub loop-place-preserved : goal.loop-place-preserved
loop-place-preserved c =
    put-next (λ (x : ℕ × Column). column_record c.args.name.now x.0 x.1) c.loop-place.place _ _ _ _ _ _ c.loop-place-test.true c.index-columns-place.is
    (rw c.in_ok-column_record.ensures at c.in_ok-push.ensures.ok) c.loop-place.invariant
