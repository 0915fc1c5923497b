use Rattle.std.proofs.Common.{ℕ, ◌+◌}
use Rattle.sqlval.specs.declared.schema.Constraint.{Constraint}
use Rattle.catalog_records.specs.Records.{constraint_record}
use Rattle.catalog_records.proofs.Loops.{put-next}
use Rattle.catalog_records.proofs.writing.put_constraints.Goals as goal

pub loop-place-preserved : goal.loop-place-preserved
loop-place-preserved c =
    put-next (λ (x : ℕ × Constraint). constraint_record c.args.name.now x.0 x.1) (c.loop-place.place + 1) _ _ _ _ _ _ c.loop-place-test.true c.index-constraints-place.is
    (rw c.in_ok-constraint_record.ensures at c.in_ok-push.ensures.ok) c.loop-place.invariant
