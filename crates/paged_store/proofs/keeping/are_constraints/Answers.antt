use Rattle.std.proofs.Common.{subst, arith}
use Rattle.catalog_records.specs.Keepable.{IsConstraint}
use Rattle.paged_store.proofs.KeepingLemmas.{all_step}
use Rattle.paged_store.proofs.keeping.are_constraints.Goals as goal

pub loop-constraint-preserved : goal.loop-constraint-preserved
loop-constraint-preserved c =
    all_step IsConstraint c.args.constraints.now c.loop-constraint.constraint-index c.constraint-item.result (omega arith)
    (subst IsConstraint c.constraint-item.is c.is_rule.ensures) c.loop-constraint.invariant
