use Rattle.std.proofs.Common.{subst, sym, refl}
use Rattle.std.specs.Prelude.{IfOk}
use Rattle.algebra.specs.declared.tree.Tree.{Tree}
use Rattle.algebra.specs.declared.tree.Tree.TheVariants as t
use Rattle.planner.specs.Led.{IsCalm, LedAt}
use Rattle.planner.proofs.Children.{filter-part}
use Rattle.planner.proofs.Walked.{part-calm}
use Rattle.planner.proofs.down.child_sunk.Goals as goal

pub returns-in-Filter : goal.returns-in-Filter
returns-in-Filter c = λ h.
    let rows = c.in-Filter.rows in
    let calm : IsCalm c.args.calm (t.Filter c.in-Filter.condition rows) = rw c.in-Filter.is at h in
    let below : IsCalm c.args.calm rows =
    part-calm c.args.calm (t.Filter c.in-Filter.condition) 0 (filter-part c.in-Filter.condition) rows calm in
    let inner : IsCalm c.args.calm c.into_inner.result = subst (IsCalm c.args.calm) (sym c.into_inner.ensures) below in
    let led : IfOk c.part_at.result (λ part. LedAt 0 c.args.calm rows part) =
    subst (λ (x : Tree). IfOk c.part_at.result (λ part. LedAt 0 c.args.calm x part)) c.into_inner.ensures
    (c.part_at.ensures.led c.args.calm c.into_inner.result
    (c.sunk-child.ensures.led c.into_inner.result refl (c.begun-child.ensures.led c.args.calm inner))) in
    rw c.in-Filter.is (c.filter_of.ensures.led c.args.calm rows calm led)

pub returns-in_default : goal.returns-in_default
returns-in_default c = λ h. c.begun.ensures.led c.args.calm h
