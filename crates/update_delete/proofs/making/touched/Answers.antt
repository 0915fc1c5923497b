use Rattle.std.proofs.Common.{◌∙◌, ap, cond, refl, arith}
use Rattle.std.specs.Prelude.{count_by}
use Rattle.std.proofs.lemmas.List.Sums.{sum_by_more}
use Rattle.query_answers.proofs.Meant.{taken_all}
use Rattle.update_delete.specs.declared.change.RowChange.{RowChange}
use Rattle.update_delete.specs.RowChanges.{is_change}
use Rattle.update_delete.proofs.making.touched.Goals as goal

pub loop-change-preserved : goal.loop-change-preserved
loop-change-preserved c = record {
  so_far = rw (sum_by_more (λ (x : RowChange). cond (is_change x) 1 0) c.args.changes.now c.loop-change.change-index c.change-item.result c.loop-change-test.true, ← c.change-item.is, c.one_if_touched-more.ensures.count, c.loop-change.invariant.so_far) refl;
  few = omega (arith, c.one_if_touched-more.ensures.few, c.loop-change.invariant.few);
}

pub returns : goal.returns
returns c = c.loop-change.invariant.so_far ∙ ap (count_by is_change) (taken_all c.args.changes.now c.loop-change.change-index c.loop-change-test.false)
