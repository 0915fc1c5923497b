use Rattle.std.proofs.Common.{◌∙◌}
use Rattle.crash_disk.proofs.RangeLemmas.{range_at}
use Rattle.crash_disk.proofs.AddedLemmas.{filled_next}
use Rattle.crash_disk.proofs.outcome.fill_ranges.Goals as goal

pub loop-from-preserved : goal.loop-from-preserved
loop-from-preserved c = record {
  size = c.fill_range.ensures.size ∙ c.loop-from.invariant.size;
  inside = filled_next c.args.ranges.now c.loop-from.from-index _ c.loop-from.bytes c.fill_range.new.bytes c.loop-from-test.true
      c.fill_range.ensures.size c.fill_range.ensures.inside c.fill_range.ensures.outside c.loop-from.invariant.inside;
  outside = λ i none.
      c.fill_range.ensures.outside i (λ is. none (range_at c.args.ranges.now c.loop-from.from-index _ i c.loop-from-test.true is))
      ∙ c.loop-from.invariant.outside i none;
}
