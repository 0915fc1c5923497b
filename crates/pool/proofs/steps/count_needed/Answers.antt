use Rattle.std.proofs.Common.{arith}
use Rattle.pool.specs.Images.{needs, pinned_in}
use Rattle.pool.proofs.ImageCounts.{sum_more, sum_all}
use Rattle.pool.proofs.steps.count_needed.Goals as goal

pub loop-page-preserved : goal.loop-page-preserved
loop-page-preserved c = record {
  count = sum_more (needs c.args.count (pinned_in c.args.pins.now) c.args.slots.now) c.args.numbers.now c.loop-page.page-index c.loop-page.needed c.count_at-needed.result c.loop-page-test.true c.loop-page.invariant.count c.count_at-needed.ensures.needed;
  most = let was = c.loop-page.invariant.most in let one = c.count_at-needed.ensures.most in omega (arith, was, one);
}

pub returns-clause-needed : goal.returns-clause-needed
returns-clause-needed c = sum_all (needs c.args.count (pinned_in c.args.pins.now) c.args.slots.now) c.args.numbers.now c.loop-page.page-index c.loop-page.needed (omega arith) c.loop-page.invariant.count
