use Rattle.pool.specs.Images.{pinned_in}
use Rattle.pool.proofs.ImageCounts.{needs_past}
use Rattle.pool.proofs.steps.needs_image.Goals as goal

pub returns-then-page-count : goal.returns-then-page-count
returns-then-page-count c = needs_past c.args.count (pinned_in c.args.pins.now) c.args.slots.now c.args.page c.is_pinned.result c.in-None.ensures.lookup.3 c.if-page-count.true c.is_pinned.ensures
