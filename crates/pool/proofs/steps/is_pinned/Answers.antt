use Rattle.pool.proofs.ImageCounts.{any_pinned}
use Rattle.pool.proofs.steps.is_pinned.Goals as goal

pub returns : goal.returns
returns c = any_pinned c.args.pins.now
