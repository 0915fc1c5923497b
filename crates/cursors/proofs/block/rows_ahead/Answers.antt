use Rattle.std.proofs.Common.{◌∙◌}
use Rattle.cursors.proofs.block.rows_ahead.Goals as goal

pub returns : goal.returns
returns c = c.into_iter.ensures.rest ∙ c.into_vec.ensures
