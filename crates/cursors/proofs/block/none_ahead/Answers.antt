use Rattle.std.proofs.Common.{◌∙◌}
use Rattle.cursors.proofs.block.none_ahead.Goals as goal

pub returns : goal.returns
returns c = c.rows_ahead.ensures ∙ c.new-none.ensures
