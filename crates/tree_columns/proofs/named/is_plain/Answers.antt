use Rattle.std.proofs.Common.{◌∙◌}
use Rattle.tree_columns.proofs.PlainConditions.{plain_anywhere}
use Rattle.tree_columns.proofs.named.is_plain.Goals as goal

pub returns : goal.returns
returns c = c.names_within.ensures ∙ plain_anywhere c.args.condition.now
