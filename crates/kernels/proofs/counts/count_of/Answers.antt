use Rattle.std.proofs.Common.{◌∙◌}
use Rattle.kernels.proofs.counts.count_of.Goals as goal

pub returns : goal.returns
returns c = λ rows h. c.number_at.ensures ∙ h.times (record { digest = c.row_digest.result; values = c.args.row }) c.row_digest.ensures
