use Rattle.std.proofs.Common.{◌∙◌, arith}
use Rattle.crash_disk.proofs.TimeLemmas.{newest_at}
use Rattle.crash_disk.proofs.outcome.latest.Goals as goal

pub returns-in-len1-up : goal.returns-in-len1-up
returns-in-len1-up c = c.last-item.is ∙ newest_at c.args.first.now c.args.later.now _ (omega (arith, c.in-len1-up.len_at_least))
