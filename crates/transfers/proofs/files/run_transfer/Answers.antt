use Rattle.std.proofs.Common.{◌≡◌, true, false, inr, sym, ◌∙◌}
use Rattle.transfers.proofs.files.run_transfer.Goals as goal

pub returns-then-not-are_open-clause-status : goal.returns-then-not-are_open-clause-status
returns-then-not-are_open-clause-status g c = inr (inr c.refuse.ensures.failed)
