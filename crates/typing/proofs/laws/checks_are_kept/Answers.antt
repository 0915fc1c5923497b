use Rattle.typing.proofs.KeptChecks.{checks_kept}
use Rattle.typing.proofs.laws.checks_are_kept.Goals as goal

pub returns : goal.returns
returns c = checks_kept
