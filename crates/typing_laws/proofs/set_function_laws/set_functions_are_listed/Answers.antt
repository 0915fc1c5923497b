use Rattle.typing_laws.proofs.Existence.{selects-listed}
use Rattle.typing_laws.proofs.Numbers.{selects-numbered}
use Rattle.typing_laws.proofs.set_function_laws.set_functions_are_listed.Goals as goal

pub returns : goal.returns
returns c = record { listed = selects-listed; numbered = selects-numbered }
