use Rattle.algebra_laws.proofs.Meanings.{truth-shown, value-shown}
use Rattle.algebra_laws.proofs.translation.evaluation_keeps_the_meaning.Goals as goal

pub returns : goal.returns
returns c = record { value = value-shown; truth = truth-shown }
