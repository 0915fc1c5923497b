use Rattle.algebra_laws.proofs.Plain.{plain-denied}
use Rattle.algebra_laws.proofs.Safe.{conditions-safe, expressions-safe, trees-safe}
use Rattle.algebra_laws.proofs.raising.denials_are_certain.Goals as goal

pub returns : goal.returns
returns c = record { condition = conditions-safe; expression = expressions-safe; tree = trees-safe; plain = plain-denied }
