use Rattle.printer.proofs.Parts.{done, ◌⨟◌}
use Rattle.printer.proofs.statement.TableConstraintPart.write.Goals as goal

pub returns : goal.returns
returns c = done c.write.result (λ last. c.in_ok-constraint_name.ensures ⨟ last) c.write.ensures
