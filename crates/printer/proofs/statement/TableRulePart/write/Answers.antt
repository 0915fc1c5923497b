use Rattle.printer.proofs.Parts.{done, ◌⨟◌}
use Rattle.printer.proofs.statement.TableRulePart.write.Goals as goal

pub returns-in_ok-word-in-PrimaryKey-2 : goal.returns-in_ok-word-in-PrimaryKey-2
returns-in_ok-word-in-PrimaryKey-2 c = rw c.in-PrimaryKey.is (done c.list_in_parentheses.result (λ last. c.in_ok-word-in-PrimaryKey.ensures ⨟ c.in_ok-word-in-PrimaryKey-2.ensures ⨟ (rw c.as_slice.ensures at last)) c.list_in_parentheses.ensures)

pub returns-in_ok-word-in-Unique : goal.returns-in_ok-word-in-Unique
returns-in_ok-word-in-Unique c = rw c.in-Unique.is (done c.list_in_parentheses-in-Unique.result (λ last. c.in_ok-word-in-Unique.ensures ⨟ (rw c.as_slice-in-Unique.ensures at last)) c.list_in_parentheses-in-Unique.ensures)

pub returns-in-Check : goal.returns-in-Check
returns-in-Check c = rw c.in-Check.is c.check.ensures

pub returns-in-ForeignKey : goal.returns-in-ForeignKey
returns-in-ForeignKey c = rw c.in-ForeignKey.is c.write.ensures
