use Rattle.printer.proofs.Parts.{done, token_before}
use Rattle.printer.proofs.statement.ColumnRulePart.write.Goals as goal

pub returns-in_ok-word-in-NotNull : goal.returns-in_ok-word-in-NotNull
returns-in_ok-word-in-NotNull c = rw c.in-NotNull.is (done c.word-in-NotNull.result (token_before c.in_ok-word-in-NotNull.ensures) c.word-in-NotNull.ensures)

pub returns-in_ok-word-in-PrimaryKey : goal.returns-in_ok-word-in-PrimaryKey
returns-in_ok-word-in-PrimaryKey c = rw c.in-PrimaryKey.is (done c.word-in-PrimaryKey-2.result (token_before c.in_ok-word-in-PrimaryKey.ensures) c.word-in-PrimaryKey-2.ensures)

pub returns-in-Unique : goal.returns-in-Unique
returns-in-Unique c = rw c.in-Unique.is c.word-in-Unique.ensures

pub returns-in-Check : goal.returns-in-Check
returns-in-Check c = rw c.in-Check.is c.check.ensures

pub returns-in-References : goal.returns-in-References
returns-in-References c = rw c.in-References.is c.write.ensures
