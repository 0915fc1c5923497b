use Rattle.std.proofs.Common.{sym}
use Rattle.ast.specs.Notation.{Parenthesized}
use Rattle.ast.specs.Statements.{AreNames}
use Rattle.printer.proofs.Parts.{done}
use Rattle.printer.proofs.Productions.{some_listed}
use Rattle.printer.proofs.writer.Writer.column_names.Goals as goal

pub returns : goal.returns
returns c = done c.list_in_parentheses.result (some_listed (λ _ _. Parenthesized AreNames) _ (sym c.if-is_empty.ensures)) c.list_in_parentheses.ensures
