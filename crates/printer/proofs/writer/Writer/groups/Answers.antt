use Rattle.std.proofs.Common.{sym}
use Rattle.ast.specs.Notation.{◌⊳◌, Listed}
use Rattle.ast.specs.Terminals.{IsColumn}
use Rattle.ast.specs.Words.{BY, GROUP}
use Rattle.printer.proofs.Parts.{◌⨟◌, done}
use Rattle.printer.proofs.Productions.{some_listed}
use Rattle.printer.proofs.writer.Writer.groups.Goals as goal

pub returns : goal.returns
returns c = done c.list.result
    (λ last. some_listed (λ _ _. GROUP ⊳ BY ⊳ Listed IsColumn) _ (sym c.if-is_empty.ensures) (c.in_ok-word.ensures ⨟ c.in_ok-word-2.ensures ⨟ last))
    c.list.ensures
