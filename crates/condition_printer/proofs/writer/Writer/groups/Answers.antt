use Rattle.std.proofs.Common.{sym}
use Rattle.condition_printer.proofs.Parts.{◌⨟◌, done}
use Rattle.condition_printer.proofs.Productions.{grouped}
use Rattle.condition_printer.proofs.writer.Writer.groups.Goals as goal

pub returns : goal.returns
returns c = done c.list.result (λ last. grouped _ (sym c.if-is_empty.ensures) (c.in_ok-word.ensures ⨟ c.in_ok-word-2.ensures ⨟ last)) c.list.ensures
