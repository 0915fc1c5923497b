use Rattle.printer.proofs.Parts.{done, token_before}
use Rattle.printer.proofs.writer.Writer.count_rows.Goals as goal

pub returns : goal.returns
returns c = done c.symbol-3.result
    (λ last. token_before c.in_ok-word.ensures (token_before c.in_ok-symbol.ensures (token_before c.in_ok-symbol-2.ensures last))) c.symbol-3.ensures
