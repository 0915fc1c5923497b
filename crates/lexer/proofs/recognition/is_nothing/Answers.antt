use Rattle.lexer.proofs.Recognized.{nothing_iff}
use Rattle.lexer.proofs.recognition.is_nothing.Goals as goal

pub returns : goal.returns
returns c = rw c.is_empty.ensures (nothing_iff c.args.text.now c.skip_gap.result.now c.skip_gap.ensures.value)
