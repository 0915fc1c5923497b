use Rattle.condition_printer.proofs.Parts.{◌⨟◌, done, written}
use Rattle.condition_printer.proofs.part.TruthTestPart.write.Goals as goal

pub returns : goal.returns
returns c = done c.word-2.result
    (λ last. (c.in_ok-word.ensures ⨟ c.in_ok-word_if.ensures) ⨟ written c.truth_word.ensures last) c.word-2.ensures
