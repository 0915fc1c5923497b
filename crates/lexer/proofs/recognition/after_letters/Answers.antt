use Rattle.std.proofs.Common.{◌∙◌, sym}
use Rattle.std.proofs.lemmas.Bool.{true≢false}
use Rattle.lexer.proofs.Recognized.{a_word, no_other_word}
use Rattle.lexer.proofs.recognition.after_letters.Goals as goal

pub returns-then-is_folded_to-clause-some : goal.returns-then-is_folded_to-clause-some
returns-then-is_folded_to-clause-some c =
    a_word c.args.first c.args.after.now c.split_at.result.0.now c.split_at.result.1.now c.args.word (rw c.run_len.ensures.value at c.split_at.ensures.front)
    (rw c.run_len.ensures.value at c.split_at.ensures.back) (c.is_folded_to.ensures.0 c.if-is_folded_to.true ∙ c.text.ensures)

pub returns-else-is_folded_to-clause-none : goal.returns-else-is_folded_to-clause-none
returns-else-is_folded_to-clause-none c = λ e text rest there read.
    let same = no_other_word text c.args.first c.args.after.now c.split_at.result.0.now rest c.args.word there (rw c.run_len.ensures.value at c.split_at.ensures.front) read in
    let found = c.is_folded_to.ensures.1 (same ∙ sym c.text.ensures) in
    true≢false (sym found ∙ c.if-is_folded_to.false)
