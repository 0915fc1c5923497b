use Rattle.std.proofs.Common.{◌≡◌, [], ◌∙◌, sym}
use Rattle.lexer.specs.declared.kinds.Kind.TheVariants as kind
use Rattle.lexer.specs.Reading.{Stop, Reads, gap}
use Rattle.lexer.proofs.Fronts.{empty, split}
use Rattle.lexer.proofs.recognition.after_word.Goals as goal

pub returns-in-empty-clause-none : goal.returns-in-empty-clause-none
returns-in-empty-clause-none c = λ _ rest read.
    let ends : gap c.args.text.now ≡ [] = sym c.skip_gap.ensures.value ∙ empty c.skip_gap.result.now c.in-empty.len_below in
    let stop : Stop ≡ Reads (kind.Word c.args.word) rest = rw ends at read in cc

pub returns-in-len1-up : goal.returns-in-len1-up
returns-in-len1-up c =
    let there = sym c.skip_gap.ensures.value ∙ split c.skip_gap.result.now 0 c.in-len1-up.len_at_least in
    record { some = rw there c.after_letters.ensures.some; none = λ e rest. c.after_letters.ensures.none e c.args.text.now rest there }
