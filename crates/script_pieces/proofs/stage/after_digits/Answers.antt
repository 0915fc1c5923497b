use Rattle.std.proofs.Common.{ℕ, sym, subst, ◌∙◌}
use Rattle.std.proofs.lemmas.Bool.{true≢false}
use Rattle.script_pieces.specs.declared.stage.Stage.TheVariants.{Digits}
use Rattle.script_pieces.specs.Cutter.{Steps}
use Rattle.script_pieces.proofs.Cutting.{digits_more, digits_bad, digits_end, is_digit, no_digit, is_letter, no_letter}
use Rattle.script_pieces.proofs.stage.after_digits.Goals as goal
use Rattle.script_pieces.proofs.stage.after_digits.Goals.{then-is_ascii_alphabetic-via-then-is_ascii_alphabetic, then-is_ascii_alphabetic-via-else-is_ascii_alphabetic+then-byte-eq95}

pub returns-then-is_ascii_digit : goal.returns-then-is_ascii_digit
returns-then-is_ascii_digit c =
    let P : ℕ → Type 0 = λ n. Steps c.args.place (Digits c.args.value) c.args.text.now c.args.byte (Digits n) c.args.text.now in
    subst P (sym c.with_digit.ensures)
    (digits_more c.args.place c.args.value c.args.text.now c.args.byte (is_digit c.is_ascii_digit.result c.args.byte c.if-is_ascii_digit.true c.is_ascii_digit.ensures.cases))

pub returns-then-is_ascii_alphabetic : goal.returns-then-is_ascii_alphabetic
returns-then-is_ascii_alphabetic c =
    digits_bad c.args.place c.args.value c.args.text.now c.args.byte
    (no_digit c.is_ascii_digit.result c.args.byte c.if-is_ascii_digit.false c.is_ascii_digit.ensures.cases)
    (λ least greatest no_letter no_underscore.
    elim c.then-is_ascii_alphabetic.branch [
      | then-is_ascii_alphabetic-via-then-is_ascii_alphabetic w ↦
          no_letter (is_letter c.is_ascii_alphabetic.result c.args.byte w.if-is_ascii_alphabetic.true c.is_ascii_alphabetic.ensures.cases)
      | then-is_ascii_alphabetic-via-else-is_ascii_alphabetic+then-byte-eq95 w ↦ no_underscore w.if-byte-eq95.true
    ])

pub returns-then-is_session : goal.returns-then-is_session
returns-then-is_session c =
    let bounds = c.is_session.ensures.0 c.if-is_session.true in
    digits_end c.args.place c.args.value c.args.text.now c.args.byte c.after_session.result c.after_session.new.text bounds.0 bounds.1
    (no_digit c.is_ascii_digit.result c.args.byte c.if-is_ascii_digit.false c.is_ascii_digit.ensures.cases)
    (no_letter c.is_ascii_alphabetic.result c.args.byte c.if-is_ascii_alphabetic.false c.is_ascii_alphabetic.ensures.cases)
    c.if-byte-eq95.false
    c.after_session.ensures

pub returns-else-is_session : goal.returns-else-is_session
returns-else-is_session c =
    digits_bad c.args.place c.args.value c.args.text.now c.args.byte
    (no_digit c.is_ascii_digit.result c.args.byte c.if-is_ascii_digit.false c.is_ascii_digit.ensures.cases)
    (λ least greatest no_letter no_underscore. true≢false (sym (c.is_session.ensures.1 (least, greatest)) ∙ c.if-is_session.false))
