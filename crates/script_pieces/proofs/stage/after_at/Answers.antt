use Rattle.std.proofs.Common.{ℕ, sym, subst}
use Rattle.script_pieces.specs.declared.stage.Stage.TheVariants.{At, Digits}
use Rattle.script_pieces.specs.Cutter.{Steps}
use Rattle.script_pieces.proofs.Cutting.{at_digit, is_digit}
use Rattle.script_pieces.proofs.stage.after_at.Goals as goal

pub returns-then-is_ascii_digit : goal.returns-then-is_ascii_digit
returns-then-is_ascii_digit c place text may =
    let P : ℕ → Type 0 = λ n. Steps place At text c.args.byte (Digits n) text in
    subst P (sym c.with_digit.ensures) (at_digit place text c.args.byte (is_digit c.is_ascii_digit.result c.args.byte c.if-is_ascii_digit.true c.is_ascii_digit.ensures.cases))
