use Rattle.std.proofs.Common.{sym, arith}
use Rattle.script_pieces.proofs.Cutting.{letters_other, letters_next, letters_last}
use Rattle.script_pieces.proofs.stage.after_letters.Goals as goal

pub returns-then-letter-byte : goal.returns-then-letter-byte
returns-then-letter-byte c place text may = letters_other place c.args.letters text c.args.byte (λ e. c.if-letter-byte.true (sym e))

pub returns-then-letters-lt4 : goal.returns-then-letters-lt4
returns-then-letters-lt4 c place text may =
    letters_next place c.args.letters text c.args.byte (sym c.if-letter-byte.false) (omega (arith, c.if-letters-lt4.true))

pub returns-else-letters-lt4 : goal.returns-else-letters-lt4
returns-else-letters-lt4 c place text may = letters_last place text c.args.letters c.args.byte (sym c.if-letter-byte.false) c.if-letters-lt4.false
