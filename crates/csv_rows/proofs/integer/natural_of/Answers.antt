use Rattle.std.proofs.Common.{rules, sym}
use Rattle.std.proofs.lemmas.Fmt.{parse-decimal}
use Rattle.csv_rows.proofs.integer.natural_of.Goals as goal

pub returns-in_err-number-clause-again : goal.returns-in_err-number-clause-again
returns-in_err-number-clause-again c number h e =
    let read = parse-decimal 64 number _ _ h h (sym e) c.parse.ensures.value.0 in search rules

pub returns-then-eq-clause-again : goal.returns-then-eq-clause-again
returns-then-eq-clause-again c number h e =
    let read = parse-decimal 64 number _ _ h h (sym e) c.parse.ensures.value.0 in search rules

pub returns-else-eq-clause-again : goal.returns-else-eq-clause-again
returns-else-eq-clause-again c number h e =
    let read = parse-decimal 64 number _ _ h h (sym e) c.parse.ensures.value.0 in search rules
