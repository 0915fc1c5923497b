use Rattle.std.proofs.Common.{rules, arith}
use Rattle.csv_rows.proofs.Integers.{below_zero}
use Rattle.csv_rows.proofs.integer.negated.Goals as goal

pub returns-in_err-checked_sub-clause-again : goal.returns-in_err-checked_sub-clause-again
returns-in_err-checked_sub-clause-again c below fits e =
    let (before, is, number, small) = below_zero below c.args.number fits (omega arith) e in search rules

pub returns-in_err-before-clause-again : goal.returns-in_err-before-clause-again
returns-in_err-before-clause-again c below fits e =
    let (before, is, number, small) = below_zero below c.args.number fits (omega arith) e in search rules

pub returns-clause-again : goal.returns-clause-again
returns-clause-again c below fits e =
    let (before, is, number, small) = below_zero below c.args.number fits (omega arith) e in search rules
