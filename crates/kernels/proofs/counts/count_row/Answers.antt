use Rattle.std.proofs.Common.{◌∙◌, sym, ap, ◌+◌, None, Some}
use Rattle.kernels.proofs.Counting.{count-is, Counts-push, Counts-again, counted-once}
use Rattle.kernels.proofs.counts.count_row.Goals as goal

pub returns-in-None-clause-before : goal.returns-in-None-clause-before
returns-in-None-clause-before c = λ rows counts. count-is c.args.counts.now (record { digest = c.row_digest.result; values = c.args.row }) rows None c.row_digest.ensures counts (sym c.in-None.is ∙ c.in_ok-insert.ensures.old)

pub returns-in-None-clause-counted : goal.returns-in-None-clause-counted
returns-in-None-clause-counted c = λ rows counts short.
    let none = count-is c.args.counts.now (record { digest = c.row_digest.result; values = c.args.row }) rows None c.row_digest.ensures counts (sym c.in-None.is ∙ c.in_ok-insert.ensures.old) in
    Counts-push c.args.counts.now c.insert.new.self (record { digest = c.row_digest.result; values = c.args.row }) rows 1 c.row_digest.ensures counts (ap (λ n. n + 1) none) c.in_ok-insert.ensures.updates

pub returns-in_ok-insert-in-Some-clause-before : goal.returns-in_ok-insert-in-Some-clause-before
returns-in_ok-insert-in-Some-clause-before c = λ rows counts. count-is c.args.counts.now (record { digest = c.row_digest.result; values = c.args.row }) rows (Some c.in-Some.before) c.row_digest.ensures counts (sym c.in-Some.is ∙ c.in_ok-insert.ensures.old)

pub returns-in_ok-insert-in-Some-clause-counted : goal.returns-in_ok-insert-in-Some-clause-counted
returns-in_ok-insert-in-Some-clause-counted c = λ rows counts short.
    let before = count-is c.args.counts.now (record { digest = c.row_digest.result; values = c.args.row }) rows (Some c.in-Some.before) c.row_digest.ensures counts (sym c.in-Some.is ∙ c.in_ok-insert.ensures.old) in
    Counts-again c.args.counts.now c.insert.new.self c.insert-in-Some.new.self (record { digest = c.row_digest.result; values = c.args.row }) rows 1 c.saturating_add.result c.row_digest.ensures counts
    (counted-once c.args.row.now rows c.in-Some.before c.saturating_add.result before c.saturating_add.ensures short)
    c.in_ok-insert.ensures.updates c.in_ok-insert-in-Some.ensures.updates
