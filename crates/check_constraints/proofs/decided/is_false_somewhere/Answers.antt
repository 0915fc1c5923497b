use Rattle.std.proofs.Common.{◌≡◌, ◌∙◌, sym, true, false}
use Rattle.sqlval.specs.Value.{Row}
use Rattle.denote.specs.Database.{is_false}
use Rattle.query_answers.specs.Sources.{check_truth}
use Rattle.check_constraints.proofs.Deciding.{row_here, row_past}
use Rattle.check_constraints.proofs.decided.is_false_somewhere.Goals as goal

pub returns-then-branch-clause-found : goal.returns-then-branch-clause-found
returns-then-branch-clause-found c =
    let here : is_false (check_truth c.row-item.result c.args.condition.now) ≡ true = rw c.as_slice.ensures at (sym c.in_ok-is_false_at.ensures.found ∙ c.if-branch.true) in
    row_here (λ (row : Row). is_false (check_truth row c.args.condition.now)) c.args.rows.now c.loop-row.row-index c.row-item.result c.loop-row-test.true c.row-item.is here c.loop-row.invariant

pub loop-row-preserved : goal.loop-row-preserved
loop-row-preserved c =
    let past : is_false (check_truth c.row-item.result c.args.condition.now) ≡ false = rw c.as_slice.ensures at (sym c.in_ok-is_false_at.ensures.found ∙ c.if-branch.false) in
    row_past (λ (row : Row). is_false (check_truth row c.args.condition.now)) c.args.rows.now c.loop-row.row-index c.row-item.result c.loop-row-test.true c.row-item.is past c.loop-row.invariant
