use Rattle.std.proofs.Common.{ap, ◌∙◌}
use Rattle.algebra.specs.declared.tree.Condition.{Condition}
use Rattle.std.proofs.lemmas.Result.{err_from_is_err_and}
use Rattle.denote.specs.Evaluation.{faults_in}
use Rattle.query_answers.specs.Sources.{check_truth}
use Rattle.query_answers.proofs.InsertLemmas.{IsFaultOf-flat_map, flat_map-skip}
use Rattle.update_delete.proofs.held.evaluate_checks.Goals as goal

pub returns-in_err-check_truth : goal.returns-in_err-check_truth
returns-in_err-check_truth c =
    let p = err_from_is_err_and c.from_residual.result c.from_residual.ensures.1 in
    let faults = λ (check : Condition). faults_in (check_truth c.args.row.now check) in
    rw (p.1, p.2, ← c.loop-check.invariant) (record { ok = tt; err = IsFaultOf-flat_map _ faults c.args.checks.now c.loop-check.check-index c.check-item.result c.loop-check-test.true c.check-item.is c.in_err-check_truth.ensures.err })

pub loop-check-preserved : goal.loop-check-preserved
loop-check-preserved c =
    let faults = λ (check : Condition). faults_in (check_truth c.args.row.now check) in
    flat_map-skip faults c.args.checks.now c.loop-check.check-index c.check-item.result c.loop-check-test.true c.check-item.is (ap faults_in c.in_ok-check_truth.ensures.ok) ∙ c.loop-check.invariant
