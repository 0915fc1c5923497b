use Rattle.std.proofs.Common.{◌≡◌, drop}
use Rattle.std.specs.Prelude.{flat_map}
use Rattle.algebra.specs.declared.tree.Condition.{Condition}
use Rattle.denote.specs.Evaluation.{faults_in}
use Rattle.query_answers.specs.Sources.{check_truth}
use Rattle.update_delete.proofs.held.evaluate_checks.Given as goal

-- the checks before this one have no faults
abbrev pub invariant-loop-check : goal.invariant-loop-check
invariant-loop-check l =
    let faults = λ (check : Condition). faults_in (check_truth l.row check) in
    flat_map faults (drop l.check-index l.checks) ≡ flat_map faults l.checks
