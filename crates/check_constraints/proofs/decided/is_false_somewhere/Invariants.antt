use Rattle.std.proofs.Common.{◌≡◌, drop}
use Rattle.std.specs.List.{list_any}
use Rattle.sqlval.specs.Value.{Row}
use Rattle.denote.specs.Database.{is_false}
use Rattle.query_answers.specs.Sources.{check_truth}
use Rattle.check_constraints.proofs.decided.is_false_somewhere.Given as goal

-- at no row before this one
abbrev pub invariant-loop-row : goal.invariant-loop-row
invariant-loop-row l =
    list_any (λ (row : Row). is_false (check_truth row l.condition)) (drop l.row-index l.rows) ≡ list_any (λ (row : Row). is_false (check_truth row l.condition)) l.rows
