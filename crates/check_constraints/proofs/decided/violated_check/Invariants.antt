use Rattle.std.proofs.Common.{◌≡◌, drop}
use Rattle.check_constraints.proofs.Deciding.{false_checks}
use Rattle.check_constraints.proofs.decided.violated_check.Given as goal

-- the CHECKs before this one are false at no row
abbrev pub invariant-loop-constraint : goal.invariant-loop-constraint
invariant-loop-constraint l = false_checks l.rows (drop l.constraint-index l.constraint-items) l.left ≡ false_checks l.rows l.constraint-items l.conditions
