use Rattle.std.proofs.Common.{◌≤◌, ◌-◌, length}
use Rattle.sqlrecord.proofs.RowLemmas.{HasRead}
use Rattle.sqlrecord.proofs.row_check.is_code.Given as goal

abbrev pub invariant-loop-at : goal.invariant-loop-at
invariant-loop-at l = record { read : HasRead l.bytes l.at; within : l.at ≤ length l.bytes }

abbrev pub decreases-loop-at : goal.decreases-loop-at
decreases-loop-at l = length l.bytes - l.at
