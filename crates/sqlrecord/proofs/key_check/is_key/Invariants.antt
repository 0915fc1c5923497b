use Rattle.std.proofs.Common.{◌≤◌, ◌-◌, length}
use Rattle.sqlrecord.proofs.KeyLemmas.{HasReadKey}
use Rattle.sqlrecord.proofs.key_check.is_key.Given as goal

abbrev pub invariant-loop-at : goal.invariant-loop-at
invariant-loop-at l = record { read : HasReadKey l.bytes l.at; within : l.at ≤ length l.bytes }

abbrev pub decreases-loop-at : goal.decreases-loop-at
decreases-loop-at l = length l.bytes - l.at
