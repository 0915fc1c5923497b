use Rattle.std.proofs.Common.{◌≡◌, ◌++◌, drop}
use Rattle.typing.specs.Insert.{targets_from}
use Rattle.change_types.proofs.targets.all_targets.Given as goal

-- the targets so far, and those of the columns that are left
abbrev pub invariant-loop-place : goal.invariant-loop-place
invariant-loop-place l = l.targets ++ targets_from l.place (drop l.place l.columns) ≡ targets_from 0 l.columns
