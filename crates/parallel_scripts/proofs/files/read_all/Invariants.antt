use Rattle.std.proofs.Common.{◌≡◌, length}
use Rattle.parallel_scripts.proofs.files.read_all.Given as goal

abbrev pub invariant-loop-name : goal.invariant-loop-name
invariant-loop-name g l = length l.scripts.items ≡ l.name-index
