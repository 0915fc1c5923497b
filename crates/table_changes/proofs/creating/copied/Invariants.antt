use Rattle.std.proofs.Common.{◌≡◌, take}
use Rattle.table_changes.proofs.creating.copied.Given as goal

abbrev pub invariant-loop-place : goal.invariant-loop-place
invariant-loop-place l = l.copied ≡ take l.place-index l.places
