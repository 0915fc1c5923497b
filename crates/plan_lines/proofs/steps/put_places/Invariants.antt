use Rattle.std.proofs.Common.{◌≡◌, ◌++◌, take}
use Rattle.std.specs.List.{flat_map}
use Rattle.plan_lines.specs.Lines.{next_place}
use Rattle.plan_lines.proofs.steps.put_places.Given as goal

abbrev pub invariant-loop-place : goal.invariant-loop-place
invariant-loop-place l = l.line ≡ l.initial.line ++ flat_map next_place (take l.place-index l.places)
