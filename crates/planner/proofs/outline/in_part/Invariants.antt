use Rattle.std.proofs.Common.{◌≡◌, ◌++◌, map}
use Rattle.planner.specs.Led.{in_part}
use Rattle.planner.proofs.outline.in_part.Given as goal

-- the steps before this one are made
abbrev pub invariant-loop-step : goal.invariant-loop-step
invariant-loop-step l = l.made ++ map (in_part l.place) l.step-iterator.rest.items ≡ map (in_part l.place) l.fn.steps
