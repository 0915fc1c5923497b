use Rattle.std.proofs.Common.{◌≡◌, ◌++◌, map}
use Rattle.planner.specs.Led.{turned}
use Rattle.planner.proofs.outline.turned.Given as goal

-- the steps before this one are made
abbrev pub invariant-loop-step : goal.invariant-loop-step
invariant-loop-step l = l.made ++ map (turned) l.step-iterator.rest.items ≡ map (turned) l.fn.steps
