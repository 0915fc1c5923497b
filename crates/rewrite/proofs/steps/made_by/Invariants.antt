use Rattle.std.proofs.Common.{◌≡◌, drop}
use Rattle.rules.specs.Applied.{replayed}
use Rattle.rewrite.proofs.steps.made_by.Given as goal

-- the steps before this one are taken
abbrev pub invariant-loop-step : goal.invariant-loop-step
invariant-loop-step l = replayed (drop l.step-index l.steps) l.tree ≡ replayed l.steps l.fn.tree
