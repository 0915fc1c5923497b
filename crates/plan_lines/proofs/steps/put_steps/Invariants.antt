use Rattle.std.proofs.Common.{◌≡◌, ◌++◌, map, take}
use Rattle.plan_lines.specs.Lines.{shown, step_line}
use Rattle.plan_lines.proofs.steps.put_steps.Given as goal

abbrev pub invariant-loop-step : goal.invariant-loop-step
invariant-loop-step l = l.lines ≡ l.initial.lines ++ map shown (map step_line (take l.step-index l.steps))
