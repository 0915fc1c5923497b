use Rattle.std.proofs.Common.{ap, List}
use Rattle.planner.specs.Led.{walked}
use Rattle.rules.specs.declared.rule.Step.{Step}
use Rattle.planner.proofs.outline.begun.Goals as goal

pub returns-clause-led : goal.returns-clause-led
returns-clause-led c = λ calm h.
    record { steps = ap (λ (steps : List Step). walked calm steps c.args.tree) c.new.ensures; quiet = h }
