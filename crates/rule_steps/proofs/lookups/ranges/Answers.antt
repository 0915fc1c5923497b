use Rattle.std.proofs.Common.{◌≡◌, ap, ◌∙◌, Option}
use Rattle.std.specs.Prelude.{is_some}
use Rattle.rules.specs.Indexes.{key_first}
use Rattle.rule_steps.specs.declared.lookups.IndexLimits.{IndexLimits}
use Rattle.rule_steps.proofs.Looking.{range-told}
use Rattle.rule_steps.proofs.lookups.ranges.Goals as goal

pub returns : goal.returns
returns c = c.is_some.ensures ∙ ap (λ (found : Option IndexLimits). is_some found) c.in_ok-limits.ensures
    ∙ range-told c.args.condition.now c.args.table.now (key_first c.args.table.now)
