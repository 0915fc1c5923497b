use Rattle.std.proofs.Common.{◌≡◌, ap, ◌∙◌, Option}
use Rattle.std.specs.Prelude.{is_some}
use Rattle.rules.specs.Indexes.{key_first}
use Rattle.rule_steps.specs.declared.lookups.SeekKey.{SeekKey}
use Rattle.rule_steps.proofs.Looking.{seek-told}
use Rattle.rule_steps.proofs.lookups.seeks.Goals as goal

pub returns : goal.returns
returns c = c.is_some.ensures ∙ ap (λ (found : Option SeekKey). is_some found) c.in_ok-found.ensures
    ∙ seek-told c.args.condition.now c.args.table.now (key_first c.args.table.now)
