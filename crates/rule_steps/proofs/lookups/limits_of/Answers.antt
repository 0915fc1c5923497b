use Rattle.std.proofs.Common.{◌≡◌, ◌∙◌, ap, sym, subst, not, true, false, Bool, List, Option, IfOk}
use Rattle.std.specs.Option.{option_or}
use Rattle.algebra.specs.declared.tree.Condition.{Condition}
use Rattle.rules.specs.Conjuncts.{conjuncts, quiet}
use Rattle.rules.specs.Indexes.{key_first}
use Rattle.rules.specs.Nodes.{first_found, given}
use Rattle.rule_steps.specs.Found.{limits_by}
use Rattle.rule_steps.specs.declared.lookups.IndexLimits.{IndexLimits}
use Rattle.rule_steps.proofs.Looking.{limits_found}
use Rattle.rule_steps.proofs.lookups.limits_of.Goals as goal

pub returns : goal.returns
returns c =
    let among = λ (list : List Condition). option_or (first_found (limits_by true list) (key_first c.args.table.now))
    (first_found (limits_by false list) (key_first c.args.table.now)) in
    let is_quiet : quiet c.args.condition.now ≡ true =
    ap not (sym c.condition_can_raise.ensures.told ∙ c.if-condition_can_raise.false) in
    subst (λ (x : Option IndexLimits). IfOk c.limits_in.result (λ found. found ≡ x))
    (ap among c.conjuncts.ensures ∙ sym (ap (λ (b : Bool). given b (among (conjuncts c.args.condition.now))) is_quiet))
    c.limits_in.ensures
