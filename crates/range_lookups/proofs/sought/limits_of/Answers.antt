use Rattle.std.proofs.Common.{◌≡◌, ◌∙◌, ap, sym, subst, not, true, Bool, List, Option, IfOk}
use Rattle.algebra.specs.declared.tree.Condition.{Condition}
use Rattle.rules.specs.Conjuncts.{conjuncts, quiet}
use Rattle.rules.specs.Nodes.{given}
use Rattle.range_lookups.specs.declared.sought.Limits.{Limits}
use Rattle.range_lookups.specs.Sought.{limits_among}
use Rattle.range_lookups.proofs.sought.limits_of.Goals as goal

pub returns : goal.returns
returns c =
    let among = λ (list : List Condition). limits_among c.args.both c.args.column list in
    let is_quiet : quiet c.args.condition.now ≡ true =
    ap not (sym c.condition_can_raise.ensures.told ∙ c.if-condition_can_raise.false) in
    subst (λ (x : Option Limits). IfOk c.limits_among.result (λ found. found ≡ x))
    (ap among c.conjuncts.ensures ∙ sym (ap (λ (b : Bool). given b (among (conjuncts c.args.condition.now))) is_quiet))
    c.limits_among.ensures
