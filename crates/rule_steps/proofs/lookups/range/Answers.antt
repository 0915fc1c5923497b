use Rattle.std.proofs.Common.{◌≡◌, ◌∙◌, ap, sym, subst, Option, Some, IfOk, true, false}
use Rattle.std.specs.Option.{option_map, option_or}
use Rattle.algebra.specs.declared.tree.Condition.{Condition}
use Rattle.algebra.specs.declared.tree.Tree.TheVariants as t
use Rattle.rules.specs.Conjuncts.{conjuncts, quiet}
use Rattle.rules.specs.Indexes.{key_first}
use Rattle.rules.specs.LookupRules.{filter_to_range}
use Rattle.rules.specs.Nodes.{given}
use Rattle.rule_steps.specs.declared.lookups.IndexLimits.{IndexLimits}
use Rattle.rule_steps.proofs.Chosen.{at-node}
use Rattle.rule_steps.proofs.Looking.{limits_found, ok-is, range-is, ranged_by}
use Rattle.rule_steps.proofs.Opening.{range-opened}
use Rattle.rule_steps.proofs.lookups.range.Goals as goal

pub returns-in-Scan : goal.returns-in-Scan
returns-in-Scan c = λ new e.
    let condition = c.in-Filter.condition in
    let table = c.in-Scan.table in
    let node : c.args.tree ≡ t.Filter condition (t.Scan table) = c.in-Filter.is
    ∙ ap (t.Filter condition) (sym c.into_inner.ensures ∙ c.in-Scan.is) in
    let limits : IfOk c.limits_of-limits.result (λ found. found ≡ limits_found condition table) =
    subst (λ (x : Condition). IfOk c.limits_of-limits.result (λ found. found ≡ limits_found x table)) c.get.ensures
    c.limits_of-limits.ensures in
    c.filtered_range.ensures new (ok-is (λ (found : Option IndexLimits). option_map (ranged_by condition table) found ≡ Some new)
    c.limits_of-limits.result (limits_found condition table) limits
    (range-is condition table (key_first table)
    ∙ range-opened condition table new (at-node filter_to_range c.args.tree (t.Filter condition (t.Scan table)) new node e)))
