use Rattle.std.proofs.Common.{◌≡◌, ◌∙◌, ap, sym, subst, Option, Some, IfOk}
use Rattle.std.specs.Option.{option_map}
use Rattle.algebra.specs.declared.tree.Condition.{Condition}
use Rattle.algebra.specs.declared.tree.Tree.TheVariants as t
use Rattle.rules.specs.Indexes.{key_first}
use Rattle.rules.specs.LookupRules.{filter_to_seek}
use Rattle.rules.specs.Nodes.{first_found}
use Rattle.rule_steps.specs.Found.{seek_key}
use Rattle.rule_steps.specs.declared.lookups.SeekKey.{SeekKey}
use Rattle.rule_steps.proofs.Chosen.{at-node}
use Rattle.rule_steps.proofs.Looking.{ok-is, seek-made, sought_by}
use Rattle.rule_steps.proofs.lookups.seek.Goals as goal

pub returns-in-Scan : goal.returns-in-Scan
returns-in-Scan c = λ new e.
    let condition = c.in-Filter.condition in
    let table = c.in-Scan.table in
    let node : c.args.tree ≡ t.Filter condition (t.Scan table) = c.in-Filter.is
    ∙ ap (t.Filter condition) (sym c.into_inner.ensures ∙ c.in-Scan.is) in
    let key : IfOk c.seek_key-key.result (λ found. found ≡ first_found (seek_key condition) (key_first table)) =
    subst (λ (x : Condition). IfOk c.seek_key-key.result (λ found. found ≡ first_found (seek_key x) (key_first table))) c.get.ensures
    c.seek_key-key.ensures in
    c.filtered_seek.ensures new (ok-is (λ (found : Option SeekKey). option_map (sought_by condition table) found ≡ Some new)
    c.seek_key-key.result (first_found (seek_key condition) (key_first table)) key
    (seek-made condition table new (at-node filter_to_seek c.args.tree (t.Filter condition (t.Scan table)) new node e)))
