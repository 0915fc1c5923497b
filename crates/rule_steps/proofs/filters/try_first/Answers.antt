use Rattle.std.proofs.Common.{◌≡◌, ◌∙◌, ap, sym, subst, IfOk}
use Rattle.algebra.specs.declared.tree.Condition.{Condition}
use Rattle.algebra.specs.declared.tree.Tree.{Tree}
use Rattle.algebra.specs.declared.tree.Tree.TheVariants as t
use Rattle.rules.specs.Conjuncts.{conjuncts}
use Rattle.rules.specs.FilterRules.{not_false, pre_filter}
use Rattle.rule_steps.proofs.Chosen.{at-node}
use Rattle.rule_steps.proofs.Filtering.{tried-made}
use Rattle.rule_steps.proofs.Opening.{tried-opened}
use Rattle.rule_steps.proofs.filters.try_first.Goals as goal

pub returns-in-Filter : goal.returns-in-Filter
returns-in-Filter c = λ new e.
    let condition = c.in-Filter.condition in
    let rows = c.into_inner.result in
    let node : c.args.tree ≡ t.Filter condition rows = c.in-Filter.is ∙ ap (t.Filter condition) (sym c.into_inner.ensures) in
    let m = tried-made condition (conjuncts condition) rows new
    (tried-opened condition rows new (at-node pre_filter c.args.tree (t.Filter condition rows) new node e)) in
    subst (λ (x : Tree). IfOk c.filter_tried.result (λ made. made ≡ x)) m.3
    (c.filter_tried.ensures m.0 (c.first_conjunct-first.ensures m.0 m.1
    (ap (λ (x : Condition). conjuncts x) c.get.ensures ∙ m.2)))
