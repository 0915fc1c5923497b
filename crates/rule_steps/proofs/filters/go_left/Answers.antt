use Rattle.std.proofs.Common.{◌≡◌, ◌∙◌, sym}
use Rattle.algebra.specs.declared.tree.Tree.TheVariants as t
use Rattle.rules.specs.FilterRules.{filter_left_of_left_join}
use Rattle.rule_steps.proofs.Chosen.{at-node}
use Rattle.rule_steps.proofs.filters.go_left.Goals as goal

pub returns-in-Left : goal.returns-in-Left
returns-in-Left c = λ calm new e.
    let condition = c.into_inner-in-Left.result in
    let left = c.into_inner-in-Left-2.result in
    let join : c.in-Filter.rows ≡ t.Left c.in-Left.on left c.in-Left.right c.in-Left.width = sym c.into_inner.ensures ∙ c.in-Left.is
    ∙ (λ i. t.Left c.in-Left.on (sym c.into_inner-in-Left-2.ensures i) c.in-Left.right c.in-Left.width) in
    let node : c.args.tree ≡ t.Filter condition (t.Left c.in-Left.on left c.in-Left.right c.in-Left.width) = c.in-Filter.is
    ∙ (λ i. t.Filter (sym c.into_inner-in-Left.ensures i) (join i)) in
    c.left_side_filtered.ensures calm condition new c.into_conjuncts-list.ensures
    (at-node (filter_left_of_left_join calm) c.args.tree
    (t.Filter condition (t.Left c.in-Left.on left c.in-Left.right c.in-Left.width)) new node e)
