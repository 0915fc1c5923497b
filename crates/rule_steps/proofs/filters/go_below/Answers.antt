use Rattle.std.proofs.Common.{◌≡◌, ◌∙◌, sym}
use Rattle.algebra.specs.declared.tree.Tree.TheVariants as t
use Rattle.rules.specs.FilterRules.{filter_below_product}
use Rattle.rule_steps.proofs.Chosen.{at-node}
use Rattle.rule_steps.proofs.filters.go_below.Goals as goal

pub returns-in-Product : goal.returns-in-Product
returns-in-Product c = λ calm new e.
    let condition = c.into_inner-in-Product.result in
    let left = c.into_inner-in-Product-2.result in
    let right = c.into_inner-in-Product-3.result in
    let product : c.in-Filter.rows ≡ t.Product left right = sym c.into_inner.ensures ∙ c.in-Product.is
    ∙ (λ i. t.Product (sym c.into_inner-in-Product-2.ensures i) (sym c.into_inner-in-Product-3.ensures i)) in
    let node : c.args.tree ≡ t.Filter condition (t.Product left right) = c.in-Filter.is
    ∙ (λ i. t.Filter (sym c.into_inner-in-Product.ensures i) (product i)) in
    c.below_product.ensures calm condition new c.into_conjuncts-list.ensures
    (at-node (filter_below_product calm) c.args.tree (t.Filter condition (t.Product left right)) new node e)
