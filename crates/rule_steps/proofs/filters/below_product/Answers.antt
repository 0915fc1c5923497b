use Rattle.std.proofs.Common.{◌≡◌, refl, subst, [], Option, Some, ℕ, IfOk}
use Rattle.algebra.specs.declared.tree.Tree.{Tree}
use Rattle.algebra.specs.declared.tree.Tree.TheVariants as t
use Rattle.rules.specs.Conjuncts.{conjuncts, filtered, quiet}
use Rattle.rules.specs.FilterRules.{left_of, of_both, on_right, right_of, sides_filtered}
use Rattle.rules.specs.Width.{width_of_tree}
use Rattle.std.specs.Prelude.{◌++◌, ◌&&◌}
use Rattle.rule_steps.proofs.Opening.{below-opened}
use Rattle.rule_steps.proofs.Chosen.{given-found, if-made}
use Rattle.rule_steps.proofs.filters.below_product.Goals as goal

pub returns : goal.returns
returns c = λ calm condition new h e.
    let conditions = conjuncts condition in
    let g = given-found (calm && quiet condition) (sides_filtered conditions c.args.left c.args.right) (width_of_tree c.args.left) new
    (below-opened calm condition c.args.left c.args.right new e) in
    let wide = subst (λ (x : Option ℕ). IfOk c.width_of-width.result (λ w. w ≡ x)) g.1 c.width_of-width.ensures in
    let lefts = left_of g.0 conditions in
    let rights = on_right g.0 (right_of g.0 conditions) in
    let both = of_both g.0 conditions in
    let left = c.filtered_by-left.ensures lefts c.args.left
    (c.sides_apart-on_left.ensures.left lefts (c.conjuncts_by_side-sides.ensures.left g.0 conditions wide h)) refl in
    let right = c.filtered_by-right.ensures rights c.args.right
    (c.sides_apart-on_left.ensures.right rights (c.conjuncts_by_side-sides.ensures.right g.0 conditions wide h)) refl in
    let product = t.Product (filtered lefts c.args.left) (filtered rights c.args.right) in
    subst (λ (x : Tree). IfOk c.filtered_by.result (λ made. made ≡ x))
    (if-made (lefts ++ right_of g.0 conditions) (filtered both product) new g.2)
    (c.filtered_by.ensures both product
    (c.sides_apart-on_left.ensures.both both (c.conjuncts_by_side-sides.ensures.both g.0 conditions wide h))
    (c.joined_by-product.ensures [] (filtered lefts c.args.left) (filtered rights c.args.right) c.new.ensures left right))
