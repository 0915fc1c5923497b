use Rattle.std.proofs.Common.{◌∙◌}
use Rattle.std.specs.Prelude.{◌||◌}
use Rattle.algebra.specs.declared.tree.Tree.TheVariants as t
use Rattle.rules.specs.Columns.{in_left, in_right, names_only}
use Rattle.rules.specs.Conjuncts.{filtered}
use Rattle.rules.specs.FilterRules.{left_of, of_both, on_right, right_of}
use Rattle.rule_steps.proofs.Filtering.{any-side}
use Rattle.rule_steps.proofs.filters.has_side.Goals as goal

pub returns : goal.returns
returns c = λ left right. c.either.ensures ∙ (λ i. c.some_within-left.ensures i || c.some_within-right.ensures i)
    ∙ any-side (names_only (in_left c.args.width)) (names_only (in_right c.args.width)) c.args.conjuncts.now
    (filtered (of_both c.args.width c.args.conjuncts.now)
    (t.Product (filtered (left_of c.args.width c.args.conjuncts.now) left)
    (filtered (on_right c.args.width (right_of c.args.width c.args.conjuncts.now)) right)))
