use Rattle.std.proofs.Common.{◌∙◌}
use Rattle.algebra.specs.declared.tree.Tree.TheVariants as t
use Rattle.rules.specs.Columns.{in_left, names_only}
use Rattle.rules.specs.Conjuncts.{filtered, others}
use Rattle.rules.specs.FilterRules.{left_of}
use Rattle.rule_steps.proofs.Filtering.{any-some}
use Rattle.rule_steps.proofs.filters.some_left.Goals as goal

pub returns : goal.returns
returns c = λ on left right padding. c.some_within.ensures ∙ any-some (names_only (in_left c.args.width)) c.args.conjuncts.now
    (filtered (others (names_only (in_left c.args.width)) c.args.conjuncts.now)
    (t.Left on (filtered (left_of c.args.width c.args.conjuncts.now) left) right padding))
