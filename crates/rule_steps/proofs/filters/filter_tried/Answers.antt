use Rattle.std.proofs.Common.{refl}
use Rattle.algebra.specs.declared.tree.Tree.TheVariants as t
use Rattle.rules.specs.FilterRules.{not_false}
use Rattle.rule_steps.proofs.filters.filter_tried.Goals as goal

pub returns : goal.returns
returns c = λ tried h. c.filter_above.ensures (t.Filter (not_false tried) c.args.rows)
    (c.filter_by.ensures (not_false tried) c.args.rows (c.not_false_of-first.ensures tried h) refl)
