use Rattle.std.proofs.Common.{refl}
use Rattle.algebra.specs.declared.tree.Tree.TheVariants as t
use Rattle.rules.specs.Conjuncts.{filtered}
use Rattle.rule_steps.proofs.filters.left_filtered.Goals as goal

pub returns : goal.returns
returns c = λ on_left others h k.
    let left = c.filtered_by-left.ensures on_left c.args.left (c.halves_apart-on_left.ensures.left on_left h) refl in
    c.filtered_by.ensures others (t.Left c.args.on (filtered on_left c.args.left) c.args.right c.args.width)
    (c.halves_apart-on_left.ensures.others others k) (c.left_join-join.ensures (filtered on_left c.args.left) left)
