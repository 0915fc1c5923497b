use Rattle.std.proofs.Common.{◌≡◌, subst, Option, Some, ℕ, IfOk}
use Rattle.std.specs.Prelude.{◌&&◌}
use Rattle.algebra.specs.declared.tree.Tree.{Tree}
use Rattle.algebra.specs.declared.tree.Tree.TheVariants as t
use Rattle.rules.specs.Columns.{in_left, names_only}
use Rattle.rules.specs.Conjuncts.{conjuncts, filtered, others, quiet}
use Rattle.rules.specs.FilterRules.{left_filtered, left_of}
use Rattle.rules.specs.Width.{width_of_tree}
use Rattle.rule_steps.proofs.Chosen.{given-found, if-made}
use Rattle.rule_steps.proofs.Opening.{left-opened}
use Rattle.rule_steps.proofs.filters.left_side_filtered.Goals as goal

pub returns : goal.returns
returns c = λ calm condition new h e.
    let conditions = conjuncts condition in
    let g = given-found (calm && (quiet condition && quiet c.args.on))
    (left_filtered conditions c.args.on c.args.left c.args.right c.args.padding) (width_of_tree c.args.left) new
    (left-opened calm condition c.args.on c.args.left c.args.right c.args.padding new e) in
    let wide = subst (λ (x : Option ℕ). IfOk c.width_of-width.result (λ w. w ≡ x)) g.1 c.width_of-width.ensures in
    let goes = left_of g.0 conditions in
    let stay = others (names_only (in_left g.0)) conditions in
    subst (λ (x : Tree). IfOk c.left_filtered.result (λ made. made ≡ x))
    (if-made goes (filtered stay (t.Left c.args.on (filtered goes c.args.left) c.args.right c.args.padding)) new g.2)
    (c.left_filtered.ensures goes stay (c.halves_at-halves.ensures.left g.0 conditions wide h)
    (c.halves_at-halves.ensures.others g.0 conditions wide h))
