use Rattle.algebra.specs.declared.tree.Tree.{Tree}
use Rattle.rules.specs.Same.{Keeps}
use Rattle.planned_subqueries.proofs.Kept.{through}
use Rattle.planned_subqueries.proofs.subqueries.planned_tree.Goals as goal

pub returns : goal.returns
returns c = through (λ (new : Tree). Keeps new c.args.tree) c.tree_of_plan.result c.boxed.result c.boxed.ensures
    (rw (← c.into_inner.ensures) c.tree_of_plan.ensures)
