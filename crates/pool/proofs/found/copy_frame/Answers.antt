use Rattle.std.proofs.Common.{List, ℕ, Some, ap, sym, subst, ◌∙◌}
use Rattle.sqlrecord.specs.Page.{IsNode}
use Rattle.pool.proofs.found.copy_frame.Goals as goal

pub returns-in-Some : goal.returns-in-Some
returns-in-Some c = (λ newest. c.in-Some.is ∙ ap (λ (p : List ℕ). Some p) (sym c.page.ensures), λ known. subst (λ (p : List ℕ). IsNode p) (sym c.page.ensures) (c.is_node.ensures known))
