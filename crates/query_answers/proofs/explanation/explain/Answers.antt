use Rattle.std.proofs.Common.{IfOk, subst}
use Rattle.algebra.specs.declared.tree.Tree.{Tree}
use Rattle.query_answers.specs.Explanation.{ShowsPlan}
use Rattle.query_answers.proofs.explanation.explain.Goals as goal

pub returns-in-Ok : goal.returns-in-Ok
returns-in-Ok c =
    record { shows = subst (λ (tree : Tree). IfOk c.plan_shown.result (ShowsPlan tree)) c.in-Ok.ensures.known c.plan_shown.ensures.shows }
