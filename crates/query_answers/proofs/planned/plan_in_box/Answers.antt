use Rattle.std.proofs.Common.{sym, subst}
use Rattle.std.proofs.lemmas.Result.{IfOk-weaker}
use Rattle.algebra.specs.Described.{described_in}
use Rattle.algebra.specs.Translated.{tree_of_ordered}
use Rattle.algebra.specs.declared.tree.Tree.{Tree}
use Rattle.planner.specs.Joins.{AsksPairs, JoinsByKeys}
use Rattle.planner.specs.Looks.{Asks, LooksUp}
use Rattle.rules.specs.Same.{AreAmong, Keeps}
use Rattle.rules.specs.Stored.{stored_in_tree}
use Rattle.query_answers.proofs.planned.plan_in_box.Goals as goal

pub returns-in-Ok-planned-clause-keeps : goal.returns-in-Ok-planned-clause-keeps
returns-in-Ok-planned-clause-keeps c = IfOk-weaker c.new.result _ _
    (λ plan is. subst (λ (p : Tree). Keeps p (tree_of_ordered (described_in c.args.schema.now) c.args.query.now)) (sym is)
    (subst (λ (t : Tree). Keeps c.in-Ok-planned.chosen t) c.in-Ok.ensures.known c.in-Ok-planned.ensures.keeps))
    c.new.ensures

pub returns-in-Ok-planned-clause-stored : goal.returns-in-Ok-planned-clause-stored
returns-in-Ok-planned-clause-stored c = IfOk-weaker c.new.result _ _
    (λ plan is. subst (λ (p : Tree). AreAmong (stored_in_tree p) (stored_in_tree (tree_of_ordered (described_in c.args.schema.now) c.args.query.now))) (sym is)
    (subst (λ (t : Tree). AreAmong (stored_in_tree c.in-Ok-planned.chosen) (stored_in_tree t)) c.in-Ok.ensures.known c.in-Ok-planned.ensures.stored))
    c.new.ensures

pub returns-in-Ok-planned-clause-looks : goal.returns-in-Ok-planned-clause-looks
returns-in-Ok-planned-clause-looks c = λ condition table asks. IfOk-weaker c.new.result _ _
    (λ plan is. subst (λ (p : Tree). LooksUp condition table p) (sym is)
    (c.in-Ok-planned.ensures.looks condition table (subst (λ (t : Tree). Asks condition table t) (sym c.in-Ok.ensures.known) asks)))
    c.new.ensures

pub returns-in-Ok-planned-clause-joins : goal.returns-in-Ok-planned-clause-joins
returns-in-Ok-planned-clause-joins c = λ condition left right asks. IfOk-weaker c.new.result _ _
    (λ plan is. subst (λ (p : Tree). JoinsByKeys left right p) (sym is)
    (c.in-Ok-planned.ensures.joins condition left right
    (subst (λ (t : Tree). AsksPairs condition left right t) (sym c.in-Ok.ensures.known) asks)))
    c.new.ensures
