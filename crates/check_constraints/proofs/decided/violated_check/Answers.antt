use Rattle.std.proofs.Common.{◌≡◌, ◌∙◌, sym, ap, true}
use Rattle.denote.specs.Database.{table_of}
use Rattle.constraints.specs.Rules.{is_check_rule}
use Rattle.check_constraints.proofs.Deciding.{check_here, none_left}
use Rattle.check_constraints.proofs.decided.violated_check.Goals as goal

pub returns-then-branch-clause-found : goal.returns-then-branch-clause-found
returns-then-branch-clause-found c = λ reading name are.
    let check : is_check_rule c.constraint-item.result.rule ≡ true = ap is_check_rule c.in-Check.is in
    check_here c.evaluation_keeps_the_meaning.ensures.truth reading name (table_of c.args.table.now c.args.rows.now) c.args.conditions.now c.loop-constraint.left.now c.loop-constraint.constraint-index are
    (rw c.as_slice-constraint-items.ensures at c.loop-constraint.invariant) c.constraint-item.result c.in-Some.condition.now c.in-Some.others.now
    (rw c.as_slice-constraint-items.ensures at c.loop-constraint-test.true) (rw c.as_slice-constraint-items.ensures at c.constraint-item.is) c.in-Some.ensures.cases.0 check
    (sym c.in_ok-is_false_somewhere.ensures.found ∙ c.if-branch.true)

pub returns-clause-found : goal.returns-clause-found
returns-clause-found c = λ reading name are.
    none_left c.evaluation_keeps_the_meaning.ensures.truth reading name (table_of c.args.table.now c.args.rows.now) c.args.conditions.now c.loop-constraint.left.now c.loop-constraint.constraint-index are
    (rw c.as_slice-constraint-items.ensures at c.loop-constraint.invariant) (rw c.as_slice-constraint-items.ensures at c.loop-constraint-test.false)
