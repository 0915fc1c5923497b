use Rattle.std.proofs.Common.{List, map, subst}
use Rattle.typing.specs.declared.typed.Expression.{Expression as Typed}
use Rattle.algebra.specs.Described.{described_in}
use Rattle.algebra.specs.Translated.{tree_of_expression}
use Rattle.operator_laws.specs.Same.{Each}
use Rattle.rules.specs.Same.{KeepsExpression}
use Rattle.query_answers.proofs.Meant.{taken_all}
use Rattle.query_answers.proofs.PlannedSources.{made-next}
use Rattle.query_answers.proofs.sources.planned_rows.Goals as goal

pub returns : goal.returns
returns c =
    let exact = map (tree_of_expression (described_in c.args.schema.now)) in
    subst (λ (rows : List (List Typed)). Each (Each KeepsExpression) c.loop-row.trees (map exact rows))
    (taken_all c.args.rows.now c.loop-row.row-index c.loop-row-test.false) c.loop-row.invariant

pub loop-row-preserved : goal.loop-row-preserved
loop-row-preserved c =
    let exact = map (tree_of_expression (described_in c.args.schema.now)) in
    rw c.in_ok-push.ensures.ok
    (made-next (Each KeepsExpression) exact c.loop-row.trees c.args.rows.now c.loop-row.row-index c.row-item.result c.in_ok-planned_row.field-0
    c.loop-row-test.true c.row-item.is c.loop-row.invariant (rw c.as_slice.ensures at c.in_ok-planned_row.ensures))
