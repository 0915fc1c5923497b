use Rattle.std.proofs.Common.{◌∙◌}
use Rattle.std.proofs.lemmas.Result.{err_from_is_err_and}
use Rattle.typing.specs.Known.{known}
use Rattle.typing.specs.Update.{assignment_found}
use Rattle.scopes.specs.Seen.{frames}
use Rattle.type_rules.proofs.FindsLemmas.{Finds-each_item, each-finds, each-next}
use Rattle.change_types.proofs.updates.typed_assignments.Goals as goal

pub returns-in_err-typed_assignment : goal.returns-in_err-typed_assignment
returns-in_err-typed_assignment c =
    let p = err_from_is_err_and c.from_residual.result c.from_residual.ensures.1 in
    rw (p.1, p.2) (Finds-each_item _ (assignment_found (known c.args.schema.now) (frames c.args.scope.now) c.args.table.now.columns) c.args.assignments.now c.loop-assignment.assignment-index c.assignment-item.result
    c.loop-assignment-test.true c.assignment-item.is c.in_err-typed_assignment.ensures)

pub loop-assignment-preserved : goal.loop-assignment-preserved
loop-assignment-preserved c =
    rw c.in_ok-push.ensures.ok
    (each-next (assignment_found (known c.args.schema.now) (frames c.args.scope.now) c.args.table.now.columns) c.args.assignments.now c.loop-assignment.assignment-index c.assignment-item.result
    c.loop-assignment.typed c.in_ok-typed_assignment.field-0 c.loop-assignment-test.true c.assignment-item.is c.in_ok-typed_assignment.ensures.ok ∙ c.loop-assignment.invariant)

pub returns : goal.returns
returns c =
    each-finds (assignment_found (known c.args.schema.now) (frames c.args.scope.now) c.args.table.now.columns) c.args.assignments.now c.loop-assignment.assignment-index c.loop-assignment.typed
    c.loop-assignment-test.false c.loop-assignment.invariant
