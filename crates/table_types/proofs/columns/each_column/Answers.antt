use Rattle.std.proofs.Common.{◌∙◌}
use Rattle.std.proofs.lemmas.Result.{err_from_is_err_and}
use Rattle.type_rules.proofs.FindsLemmas.{Finds-each_item, each-finds, each-next}
use Rattle.table_types.specs.Tables.{column_of}
use Rattle.table_types.proofs.columns.each_column.Goals as goal

pub returns-in_err-typed_column : goal.returns-in_err-typed_column
returns-in_err-typed_column c =
    let p = err_from_is_err_and c.from_residual.result c.from_residual.ensures.1 in
    rw (p.1, p.2) (Finds-each_item _ column_of c.args.definitions.now c.loop-definition.definition-index c.definition-item.result c.loop-definition-test.true c.definition-item.is c.in_err-typed_column.ensures)

pub loop-definition-preserved : goal.loop-definition-preserved
loop-definition-preserved c =
    rw c.in_ok-push.ensures.ok
    (each-next column_of c.args.definitions.now c.loop-definition.definition-index c.definition-item.result c.loop-definition.columns c.in_ok-typed_column.field-0 c.loop-definition-test.true c.definition-item.is c.in_ok-typed_column.ensures.ok ∙ c.loop-definition.invariant)

pub returns : goal.returns
returns c = each-finds column_of c.args.definitions.now c.loop-definition.definition-index c.loop-definition.columns c.loop-definition-test.false c.loop-definition.invariant
