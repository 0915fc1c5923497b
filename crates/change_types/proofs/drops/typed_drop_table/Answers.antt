use Rattle.std.proofs.lemmas.Result.{err_from_is_err_and}
use Rattle.typing.specs.Index.{unreferenced}
use Rattle.typing.specs.Known.{known, known_table}
use Rattle.typing.specs.Table.{table_found}
use Rattle.change_types.proofs.Tables.{table-found, table-refused}
use Rattle.change_types.proofs.drops.typed_drop_table.Goals as goal

pub returns-in_err-table_named : goal.returns-in_err-table_named
returns-in_err-table_named c =
    let p = err_from_is_err_and c.from_residual.result c.from_residual.ensures.1 in
    rw (p.1, p.2) (table-refused _ (table_found (known c.args.schema.now) c.args.name.now) (λ table. unreferenced (known c.args.schema.now) c.args.name.now) (rw c.as_text.ensures.text at c.in_err-table_named.ensures.err))

pub returns : goal.returns
returns c =
    table-found c.unreferenced.result (table_found (known c.args.schema.now) c.args.name.now) (known_table c.in_ok-table_named.field-0.now) (λ table. unreferenced (known c.args.schema.now) c.args.name.now)
    (rw c.as_text.ensures.text at c.in_ok-table_named.ensures.ok) c.unreferenced.ensures
