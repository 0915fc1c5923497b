use Rattle.std.proofs.lemmas.Result.{err_from_is_err_and}
use Rattle.typing.specs.Known.{known, known_table}
use Rattle.typing.specs.Table.{table_found}
use Rattle.change_types.specs.Parts.{delete_in}
use Rattle.change_types.proofs.Tables.{table-found, table-refused}
use Rattle.change_types.proofs.updates.typed_delete.Goals as goal

pub returns-in_err-table : goal.returns-in_err-table
returns-in_err-table c =
    let p = err_from_is_err_and c.from_residual.result c.from_residual.ensures.1 in
    rw (p.1, p.2) (table-refused _ (table_found (known c.args.schema.now) c.args.tree.now.table) (delete_in (known c.args.schema.now) c.args.tree.now) (rw c.as_text.ensures.text at c.in_err-table.ensures.err))

pub returns : goal.returns
returns c =
    table-found c.delete_of.result (table_found (known c.args.schema.now) c.args.tree.now.table) (known_table c.in_ok-table.table.now) (delete_in (known c.args.schema.now) c.args.tree.now)
    (rw c.as_text.ensures.text at c.in_ok-table.ensures.ok)
    (c.delete_of.ensures _ (rw (c.in_ok-frame.ensures, c.as_text-2.ensures.text) at c.filter_in-filter.ensures))
