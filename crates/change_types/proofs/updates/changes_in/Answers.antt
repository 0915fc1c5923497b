use Rattle.std.proofs.lemmas.Result.{err_from_is_err_and}
use Rattle.typing.specs.Known.{known, known_table}
use Rattle.typing.specs.Table.{table_found}
use Rattle.typing.specs.Update.{changes_found}
use Rattle.change_types.proofs.Tables.{table-found, table-refused}
use Rattle.change_types.proofs.updates.changes_in.Goals as goal

pub returns-in_err-table : goal.returns-in_err-table
returns-in_err-table c =
    let p = err_from_is_err_and c.from_residual.result c.from_residual.ensures.1 in
    rw (p.1, p.2) (table-refused _ (table_found (known c.args.schema.now) c.args.tree.now.table) (changes_found (known c.args.schema.now) c.args.tree.now) (rw c.as_text.ensures.text at c.in_err-table.ensures.err))

pub returns : goal.returns
returns c =
    table-found c.update_of.result (table_found (known c.args.schema.now) c.args.tree.now.table) (known_table c.in_ok-table.table.now) (changes_found (known c.args.schema.now) c.args.tree.now)
    (rw c.as_text.ensures.text at c.in_ok-table.ensures.ok)
    (c.update_of.ensures _ (c.both.ensures _ _ (rw (c.in_ok-frame.ensures, c.as_text-2.ensures.text, c.as_slice.ensures) at c.assignments_in-assignments.ensures)
    (rw (c.in_ok-frame.ensures, c.as_text-2.ensures.text) at c.filter_in-filter.ensures)))
