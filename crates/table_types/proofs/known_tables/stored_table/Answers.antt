use Rattle.std.proofs.Common.{◌∙◌, ap, sym, Ok}
use Rattle.std.proofs.lemmas.Result.{err_from_is_err_and}
use Rattle.typing.specs.declared.known.KnownTable.{KnownTable}
use Rattle.table_types.proofs.known_tables.stored_table.Goals as goal

pub returns-in_err-table : goal.returns-in_err-table
returns-in_err-table c =
    let p = err_from_is_err_and c.from_residual.result c.from_residual.ensures.1 in
    rw (p.1, p.2) (record { ok = tt; err = c.in_err-table.ensures.err })

pub returns : goal.returns
returns c = record { ok = c.in_ok-table.ensures.ok ∙ ap (λ (t : KnownTable). Ok t) (sym c.in_ok-known_table.ensures); err = tt }
