use Rattle.std.proofs.Common.{List, []}
use Rattle.std.proofs.lemmas.Result.{err_from_is_err_and}
use Rattle.algebra.specs.declared.tree.Expression.{Expression}
use Rattle.query_answers.specs.Lent.{rows_lent}
use Rattle.query_answers.specs.Sources.{row_given}
use Rattle.denote.specs.Database.{table_of}
use Rattle.query_answers.proofs.InsertLemmas.{Gives-together_item}
use Rattle.query_answers.proofs.rows.all_rows.Goals as goal

pub returns-in_err-row_to_insert : goal.returns-in_err-row_to_insert
returns-in_err-row_to_insert c =
    let p = err_from_is_err_and c.from_residual.result c.from_residual.ensures.1 in
    let row = λ (sources : List Expression). row_given (rows_lent c.args.lent.now.tables) c.args.checks.now (table_of c.args.table.now []) c.args.columns.now sources in
    rw (p.1, p.2, ← c.loop-sources.invariant) (Gives-together_item _ row c.loop-sources.added c.args.trees.now c.loop-sources.sources-index c.sources-item.result c.loop-sources-test.true c.sources-item.is (rw c.as_slice.ensures at c.in_err-row_to_insert.ensures))
