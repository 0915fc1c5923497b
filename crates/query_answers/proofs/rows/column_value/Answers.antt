use Rattle.std.proofs.Common.{refl}
use Rattle.std.proofs.lemmas.Result.{err_from_is_err_and}
use Rattle.sqlval.specs.Storing.{stored}
use Rattle.denote.specs.Evaluation.{given}
use Rattle.query_answers.specs.Lent.{rows_lent}
use Rattle.query_answers.specs.Sources.{source_value}
use Rattle.denote.proofs.GivesLemmas.{Gives-first}
use Rattle.query_answers.proofs.InsertLemmas.{given_for-map}
use Rattle.algebra.specs.declared.tree.Expression.{Expression}
use Rattle.query_answers.proofs.rows.column_value.Goals as goal

pub returns-in-None : goal.returns-in-None
returns-in-None c =
    let f = λ (source : Expression). source_value (rows_lent c.args.lent.now.tables) source in
    rw (given_for-map f c.args.place c.args.columns.now c.args.sources.now, ← c.in-None.ensures) (record { ok = refl; err = tt })

pub returns-in_err-value-in-Some : goal.returns-in_err-value-in-Some
returns-in_err-value-in-Some c =
    let p = err_from_is_err_and c.from_residual.result c.from_residual.ensures.1 in
    let f = λ (source : Expression). source_value (rows_lent c.args.lent.now.tables) source in
    rw (p.1, p.2, given_for-map f c.args.place c.args.columns.now c.args.sources.now, ← c.in-Some.ensures)
    (Gives-first _ (f c.in-Some.source.now) (λ x. given (stored x c.args.column.now.column_type)) c.in_err-value-in-Some.ensures)

pub returns-in_ok-value-in-Some : goal.returns-in_ok-value-in-Some
returns-in_ok-value-in-Some c =
    let f = λ (source : Expression). source_value (rows_lent c.args.lent.now.tables) source in
    rw (given_for-map f c.args.place c.args.columns.now c.args.sources.now, ← c.in-Some.ensures, c.in_ok-value-in-Some.ensures.ok) c.store.ensures
