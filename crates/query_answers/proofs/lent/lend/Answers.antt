use Rattle.std.proofs.Common.{sym, ap, ◌∙◌, List}
use Rattle.query_answers.specs.declared.lent.LentTable.{LentTable}
use Rattle.query_answers.proofs.Lending.{lent_newly, read_already, read_newly}
use Rattle.query_answers.specs.Answered.{rows_found}
use Rattle.query_answers.specs.Lent.{is_lent}
use Rattle.query_answers.proofs.lent.lend.Goals as goal

pub returns-in-Ok-clause-lent : goal.returns-in-Ok-clause-lent
returns-in-Ok-clause-lent g c = λ sound names lending.
    rw (c.in-Ok.ensures.ok) (lent_newly c.args.tables.now (rows_found (g.R.Reading.shows c.args.reading.now).contents) names c.args.name.now c.in_ok-table.table lending (ap (λ (ts : List LentTable). is_lent ts c.args.name.now) (sym c.as_slice.ensures) ∙ sym c.is_lent.ensures ∙ c.if-is_lent.false) c.in_ok-table.ensures.name (c.in_ok-table.ensures.rows sound))

pub returns-in-Ok-clause-read : goal.returns-in-Ok-clause-read
returns-in-Ok-clause-read g c = λ sound.
    read_newly c.args.tables.now (rows_found (g.R.Reading.shows c.args.reading.now).contents) c.args.name.now _ _ (ap (λ (ts : List LentTable). is_lent ts c.args.name.now) (sym c.as_slice.ensures) ∙ sym c.is_lent.ensures ∙ c.if-is_lent.false) (c.in_ok-table.ensures.read sound)

pub returns-then-is_lent-clause-read : goal.returns-then-is_lent-clause-read
returns-then-is_lent-clause-read g c = λ sound. read_already c.args.tables.now (rows_found (g.R.Reading.shows c.args.reading.now).contents) c.args.name.now _
