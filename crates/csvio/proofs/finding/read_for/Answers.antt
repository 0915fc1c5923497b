use Rattle.std.proofs.Common.{map}
use Rattle.std.proofs.lemmas.Result.{IfOk-weaker, IfErr-weaker}
use Rattle.csv.specs.Records.{fields_of}
use Rattle.csvio.specs.Formed.{RefusesFor}
use Rattle.csvio.proofs.Found.{unread_for}
use Rattle.csvio.proofs.finding.read_for.Goals as goal

pub returns-in-Ok-clause-rows : goal.returns-in-Ok-clause-rows
returns-in-Ok-clause-rows g c = IfOk-weaker c.formed_rows.result _ _
    (λ rows are bytes known. (map fields_of c.in-Ok.records, c.in-Ok.ensures.records bytes known, rw c.as_slice.ensures at are)) c.formed_rows.ensures.rows

pub returns-in-Ok-clause-refused : goal.returns-in-Ok-clause-refused
returns-in-Ok-clause-refused g c = IfErr-weaker c.formed_rows.result _ _
    (λ refusal refuses. RefusesFor.refused (λ bytes known. (map fields_of c.in-Ok.records, c.in-Ok.ensures.records bytes known, rw c.as_slice.ensures at refuses))) c.formed_rows.ensures.refused

pub returns-in-Err-clause-refused : goal.returns-in-Err-clause-refused
returns-in-Err-clause-refused g c = unread_for c.args.columns.now c.args.form (g.R.Read.remaining c.args.reader) c.in-Err.error c.refusal_of.result
    c.refusal_of.ensures.memory c.refusal_of.ensures.reader c.refusal_of.ensures.field
    (λ is bytes known records are. c.in-Err.ensures.field is bytes known records are)
