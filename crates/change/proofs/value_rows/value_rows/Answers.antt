use Rattle.std.proofs.Common.{◌∙◌, sym, subst}
use Rattle.std.proofs.lemmas.Result.{IfOk-weaker, IfErr-weaker}
use Rattle.sqlval.specs.declared.schema.Schema.{Schema}
use Rattle.denote.specs.SchemaOf.{IsSchemaOf}
use Rattle.store.specs.Contents.{database_of}
use Rattle.constraints.specs.Changed.{RefusesChange}
use Rattle.change.proofs.Given.{given_values, refuses_values}
use Rattle.change.proofs.value_rows.value_rows.Goals as goal

pub returns-in-Ok-tables_named-clause-gives : goal.returns-in-Ok-tables_named-clause-gives
returns-in-Ok-tables_named-clause-gives g c = IfOk-weaker c.stored_rows.result _ _
    (λ rows h reading table sound of good there checks source.
    let db = database_of (g.S.Store.shows c.args.store.now).working in
    let lent : IsSchemaOf c.schema-in-Ok-tables_named.result.now db =
    subst (λ (s : Schema). IsSchemaOf s db) (sym (c.schema-in-Ok-tables_named.ensures ∙ c.tables_named.ensures.prepared)) of in
    let known : IsSchemaOf c.schema.result.now db = subst (λ (s : Schema). IsSchemaOf s db) (sym c.schema.ensures) of in
    given_values reading db c.args.insert.now table there c.args.values.now rows source
    (h reading db table c.args.values.now lent there checks (rw c.as_slice-in-Ok-tables_named.ensures (c.in-Ok.ensures.trees reading db good known))
    (rw c.as_slice-in-Ok-tables_named.ensures (rw c.as_slice.ensures at c.in-Ok-tables_named.ensures.lent sound))))
    c.stored_rows.ensures.gives

pub returns-in-Ok-tables_named-clause-refused : goal.returns-in-Ok-tables_named-clause-refused
returns-in-Ok-tables_named-clause-refused g c = IfErr-weaker c.stored_rows.result _ _
    (λ refusal h reading table sound of good there checks source.
    let db = database_of (g.S.Store.shows c.args.store.now).working in
    let lent : IsSchemaOf c.schema-in-Ok-tables_named.result.now db =
    subst (λ (s : Schema). IsSchemaOf s db) (sym (c.schema-in-Ok-tables_named.ensures ∙ c.tables_named.ensures.prepared)) of in
    let known : IsSchemaOf c.schema.result.now db = subst (λ (s : Schema). IsSchemaOf s db) (sym c.schema.ensures) of in
    refuses_values reading db c.args.insert.now table there c.args.values.now refusal source
    (h reading db table c.args.values.now lent there checks (rw c.as_slice-in-Ok-tables_named.ensures (c.in-Ok.ensures.trees reading db good known))
    (rw c.as_slice-in-Ok-tables_named.ensures (rw c.as_slice.ensures at c.in-Ok-tables_named.ensures.lent sound))))
    c.stored_rows.ensures.refused

pub returns-in-Ok-tables_named-clause-device : goal.returns-in-Ok-tables_named-clause-device
returns-in-Ok-tables_named-clause-device g c = IfErr-weaker c.stored_rows.result _ _ (λ refusal h is. absurd (h is)) c.stored_rows.ensures.device

pub returns-clause-refused : goal.returns-clause-refused
returns-clause-refused g c = λ reading table sound of good there checks source. RefusesChange.withheld (c.in-Err-tables_named.ensures.refused sound)

pub returns-in-Ok-tables_named-clause-limits : goal.returns-in-Ok-tables_named-clause-limits
returns-in-Ok-tables_named-clause-limits g c = c.stored_rows.ensures.limits

pub returns-in-Ok-tables_named-clause-shows : goal.returns-in-Ok-tables_named-clause-shows
returns-in-Ok-tables_named-clause-shows g c = c.tables_named.ensures.shows

pub returns-in-Ok-tables_named-clause-goes : goal.returns-in-Ok-tables_named-clause-goes
returns-in-Ok-tables_named-clause-goes g c = c.tables_named.ensures.goes

pub returns-clause-gives : goal.returns-clause-gives
returns-clause-gives g c = tt

pub returns-clause-limits : goal.returns-clause-limits
returns-clause-limits g c = c.in-Err-tables_named.ensures.limits

pub returns-clause-device : goal.returns-clause-device
returns-clause-device g c = c.in-Err-tables_named.ensures.device

pub returns-clause-shows : goal.returns-clause-shows
returns-clause-shows g c = c.tables_named.ensures.shows

pub returns-clause-goes : goal.returns-clause-goes
returns-clause-goes g c = c.tables_named.ensures.goes
