use Rattle.std.proofs.Common.{◌≡◌, ◌∙◌, sym, subst, List}
use Rattle.std.specs.Prelude.{IfOk}
use Rattle.std.proofs.lemmas.Result.{IfOk-weaker, IfErr-weaker}
use Rattle.sqlval.specs.declared.schema.Schema.{Schema}
use Rattle.algebra.specs.declared.tree.Expression.{Expression}
use Rattle.denote.specs.Database.{rows_in}
use Rattle.denote.specs.SchemaOf.{IsSchemaOf}
use Rattle.query_answers.specs.Lent.{rows_lent}
use Rattle.query_answers.specs.Planned.{IsPlanOf, unordered}
use Rattle.query_answers.specs.Sources.{AreTreesOf, tables_in_rows}
use Rattle.store.specs.Contents.{database_of}
use Rattle.tree_tables.specs.TablesRead.{Agree}
use Rattle.change.proofs.Listed.{all_agree, are_trees, given_query, refuses_fault, refuses_query}
use Rattle.change.specs.Listed.{typed_rows}
use Rattle.change.proofs.query_rows.query_rows.Goals as goal

pub returns-in-Ok-sources_of-clause-gives : goal.returns-in-Ok-sources_of-clause-gives
returns-in-Ok-sources_of-clause-gives g c = IfOk-weaker c.stored_rows.result _ _
    (λ rows h reading table sound of good there checks source.
    let db = database_of (g.S.Store.shows c.args.store.now).working in
    let lent : IsSchemaOf c.schema-in-Ok-sources_of.result.now db = subst (λ (s : Schema). IsSchemaOf s db) (sym (c.schema-in-Ok-sources_of.ensures ∙ c.sources_of.ensures.prepared)) of in
    let known : IsSchemaOf c.schema.result.now db = subst (λ (s : Schema). IsSchemaOf s db) (sym c.schema.ensures) of in
    let planned = c.in-Ok.ensures.plan reading (g.S.Store.shows c.args.store.now).working good known in
    let found = c.in-Ok-sources_of.ensures.gives in
    let slice : c.as_slice.result.now ≡ c.in-Ok-sources_of.sources = c.as_slice.ensures in
    given_query reading db c.args.insert.now table there c.args.query.now source found.0 rows (found.2 sound c.args.query.now planned)
    (h reading db table (typed_rows found.0) lent there checks
    (subst (λ (trees : List (List Expression)). AreTreesOf (rows_in db) (typed_rows found.0) trees) (sym (slice ∙ found.1)) (are_trees (rows_in db) found.0))
    (subst (λ (trees : List (List Expression)). Agree (rows_lent c.new.result) (rows_in db) (tables_in_rows trees)) (sym (slice ∙ found.1)) (all_agree (rows_lent c.new.result) (rows_in db) found.0))))
    c.stored_rows.ensures.gives

pub returns-in-Ok-sources_of-clause-refused : goal.returns-in-Ok-sources_of-clause-refused
returns-in-Ok-sources_of-clause-refused g c = IfErr-weaker c.stored_rows.result _ _
    (λ refusal h reading table sound of good there checks source.
    let db = database_of (g.S.Store.shows c.args.store.now).working in
    let lent : IsSchemaOf c.schema-in-Ok-sources_of.result.now db = subst (λ (s : Schema). IsSchemaOf s db) (sym (c.schema-in-Ok-sources_of.ensures ∙ c.sources_of.ensures.prepared)) of in
    let known : IsSchemaOf c.schema.result.now db = subst (λ (s : Schema). IsSchemaOf s db) (sym c.schema.ensures) of in
    let planned = c.in-Ok.ensures.plan reading (g.S.Store.shows c.args.store.now).working good known in
    let found = c.in-Ok-sources_of.ensures.gives in
    let slice : c.as_slice.result.now ≡ c.in-Ok-sources_of.sources = c.as_slice.ensures in
    refuses_query reading db c.args.insert.now table there c.args.query.now source found.0 refusal (found.2 sound c.args.query.now planned)
    (h reading db table (typed_rows found.0) lent there checks
    (subst (λ (trees : List (List Expression)). AreTreesOf (rows_in db) (typed_rows found.0) trees) (sym (slice ∙ found.1)) (are_trees (rows_in db) found.0))
    (subst (λ (trees : List (List Expression)). Agree (rows_lent c.new.result) (rows_in db) (tables_in_rows trees)) (sym (slice ∙ found.1)) (all_agree (rows_lent c.new.result) (rows_in db) found.0))))
    c.stored_rows.ensures.refused

pub returns-in-Ok-sources_of-clause-device : goal.returns-in-Ok-sources_of-clause-device
returns-in-Ok-sources_of-clause-device g c = IfErr-weaker c.stored_rows.result _ _ (λ refusal h is. absurd (h is)) c.stored_rows.ensures.device

pub returns-clause-refused : goal.returns-clause-refused
returns-clause-refused g c = λ reading table sound of good there checks source.
    let db = database_of (g.S.Store.shows c.args.store.now).working in
    let known : IsSchemaOf c.schema.result.now db = subst (λ (s : Schema). IsSchemaOf s db) (sym c.schema.ensures) of in
    let planned = c.in-Ok.ensures.plan reading (g.S.Store.shows c.args.store.now).working good known in
    refuses_fault reading db c.args.insert.now table there c.args.query.now source c.in-Err-sources_of.refusal
    (c.in-Err-sources_of.ensures.refused sound c.args.query.now planned)

pub returns-in-Ok-sources_of-clause-limits : goal.returns-in-Ok-sources_of-clause-limits
returns-in-Ok-sources_of-clause-limits g c = c.stored_rows.ensures.limits

pub returns-in-Ok-sources_of-clause-shows : goal.returns-in-Ok-sources_of-clause-shows
returns-in-Ok-sources_of-clause-shows g c = c.sources_of.ensures.shows

pub returns-in-Ok-sources_of-clause-goes : goal.returns-in-Ok-sources_of-clause-goes
returns-in-Ok-sources_of-clause-goes g c = c.sources_of.ensures.goes

pub returns-clause-gives : goal.returns-clause-gives
returns-clause-gives g c = tt

pub returns-clause-limits : goal.returns-clause-limits
returns-clause-limits g c = c.in-Err-sources_of.ensures.limits

pub returns-clause-device : goal.returns-clause-device
returns-clause-device g c = c.in-Err-sources_of.ensures.device

pub returns-clause-shows : goal.returns-clause-shows
returns-clause-shows g c = c.sources_of.ensures.shows

pub returns-clause-goes : goal.returns-clause-goes
returns-clause-goes g c = c.sources_of.ensures.goes
