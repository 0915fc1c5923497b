use Rattle.std.proofs.Common.{sym, subst, ◌∙◌}
use Rattle.std.proofs.lemmas.Result.{IfErr-weaker, IfOk-weaker}
use Rattle.query_answers.specs.Planned.{IsPlanOf}
use Rattle.sqlval.specs.declared.schema.Schema.{Schema}
use Rattle.denote.specs.SchemaOf.{IsSchemaOf}
use Rattle.store.specs.Contents.{database_of}
use Rattle.store.specs.View.{seen_by}
use Rattle.typing.specs.declared.typed.OrderedQuery as typed
use Rattle.sessions.proofs.QuerySteps.{one_query}
use Rattle.sessions.proofs.query.evaluate.Goals as goal

pub returns-in-Ok-clause-answers : goal.returns-in-Ok-clause-answers
returns-in-Ok-clause-answers g c = IfOk-weaker c.answer-rows.result _ _
    (λ rows h reading query is sound good of.
    let contents = seen_by (g.S.Store.shows c.args.store.now) c.args.view in
    h sound query (subst (λ (q : typed.OrderedQuery). IsPlanOf contents q c.in-Ok.plan)
    (one_query c.in-Query.query query (sym c.in-Query.is ∙ is))
    (c.in-Ok.ensures.plan reading contents good
    (subst (λ (schema : Schema). IsSchemaOf schema (database_of contents)) (sym c.schema.ensures) of))))
    c.answer-rows.ensures.answers

pub returns-in-Ok-clause-refused : goal.returns-in-Ok-clause-refused
returns-in-Ok-clause-refused g c = IfErr-weaker c.answer-rows.result _ _
    (λ refusal h reading query is sound good of.
    let contents = seen_by (g.S.Store.shows c.args.store.now) c.args.view in
    h sound query (subst (λ (q : typed.OrderedQuery). IsPlanOf contents q c.in-Ok.plan)
    (one_query c.in-Query.query query (sym c.in-Query.is ∙ is))
    (c.in-Ok.ensures.plan reading contents good
    (subst (λ (schema : Schema). IsSchemaOf schema (database_of contents)) (sym c.schema.ensures) of))))
    c.answer-rows.ensures.refused

pub returns-in-Ok-clause-limits : goal.returns-in-Ok-clause-limits
returns-in-Ok-clause-limits g c = c.answer-rows.ensures.limits
