use Rattle.std.proofs.Common.{◌∙◌, sym, ap, List}
use Rattle.std.proofs.lemmas.Result.{IfOk-weaker, IfErr-weaker}
use Rattle.typing.specs.declared.statement.InsertSource.TheVariants as from
use Rattle.typing.specs.declared.typed.Expression.{Expression}
use Rattle.change.proofs.insert.rows_of.Goals as goal

pub returns-in-Values-clause-gives : goal.returns-in-Values-clause-gives
returns-in-Values-clause-gives g c = IfOk-weaker c.value_rows.result _ _
    (λ rows h reading table sound of good there checks. h reading table sound of good there checks (c.in-Values.is ∙ ap (λ (values : List (List Expression)). from.Values values) (sym c.as_slice.ensures))) c.value_rows.ensures.gives

pub returns-in-Values-clause-refused : goal.returns-in-Values-clause-refused
returns-in-Values-clause-refused g c = IfErr-weaker c.value_rows.result _ _
    (λ refusal h reading table sound of good there checks. h reading table sound of good there checks (c.in-Values.is ∙ ap (λ (values : List (List Expression)). from.Values values) (sym c.as_slice.ensures))) c.value_rows.ensures.refused

pub returns-in-Query-clause-gives : goal.returns-in-Query-clause-gives
returns-in-Query-clause-gives g c = IfOk-weaker c.query_rows.result _ _ (λ rows h reading table sound of good there checks. h reading table sound of good there checks c.in-Query.is) c.query_rows.ensures.gives

pub returns-in-Query-clause-refused : goal.returns-in-Query-clause-refused
returns-in-Query-clause-refused g c = IfErr-weaker c.query_rows.result _ _ (λ refusal h reading table sound of good there checks. h reading table sound of good there checks c.in-Query.is) c.query_rows.ensures.refused

pub returns-in-Values-clause-limits : goal.returns-in-Values-clause-limits
returns-in-Values-clause-limits g c = c.value_rows.ensures.limits

pub returns-in-Values-clause-device : goal.returns-in-Values-clause-device
returns-in-Values-clause-device g c = c.value_rows.ensures.device

pub returns-in-Values-clause-shows : goal.returns-in-Values-clause-shows
returns-in-Values-clause-shows g c = c.value_rows.ensures.shows

pub returns-in-Values-clause-goes : goal.returns-in-Values-clause-goes
returns-in-Values-clause-goes g c = c.value_rows.ensures.goes

pub returns-in-Query-clause-limits : goal.returns-in-Query-clause-limits
returns-in-Query-clause-limits g c = c.query_rows.ensures.limits

pub returns-in-Query-clause-device : goal.returns-in-Query-clause-device
returns-in-Query-clause-device g c = c.query_rows.ensures.device

pub returns-in-Query-clause-shows : goal.returns-in-Query-clause-shows
returns-in-Query-clause-shows g c = c.query_rows.ensures.shows

pub returns-in-Query-clause-goes : goal.returns-in-Query-clause-goes
returns-in-Query-clause-goes g c = c.query_rows.ensures.goes
