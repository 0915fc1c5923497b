use Rattle.std.proofs.Common.{subst, sym, ◌∙◌}
use Rattle.session_definitions.specs.Refusals.{IsReserved}
use Rattle.store.specs.Contents.{database_of}
use Rattle.store.specs.View.{seen_by}
use Rattle.transactions.proofs.Tests.{tells_reached}
use Rattle.std.proofs.lemmas.Result.{IfOk-weaker, IfErr-weaker}
use Rattle.sessions.specs.Explained.{RefusesLines}
use Rattle.sessions.proofs.ExplainSteps.{explains, shows_typed}
use Rattle.sessions.proofs.Devices.{of_store, never_err}
use Rattle.sessions.proofs.explaining.lines_seen.Goals as goal

pub returns-in-Ok-clause-explained : goal.returns-in-Ok-clause-explained
returns-in-Ok-clause-explained g c = IfOk-weaker c.lines_of-lines.result _ _
    (λ lines h x is sound.
    shows_typed x c.args.statement.now _ _ c.in-Ok.typed (database_of (seen_by (g.S.Store.shows c.args.store.now) c.args.view)) is c.schema-schema.ensures
    ((rw c.in_default.is at c.prepare.ensures.prepared) sound) c.in-Ok.ensures.finds.ok lines h)
    c.lines_of-lines.ensures.explained

pub returns-in-Ok-clause-refused : goal.returns-in-Ok-clause-refused
returns-in-Ok-clause-refused g c = IfErr-weaker c.lines_of-lines.result _ _
    (λ refusal h rules x are is sound.
    let q = explains x c.args.statement.now _ _ c.in-Ok.typed (database_of (seen_by (g.S.Store.shows c.args.store.now) c.args.view)) is c.schema-schema.ensures
    ((rw c.in_default.is at c.prepare.ensures.prepared) sound) c.in-Ok.ensures.finds.ok in
    RefusesLines.withheld (subst IsReserved (sym (h q.0 q.1)) tt))
    c.lines_of-lines.ensures.refused

pub returns-in-Err-clause-limits : goal.returns-in-Err-clause-limits
returns-in-Err-clause-limits g c = tells_reached _ _ _ _ _ _ c.refusal_of.ensures (rw c.in-Err.is at c.prepare.ensures.refused)

pub returns-in-Ok-clause-device : goal.returns-in-Ok-clause-device
returns-in-Ok-clause-device g c = never_err c.lines_of-lines.result _ _ c.lines_of-lines.ensures.device

pub returns-in-Ok-clause-limits : goal.returns-in-Ok-clause-limits
returns-in-Ok-clause-limits g c = c.lines_of-lines.ensures.limits

pub returns-in-Ok-clause-shows : goal.returns-in-Ok-clause-shows
returns-in-Ok-clause-shows g c = c.prepare.ensures.shows

pub returns-in-Ok-clause-goes : goal.returns-in-Ok-clause-goes
returns-in-Ok-clause-goes g c = c.prepare.ensures.goes

pub returns-in-Err-clause-explained : goal.returns-in-Err-clause-explained
returns-in-Err-clause-explained g c = tt

pub returns-in-Err-clause-device : goal.returns-in-Err-clause-device
returns-in-Err-clause-device g c = λ is. of_store _ _ _ _ c.in-Err.error (rw c.in-Err.is at c.prepare.ensures.refused) (sym c.refusal_of.ensures ∙ is)

pub returns-in-Err-clause-shows : goal.returns-in-Err-clause-shows
returns-in-Err-clause-shows g c = c.prepare.ensures.shows

pub returns-in-Err-clause-goes : goal.returns-in-Err-clause-goes
returns-in-Err-clause-goes g c = c.prepare.ensures.goes

pub returns-in-Err-typed_by-clause-explained : goal.returns-in-Err-typed_by-clause-explained
returns-in-Err-typed_by-clause-explained g c = tt

pub returns-in-Err-typed_by-clause-device : goal.returns-in-Err-typed_by-clause-device
returns-in-Err-typed_by-clause-device g c = λ is. absurd (c.in-Err-typed_by.ensures.device is)

pub returns-in-Err-typed_by-clause-limits : goal.returns-in-Err-typed_by-clause-limits
returns-in-Err-typed_by-clause-limits g c = c.in-Err-typed_by.ensures.limits

pub returns-in-Err-typed_by-clause-shows : goal.returns-in-Err-typed_by-clause-shows
returns-in-Err-typed_by-clause-shows g c = c.prepare.ensures.shows

pub returns-in-Err-typed_by-clause-goes : goal.returns-in-Err-typed_by-clause-goes
returns-in-Err-typed_by-clause-goes g c = c.prepare.ensures.goes
