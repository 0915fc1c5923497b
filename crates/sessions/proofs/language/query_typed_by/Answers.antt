use Rattle.std.proofs.lemmas.Result.{IfErr-weaker}
use Rattle.ast.specs.declared.statement.Statement.TheVariants as asks
use Rattle.sessions.proofs.Devices.{never_typed}
use Rattle.sessions.proofs.Limits.{typed_tells}
use Rattle.sessions.proofs.OpenSteps.{reason_found}
use Rattle.sessions.proofs.language.query_typed_by.Goals as goal

pub returns-clause-device : goal.returns-clause-device
returns-clause-device g c = IfErr-weaker c.typed_query.result _ _
    (λ refusal reason. never_typed (asks.Query c.args.query.now) c.args.schema.now refusal (c.refusals_have_reasons.ensures (asks.Query c.args.query.now) c.args.schema.now)
    (reason_found c.args.query.now c.args.schema.now refusal reason))
    c.typed_query.ensures.finds.err

pub returns-clause-limits : goal.returns-clause-limits
returns-clause-limits g c = IfErr-weaker c.typed_query.result _ _
    (λ refusal reason. typed_tells (asks.Query c.args.query.now) c.args.schema.now refusal (c.refusals_have_reasons.ensures (asks.Query c.args.query.now) c.args.schema.now)
    (reason_found c.args.query.now c.args.schema.now refusal reason))
    c.typed_query.ensures.finds.err

pub returns-clause-finds : goal.returns-clause-finds
returns-clause-finds g c = c.typed_query.ensures.finds
