use Rattle.std.proofs.lemmas.Result.{IfErr-weaker}
use Rattle.sessions.proofs.Devices.{never_typed}
use Rattle.sessions.proofs.Limits.{typed_tells}
use Rattle.sessions.proofs.language.typed_by.Goals as goal

pub returns-clause-device : goal.returns-clause-device
returns-clause-device g c = IfErr-weaker c.typed.result _ _
    (λ refusal reason. never_typed c.args.statement.now c.args.schema.now refusal (c.refusals_have_reasons.ensures c.args.statement.now c.args.schema.now) reason)
    c.typed.ensures.finds.err

pub returns-clause-limits : goal.returns-clause-limits
returns-clause-limits g c = IfErr-weaker c.typed.result _ _
    (λ refusal reason. typed_tells c.args.statement.now c.args.schema.now refusal (c.refusals_have_reasons.ensures c.args.statement.now c.args.schema.now) reason)
    c.typed.ensures.finds.err

pub returns-clause-finds : goal.returns-clause-finds
returns-clause-finds g c = c.typed.ensures.finds
