use Rattle.session_laws.proofs.Undamaged.{scripts, steps}
use Rattle.session_laws.proofs.life_laws.no_reply_is_damaged.Goals as goal

pub returns-clause-call : goal.returns-clause-call
returns-clause-call c = λ rules are. steps rules are c.refusals_have_reasons.ensures

pub returns-clause-script : goal.returns-clause-script
returns-clause-script c = λ rules are. scripts rules are c.refusals_have_reasons.ensures
