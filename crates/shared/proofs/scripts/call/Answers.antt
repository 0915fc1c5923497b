use Rattle.std.proofs.Common.{[], ◌∷◌, Ok, Err, sym, subst}
use Rattle.shared.specs.declared.event.Question.TheVariants as question
use Rattle.shared.specs.Views.{Past}
use Rattle.shared.specs.Scripts.{Asks, asked}
use Rattle.shared.specs.Scripts.Ask.{joins, says}
use Rattle.shared.specs.Callers.{past_of, stands_of}
use Rattle.shared.specs.declared.jobs.Caller.{Caller}
use Rattle.shared.proofs.Asking.{asks_one, asks_then}
use Rattle.shared.proofs.scripts.call.Goals as goal
use Rattle.shared.proofs.scripts.call.Goals.{in-Stands, in-Idle+in-Ok}

pub returns-in-Err-clause-asks : goal.returns-in-Err-clause-asks
returns-in-Err-clause-asks g c =
    subst (λ (x : Caller g.row.J.Denot). Asks (past_of x) (asked (stands_of x) c.args.text.now (Err c.in-Err.refusal)) c.in-Err.client) (sym c.in-Idle.is) (asks_one _ _ _ _ _ _ c.in-Err.ensures.err)

pub returns-clause-asks : goal.returns-clause-asks
returns-clause-asks g c =
    let text = c.args.text.now in
    let reply = c.execute-reply.result in
    let new = c.execute-reply.new.self in
    let said = asks_one _ _ _ _ _ _ c.execute-reply.ensures.call in
    elim c.match-caller.branch [
      | in-Stands w ↦ subst (λ (x : Caller g.row.J.Denot). Asks (past_of x) (asked (stands_of x) text (Ok reply)) new) (sym w.in-Stands.is)
          (subst (λ (p : Past). Asks p (says (question.Text text) reply ∷ []) new) w.session-is said)
      | in-Idle+in-Ok w ↦ subst (λ (x : Caller g.row.J.Denot). Asks (past_of x) (asked (stands_of x) text (Ok reply)) new) (sym w.in-Idle.is)
          (asks_then _ _ _ (joins ∷ []) (says (question.Text text) reply ∷ []) (asks_one _ _ _ _ _ _ w.in-Ok.ensures.ok.call) (subst (λ (p : Past). Asks p (says (question.Text text) reply ∷ []) new) w.session-is said))
    ]
