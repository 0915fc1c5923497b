-- Which sessions stand after an event.
use Rattle.std.proofs.Common.{◌≡◌, ◌≢◌, ◌⊎◌, ℕ, true, false, Some, Ok, sym, ap, ◌∙◌, inl, inr, is_some}
use Rattle.std.proofs.lemmas.Bool.{cases_eq}
use Rattle.std.specs.FinMap.{get}
use Rattle.replies.specs.declared.reply.Reply.{Reply}
use Rattle.session_definitions.specs.Asked.{Asked}
use Rattle.session_definitions.specs.Effect.{Effect, after}
use Rattle.session_definitions.specs.Rules.{Rules}
use Rattle.session_definitions.specs.Run.{MakesSession, DropsSession}
use Rattle.session_definitions.specs.Step.{StepOf}
use Rattle.session_definitions.specs.World.{Session, World, is_live, new_session}
use Rattle.session_laws.proofs.Effects.{others_stay, own_session}
use Rattle.session_laws.proofs.Maps.{get_here, get_there, get_gone, get_left}

live_after : (w : World) (s : ℕ) (session : Session) (e : Effect) → get w.sessions s ≡ Some session → (k : ℕ) → (k ≡ s) ⊎ (k ≡ s → ⊥)
    → is_live (after w s session e) k ≡ is_live w k
live_after w s session e stands k (inl same) =
    ap (is_live (after w s session e)) same ∙ ap is_some (own_session w s session e stands)
    ∙ sym (ap (is_live w) same ∙ ap is_some stands)
live_after w s session e stands k (inr ne) = ap is_some (others_stay w s session e k ne)

pub keeps_live : (rules : Rules) (old new : World) (s : ℕ) (asked : Asked) (reply : Reply) → StepOf rules old s asked reply new
    → (k : ℕ) → is_live new k ≡ is_live old k
keeps_live rules old new s asked reply (effect, call) k =
    ap (λ (w : World). is_live w k) call.leaves ∙ live_after old s call.session effect call.stands k (cases_eq k s)

pub made_live : (old new : World) (s : ℕ) → MakesSession old (Ok s) new → is_live new s ≡ true
made_live old new s h = ap (λ (w : World). is_live w s) h.2 ∙ ap is_some (get_here old.sessions s new_session)

pub made_others : (old new : World) (s k : ℕ) → MakesSession old (Ok s) new → k ≢ s → is_live new k ≡ is_live old k
made_others old new s k h ne = ap (λ (w : World). is_live w k) h.2 ∙ ap is_some (get_there old.sessions s new_session k ne)

pub dropped_live : (old new : World) (s : ℕ) → DropsSession old s new → is_live new s ≡ false
dropped_live old new s h = ap (λ (w : World). is_live w s) h.leaves ∙ ap is_some (get_gone old.sessions s)

pub dropped_others : (old new : World) (s k : ℕ) → DropsSession old s new → k ≢ s → is_live new k ≡ is_live old k
dropped_others old new s k h ne = ap (λ (w : World). is_live w k) h.leaves ∙ ap is_some (get_left old.sessions s k ne)
