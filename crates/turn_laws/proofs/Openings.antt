-- The first turn, where it is refused.
use Rattle.std.proofs.Common.{◌≡◌, ℕ, true, List, Some, is_some, refl, sym, ap, ◌∙◌, subst}
use Rattle.std.specs.FinMap.{get}
use Rattle.refusals.specs.declared.refusal.Refusal.{Refusal}
use Rattle.lexer.specs.Token.{Bytes}
use Rattle.ast.specs.declared.statement.Statement.TheVariants as asks
use Rattle.replies.specs.declared.reply.Reply.TheVariants as says
use Rattle.session_definitions.specs.Asked.{Asked}
use Rattle.session_definitions.specs.Calls.{OpensQuery}
use Rattle.session_definitions.specs.Effect.{Effect, after}
use Rattle.session_definitions.specs.Refusals.{IsReserved}
use Rattle.session_definitions.specs.Rules.{Rules}
use Rattle.session_definitions.specs.Run.{Moment}
use Rattle.session_definitions.specs.Statements.{Queries}
use Rattle.session_definitions.specs.Step.{Call, Replies}
use Rattle.session_definitions.specs.Transactions.{begun, obstacle}
use Rattle.session_definitions.specs.World.{Session, World, is_live}
use Rattle.turn_laws.specs.Answered.{CouldBeTold, HasFirst, IsAtOnce, IsRefused}

same_refusal : (one other : Refusal) → says.Refused one ≡ says.Refused other → other ≡ one
same_refusal one other e = cc

never_done : (refusal : Refusal) → says.Refused refusal ≡ says.Done → ⊥
never_done refusal e = cc

module _ (rules : Rules) (s : ℕ) (text : Bytes) (moments : List Moment) (turn : HasFirst s text moments) (session : Session)
    (stood : get turn.first.before.sessions s ≡ Some session) (refusal : Refusal) (effect : Effect) where
  as_replied : (told : Refusal) → told ≡ refusal
      → Replies rules session (begun turn.first.before session) (obstacle turn.first.before s session) text (says.Refused told) Effect.Nothing
      → IsRefused rules s text moments refusal
  as_replied told is h = IsRefused.as_whole (subst (λ r. CouldBeTold rules s text moments (says.Refused r)) is (record {
    turn = turn;
    left = turn.first.before;
    told = (Effect.Nothing, record { session = session; stands = stood; replies = h; leaves = refl });
  }))

  pub first_refused : OpensQuery rules session (begun turn.first.before session) text (says.Refused refusal) effect
      → IsAtOnce s text moments refusal → IsRefused rules s text moments refusal
  first_refused (OpensQuery.unread told why r) once =
      as_replied told (same_refusal refusal told r.says_so) (Replies.unread told why (record { says_so = refl; leaves_all = refl }))
  first_refused (OpensQuery.other x read differs r) once = IsRefused.other x read differs (sym (same_refusal refusal _ r.says_so)) once
  first_refused (OpensQuery.open_already x read has r) once =
      IsRefused.open_already turn session stood has (sym (same_refusal refusal _ r.says_so)) once
  first_refused (OpensQuery.wrong x told read free why r) once =
      as_replied told (same_refusal refusal told r.says_so)
      (Replies.carried_out (asks.Query x) read (Queries.wrong told why (record { says_so = refl; leaves_all = refl })))
  first_refused (OpensQuery.opens x query outcome read free means same done e) once = absurd (never_done refusal done)
  first_refused (OpensQuery.withheld told of r) once = IsRefused.withheld (subst IsReserved (same_refusal refusal told r.says_so) of)

  pub first_leaves : OpensQuery rules session (begun turn.first.before session) text (says.Refused refusal) effect → effect ≡ Effect.Nothing
  first_leaves (OpensQuery.unread told why r) = r.leaves_all
  first_leaves (OpensQuery.other x read differs r) = r.leaves_all
  first_leaves (OpensQuery.open_already x read has r) = r.leaves_all
  first_leaves (OpensQuery.wrong x told read free why r) = r.leaves_all
  first_leaves (OpensQuery.opens x query outcome read free means same done e) = absurd (never_done refusal done)
  first_leaves (OpensQuery.withheld told of r) = r.leaves_all

-- the world stays as it was, and with it the session, also behind further events of others
pub first_left : (rules : Rules) (s : ℕ) (text : Bytes) (old behind end : World) (refusal : Refusal) (effect : Effect)
    → Call rules old s (Asked.Query text) (says.Refused refusal) effect behind
    → effect ≡ Effect.Nothing
    → (is_live behind s ≡ true → get end.sessions s ≡ get behind.sessions s)
    → get end.sessions s ≡ get old.sessions s
first_left rules s text old behind end refusal effect call nothing kept =
    let same : behind ≡ old = call.leaves ∙ ap (after old s call.session) nothing in
    kept (ap (λ (w : World). is_live w s) same ∙ ap is_some call.stands) ∙ ap (λ (w : World). get w.sessions s) same
