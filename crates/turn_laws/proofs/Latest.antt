-- The latest call of a session among the moments of a run.
use Rattle.std.proofs.Common.{◌≡◌, ℕ, Bool, true, false, not, ◌&&◌, is_some, Some, List, [], ◌∷◌, ◌++◌, refl, sym, ap, ◌∙◌, subst}
use Rattle.std.proofs.lemmas.List.Elements.{Contains-append_right}
use Rattle.std.specs.FinMap.{get}
use Rattle.std.specs.List.{list_all}
use Rattle.std.specs.Prelude.{Contains}
use Rattle.replies.specs.declared.reply.Reply.{Reply}
use Rattle.session_definitions.specs.Asked.{Asked}
use Rattle.session_definitions.specs.Effect.{Effect}
use Rattle.session_definitions.specs.Rules.{Rules}
use Rattle.session_definitions.specs.Run.{Event, Happens, Moment, Run}
use Rattle.session_definitions.specs.Step.{Call}
use Rattle.session_definitions.specs.Turns.{Exchange, exchange, exchange_in, exchanges_in, is_end_of}
use Rattle.session_definitions.specs.World.{Session, World, is_live}
use Rattle.turn_laws.proofs.Slots.{IsOf, others_leave, whose}

-- the session does not end
abbrev pub stands_in : ℕ → List Moment → Bool
stands_in s moments = list_all (λ (moment : Moment). not (is_end_of s moment.event)) moments

-- Of these moments, the run to `end`: the latest call, which this exchange was; what happened
-- before it; and that what happened since left the session as it was.
pub record Latest (rules : Rules) (s : ℕ) (asked : Asked) (reply : Reply) (others : List Exchange) (moments : List Moment) (start end : World) : Type 0 where
  pub moment : Moment
  pub earlier : List Moment
  pub within : (x : Moment) → Contains (moment ∷ earlier) x → Contains moments x
  pub behind : World
  pub effect : Effect
  pub is : moment.event ≡ Event.Calls s asked reply effect
  pub call : Call rules moment.before s asked reply effect behind
  pub before : exchanges_in s earlier ≡ others
  pub run : Run rules start earlier moment.before
  pub stood : stands_in s earlier ≡ true
  pub kept : is_live behind s ≡ true → get end.sessions s ≡ get behind.sessions s

-- so what is known of it behind the call is known in the end
pub still : (s : ℕ) (behind end : World) (x : Session) → (is_live behind s ≡ true → get end.sessions s ≡ get behind.sessions s)
    → get behind.sessions s ≡ Some x → get end.sessions s ≡ Some x
still s behind end x kept e = kept (ap is_some e) ∙ e

both : (a b : Bool) → (a && b) ≡ true → (a ≡ true) × (b ≡ true)
both true b e = (refl, e)
both false b e = cc

negated : (a : Bool) → not a ≡ true → a ≡ false
negated true e = cc
negated false e = refl

module _ (rules : Rules) (s : ℕ) (asked : Asked) (reply : Reply) (others : List Exchange) (start : World) where
  -- it is the last moment
  own_latest : (moment : Moment) (earlier : List Moment) (end : World) (told : Asked) (said : Reply) (effect : Effect)
      → moment.event ≡ Event.Calls s told said effect → exchange_in s moment.event ≡ exchange told said ∷ []
      → exchange_in s moment.event ++ exchanges_in s earlier ≡ exchange asked reply ∷ others
      → Run rules start earlier moment.before → Happens rules moment.before moment.event end → stands_in s earlier ≡ true
      → Latest rules s asked reply others (moment ∷ earlier) start end
  own_latest moment earlier end told said effect e one all run happens stood =
      let listed : exchange told said ∷ exchanges_in s earlier ≡ exchange asked reply ∷ others =
      sym (ap (λ l. l ++ exchanges_in s earlier) one) ∙ all in
      let here : exchange told said ≡ exchange asked reply = cc in
      let there : exchanges_in s earlier ≡ others = cc in
      let is : moment.event ≡ Event.Calls s asked reply effect =
      e ∙ ap (λ (x : Exchange). Event.Calls s x.asked x.reply effect) here in
      record {
        moment = moment;
        earlier = earlier;
        within = λ x c. c;
        behind = end;
        effect = effect;
        is = is;
        call = subst (λ event. Happens rules moment.before event end) is happens;
        before = there;
        run = run;
        stood = stood;
        kept = λ live. refl;
      }

  -- the last moment is of others
  beside_latest : (moment : Moment) (earlier : List Moment) (end : World) → exchange_in s moment.event ≡ []
      → Happens rules moment.before moment.event end → is_end_of s moment.event ≡ false
      → Latest rules s asked reply others earlier start moment.before
      → Latest rules s asked reply others (moment ∷ earlier) start end
  beside_latest moment earlier end none happens goes h = record {
    moment = h.moment;
    earlier = h.earlier;
    within = λ x c. Contains-append_right (moment ∷ []) earlier x (h.within x c);
    behind = h.behind;
    effect = h.effect;
    is = h.is;
    call = h.call;
    before = h.before;
    run = h.run;
    stood = h.stood;
    kept = λ live.
        let slot : get moment.before.sessions s ≡ get h.behind.sessions s = h.kept live in
        let live_then : is_live moment.before s ≡ true = ap is_some slot ∙ live in
        others_leave rules moment.before end s moment.event happens none goes live_then ∙ slot;
  }

  -- by whose the last moment is, where the claim holds of those before it
  latest_of : (moment : Moment) (earlier : List Moment) (end : World)
      → (exchanges_in s earlier ≡ exchange asked reply ∷ others → Run rules start earlier moment.before → stands_in s earlier ≡ true
      → Latest rules s asked reply others earlier start moment.before)
      → IsOf s moment.event → exchange_in s moment.event ++ exchanges_in s earlier ≡ exchange asked reply ∷ others
      → Run rules start earlier moment.before → Happens rules moment.before moment.event end
      → is_end_of s moment.event ≡ false → stands_in s earlier ≡ true
      → Latest rules s asked reply others (moment ∷ earlier) start end
  latest_of moment earlier end further (IsOf.own told said effect e one) all run happens goes stood =
      own_latest moment earlier end told said effect e one all run happens stood
  latest_of moment earlier end further (IsOf.beside none) all run happens goes stood =
      beside_latest moment earlier end none happens goes
      (further (sym (ap (λ l. l ++ exchanges_in s earlier) none) ∙ all) run stood)

  none_before : {A : Type 0} → [] ≡ exchange asked reply ∷ others → A
  none_before e = cc

  pub latest : (moments : List Moment) (end : World) → exchanges_in s moments ≡ exchange asked reply ∷ others
      → Run rules start moments end → stands_in s moments ≡ true
      → Latest rules s asked reply others moments start end
  latest [] end all run stands = none_before all
  latest (moment ∷ earlier) end all run stands =
      latest_of moment earlier end (latest earlier moment.before) (whose s moment.event) all run.0 run.1
      (negated (is_end_of s moment.event) (both (not (is_end_of s moment.event)) (stands_in s earlier) stands).0)
      (both (not (is_end_of s moment.event)) (stands_in s earlier) stands).1
