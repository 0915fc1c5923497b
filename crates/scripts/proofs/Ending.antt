-- A script's sessions end, one after another.
use Rattle.std.proofs.Common.{◌≡◌, refl, ap, sym, subst, ◌∙◌, ℕ, suc, ◌<◌, ◌≤◌, ◌+◌, true, ◌∷◌, add-one, drop, drop-cons, get_or, length, Some, None}
use Rattle.std.proofs.lemmas.List.{drop_all}
use Rattle.session_definitions.specs.Run.{DropsSession}
use Rattle.session_definitions.specs.Script.{EndsSessions}
use Rattle.session_definitions.specs.World.{World, is_live}
use Rattle.sessions.specs.declared.core_of.SessionId.{SessionId}
use Rattle.sessions.specs.OfCore.{number_of}
use Rattle.scripts.specs.Settled.{Places}
use Rattle.scripts.specs.Playing.{numbers_of, AreLive}
use Rattle.scripts.proofs.Standing.{live_dropped}

numbers_none : (places : Places) (i : ℕ) → i < length places → get_or places i None ≡ None → numbers_of (drop i places) ≡ numbers_of (drop (i + 1) places)
numbers_none places i within is = ap numbers_of (drop-cons places i None within ∙ ap (λ x. x ∷ drop (suc i) places) is) ∙ ap (λ n. numbers_of (drop n places)) (sym (add-one i))

numbers_some : (places : Places) (i : ℕ) (session : SessionId) → i < length places → get_or places i None ≡ Some session → numbers_of (drop i places) ≡ number_of session ∷ numbers_of (drop (i + 1) places)
numbers_some places i session within is =
    ap numbers_of (drop-cons places i None within ∙ ap (λ x. x ∷ drop (suc i) places) is) ∙ ap (λ n. number_of session ∷ numbers_of (drop n places)) (sym (add-one i))

-- The sessions in the places from this one on stand in this world, and where these end, all have
-- ended.
pub record EndsFrom (start : World) (places : Places) (i : ℕ) (w : World) : Type 0 where
  pub live : AreLive w (numbers_of (drop i places))
  pub ends : (new : World) → EndsSessions w (numbers_of (drop i places)) new → EndsSessions start (numbers_of places) new

pub ends_from_first : (start : World) (places : Places) → AreLive start (numbers_of places) → EndsFrom start places 0 start
ends_from_first start places live = record { live = live; ends = λ new ends. ends }

pub ends_next : (start : World) (places : Places) (i : ℕ) (session : SessionId) (old new : World) → i < length places → get_or places i None ≡ Some session
    → (is_live old (number_of session) ≡ true → DropsSession old (number_of session) new) → EndsFrom start places i old → EndsFrom start places (i + 1) new
ends_next start places i session old new within is drops h =
    let split = numbers_some places i session within is in
    let live : AreLive old (number_of session ∷ numbers_of (drop (i + 1) places)) = subst (λ ss. AreLive old ss) split h.live in
    record {
      live = live_dropped old new (number_of session) (numbers_of (drop (i + 1) places)) (drops live.0) live.1 live.2;
      ends = λ end ends. h.ends end (subst (λ ss. EndsSessions old ss end) (sym split) (new, drops live.0, ends));
    }

pub ends_skip : (start : World) (places : Places) (i : ℕ) (w : World) → i < length places → get_or places i None ≡ None → EndsFrom start places i w → EndsFrom start places (i + 1) w
ends_skip start places i w within is h =
    let same = numbers_none places i within is in
    record {
      live = subst (λ ss. AreLive w ss) same h.live;
      ends = λ end ends. h.ends end (subst (λ ss. EndsSessions w ss end) (sym same) ends);
    }

pub ends_all : (start : World) (places : Places) (i : ℕ) (w : World) → length places ≤ i → EndsFrom start places i w → EndsSessions start (numbers_of places) w
ends_all start places i w past h = h.ends w (subst (λ ss. EndsSessions w ss w) (sym (ap numbers_of (drop_all i places past))) refl)
