-- Which events leave a session as it was.
use Rattle.std.proofs.Common.{◌≡◌, ◌≢◌, ℕ, Bool, true, false, cond, [], ◌∷◌, Some, None, Ok, Err, refl, sym, ap, ◌∙◌}
use Rattle.std.proofs.lemmas.Bool.{eqb-true, eq-eqb, ne_eqb}
use Rattle.std.proofs.lemmas.Cmp.{nat_cmp_total}
use Rattle.std.specs.Cmp.{unsigned_tied}
use Rattle.std.specs.FinMap.{FinMap, get, insert, remove, get-insert, get-remove}
use Rattle.std.specs.Ordering.{nat_cmp, eq_by_cmp}
use Rattle.std.specs.Prelude.{◌==◌}
use Rattle.replies.specs.declared.reply.Reply.{Reply}
use Rattle.session_definitions.specs.Asked.{Asked}
use Rattle.session_definitions.specs.Effect.{Effect, idle, after}
use Rattle.session_definitions.specs.Rules.{Rules}
use Rattle.session_definitions.specs.Run.{Event, Happens}
use Rattle.session_definitions.specs.Turns.{exchange, exchange_in, is_end_of}
use Rattle.session_definitions.specs.World.{Session, World, is_live, is_writer, new_session}

-- ---- look-ups after a change

tied : (q k : ℕ) → q ≡ k → eq_by_cmp nat_cmp q k ≡ true
tied q k e = unsigned_tied q k ∙ eq-eqb q k e

apart : (q k : ℕ) → q ≢ k → eq_by_cmp nat_cmp q k ≡ false
apart q k ne = unsigned_tied q k ∙ ne_eqb q k ne

pub get_here : {X : Type 0} (m : FinMap nat_cmp X) (k : ℕ) (x : X) → get (insert m k x) k ≡ Some x
get_here m k x = get-insert nat_cmp_total m k x k ∙ ap (λ b. cond b (Some x) (get m k)) (tied k k refl)

get_there : {X : Type 0} (m : FinMap nat_cmp X) (k : ℕ) (x : X) (q : ℕ) → q ≢ k → get (insert m k x) q ≡ get m q
get_there m k x q ne = get-insert nat_cmp_total m k x q ∙ ap (λ b. cond b (Some x) (get m q)) (apart q k ne)

get_left : {X : Type 0} (m : FinMap nat_cmp X) (k q : ℕ) → q ≢ k → get (remove m k) q ≡ get m q
get_left m k q ne = get-remove nat_cmp_total m k q ∙ ap (λ b. cond b None (get m q)) (apart q k ne)

-- ---- events of others

either : (b : Bool) (x y : World) (m : FinMap nat_cmp Session) → x.sessions ≡ m → y.sessions ≡ m → (cond b x y).sessions ≡ m
either true x y m p q = p
either false x y m p q = q

others_stay : (w : World) (t : ℕ) (session : Session) (e : Effect) (s : ℕ) → s ≢ t
    → get (after w t session e).sessions s ≡ get w.sessions s
others_stay w t session Effect.Nothing s ne = refl
others_stay w t session (Effect.Becomes x) s ne = get_there w.sessions t x s ne
others_stay w t session (Effect.Writes x) s ne = get_there w.sessions t x s ne
others_stay w t session (Effect.Commits done) s ne =
    ap (λ m. get m s) (either (is_writer w t) _ _ (insert w.sessions t (idle session)) refl refl)
    ∙ get_there w.sessions t (idle session) s ne
others_stay w t session Effect.RollsBack s ne = get_there w.sessions t (idle session) s ne

at_own : (t s : ℕ) (b : Bool) (asked : Asked) (reply : Reply) (effect : Effect) → (t == s) ≡ b
    → exchange_in s (Event.Calls t asked reply effect) ≡ cond b (exchange asked reply ∷ []) []
at_own t s b asked reply effect e = ap (λ c. cond c (exchange asked reply ∷ []) []) e

not_own : (t s : ℕ) (asked : Asked) (reply : Reply) (effect : Effect) → exchange_in s (Event.Calls t asked reply effect) ≡ [] → s ≢ t
not_own t s asked reply effect none e =
    let some : exchange asked reply ∷ [] ≡ [] = sym (at_own t s true asked reply effect (eq-eqb t s (sym e))) ∙ none in cc

in_world : (s : ℕ) (old new : World) → new ≡ old → get new.sessions s ≡ get old.sessions s
in_world s old new e = ap (λ (w : World). get w.sessions s) e

-- an event that is no call of a session that stands, and does not end it, leaves it as it was
pub others_leave : (rules : Rules) (old new : World) (s : ℕ) (e : Event) → Happens rules old e new
    → exchange_in s e ≡ [] → is_end_of s e ≡ false → is_live old s ≡ true
    → get new.sessions s ≡ get old.sessions s
others_leave rules old new s (Event.Makes (Ok made)) h none goes live =
    in_world s (let w : World = record old { sessions = insert old.sessions made new_session } in w) new h.2
    ∙ get_there old.sessions made new_session s
    (λ e. let f : is_live old s ≡ is_live old made = ap (is_live old) e in let g : is_live old made ≡ false = h.0.free in cc)
others_leave rules old new s (Event.Makes (Err refusal)) h none goes live = in_world s old new h.1
others_leave rules old new s (Event.Calls t asked reply effect) h none goes live =
    in_world s (after old t h.session effect) new h.leaves
    ∙ others_stay old t h.session effect s (not_own t s asked reply effect none)
others_leave rules old new s (Event.Drops t) h none goes live =
    ap (λ (w : World). get w.sessions s) h.leaves
    ∙ get_left old.sessions t s (λ e. let f : (t == s) ≡ true = eq-eqb t s (sym e) in cc)
others_leave rules old new s (Event.Flushes (Ok left)) h none goes live = in_world s old new h
others_leave rules old new s (Event.Flushes (Err refusal)) h none goes live = in_world s old new h.1
others_leave rules old new s (Event.SetsPieces pieces) h none goes live = in_world s old new h
others_leave rules old new s (Event.FailsToClose refusal) h none goes live = cc
others_leave rules old new s Event.Reopens h none goes live = cc

-- ---- whose an event is

pub data IsOf (s : ℕ) (e : Event) : Type 0 where
  own : (asked : Asked) (reply : Reply) (effect : Effect) → e ≡ Event.Calls s asked reply effect
      → exchange_in s e ≡ exchange asked reply ∷ [] → IsOf s e
  beside : exchange_in s e ≡ [] → IsOf s e

called : (s t : ℕ) (asked : Asked) (reply : Reply) (effect : Effect) (b : Bool) → (t == s) ≡ b → IsOf s (Event.Calls t asked reply effect)
called s t asked reply effect true e =
    IsOf.own asked reply effect (ap (λ k. Event.Calls k asked reply effect) (eqb-true t s e)) (at_own t s true asked reply effect e)
called s t asked reply effect false e = IsOf.beside (at_own t s false asked reply effect e)

pub whose : (s : ℕ) (e : Event) → IsOf s e
whose s (Event.Makes made) = IsOf.beside refl
whose s (Event.Calls t asked reply effect) = called s t asked reply effect (t == s) refl
whose s (Event.Drops t) = IsOf.beside refl
whose s (Event.Flushes left) = IsOf.beside refl
whose s (Event.SetsPieces pieces) = IsOf.beside refl
whose s (Event.FailsToClose refusal) = IsOf.beside refl
whose s Event.Reopens = IsOf.beside refl
