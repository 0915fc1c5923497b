-- What an effect leaves: the sessions and the writer.
use Rattle.std.proofs.Common.{◌≡◌, ◌≢◌, ℕ, Bool, true, false, not, cond, Option, Some, None, refl, sym, ap, ◌∙◌}
use Rattle.std.proofs.lemmas.Bool.{eqb-true, eq-eqb, ne_eqb}
use Rattle.std.specs.Ordering.{nat_cmp}
use Rattle.std.specs.Prelude.{◌==◌}
use Rattle.std.specs.FinMap.{FinMap, get, insert}
use Rattle.session_definitions.specs.Effect.{Effect, idle, writer_without, committed, after}
use Rattle.session_definitions.specs.Transactions.{has_other}
use Rattle.session_definitions.specs.World.{Transaction, Session, World, is_session, is_writer}
use Rattle.session_laws.proofs.Maps.{get_here, get_there}

-- the session after an effect
abbrev pub left_as : Session → Effect → Session
left_as session Effect.Nothing = session
left_as session (Effect.Becomes x) = x
left_as session (Effect.Writes x) = x
left_as session (Effect.Commits t) = idle session
left_as session Effect.RollsBack = idle session

-- whether it is the writer then
abbrev pub writes_after : Bool → Effect → Bool
writes_after writes Effect.Nothing = writes
writes_after writes (Effect.Becomes x) = writes
writes_after writes (Effect.Writes x) = true
writes_after writes (Effect.Commits t) = false
writes_after writes Effect.RollsBack = false

-- an effect that makes a session the writer comes only where no other is
abbrev pub IsAllowed : World → ℕ → Effect → Type 0
IsAllowed w s Effect.Nothing = Unit {0}
IsAllowed w s (Effect.Becomes x) = Unit {0}
IsAllowed w s (Effect.Writes x) = has_other s w.writer ≡ false
IsAllowed w s (Effect.Commits t) = Unit {0}
IsAllowed w s Effect.RollsBack = Unit {0}

either_sessions : (b : Bool) (x y : World) (m : FinMap nat_cmp Session) → x.sessions ≡ m → y.sessions ≡ m → (cond b x y).sessions ≡ m
either_sessions true x y m p q = p
either_sessions false x y m p q = q

pub committed_sessions : (w : World) (s : ℕ) (session : Session) (t : Transaction)
    → (committed w s session t).sessions ≡ insert w.sessions s (idle session)
committed_sessions w s session t = either_sessions (is_writer w s) _ _ _ refl refl

-- ---- sessions

pub others_stay : (w : World) (s : ℕ) (session : Session) (e : Effect) (k : ℕ) → k ≢ s
    → get (after w s session e).sessions k ≡ get w.sessions k
others_stay w s session Effect.Nothing k ne = refl
others_stay w s session (Effect.Becomes x) k ne = get_there w.sessions s x k ne
others_stay w s session (Effect.Writes x) k ne = get_there w.sessions s x k ne
others_stay w s session (Effect.Commits t) k ne =
    ap (λ m. get m k) (committed_sessions w s session t) ∙ get_there w.sessions s (idle session) k ne
others_stay w s session Effect.RollsBack k ne = get_there w.sessions s (idle session) k ne

pub own_session : (w : World) (s : ℕ) (session : Session) (e : Effect) → get w.sessions s ≡ Some session
    → get (after w s session e).sessions s ≡ Some (left_as session e)
own_session w s session Effect.Nothing stands = stands
own_session w s session (Effect.Becomes x) stands = get_here w.sessions s x
own_session w s session (Effect.Writes x) stands = get_here w.sessions s x
own_session w s session (Effect.Commits t) stands =
    ap (λ m. get m s) (committed_sessions w s session t) ∙ get_here w.sessions s (idle session)
own_session w s session Effect.RollsBack stands = get_here w.sessions s (idle session)

-- ---- the writer

pub same_key : (s : ℕ) → (s == s) ≡ true
same_key s = eq-eqb s s refl

-- where no other session is the writer, a third one is not
only_one : (s k : ℕ) (o : Option ℕ) → k ≢ s → has_other s o ≡ false → is_session k o ≡ false
only_one s k None ne fails = refl
only_one s k (Some writer) ne fails =
    elim (writer == s) as (λ b. (writer == s) ≡ b → not b ≡ false → (writer == k) ≡ false) [
      | true ↦ λ e h. ne_eqb writer k (λ f. ne (sym f ∙ eqb-true writer s e))
      | false ↦ λ e h. cc
    ] refl fails

-- taking one session away does not change whether another is the writer
pub without_other : (s k : ℕ) (o : Option ℕ) → k ≢ s → is_session k (cond (is_session s o) None o) ≡ is_session k o
without_other s k None ne = refl
without_other s k (Some writer) ne =
    elim (writer == s) as (λ b. (writer == s) ≡ b → is_session k (cond b None (Some writer)) ≡ (writer == k)) [
      | true ↦ λ e. sym (ne_eqb writer k (λ f. ne (sym f ∙ eqb-true writer s e)))
      | false ↦ λ e. refl
    ] refl

pub without_itself : (s : ℕ) (o : Option ℕ) → is_session s (cond (is_session s o) None o) ≡ false
without_itself s None = refl
without_itself s (Some writer) =
    elim (writer == s) as (λ b. (writer == s) ≡ b → is_session s (cond b None (Some writer)) ≡ false) [
      | true ↦ λ e. refl
      | false ↦ λ e. e
    ] refl

either_writer : (b : Bool) (x y : World) (o : Option ℕ) → x.writer ≡ None → y.writer ≡ o → (cond b x y).writer ≡ cond b None o
either_writer true x y o p q = p
either_writer false x y o p q = q

committed_writer : (w : World) (s : ℕ) (session : Session) (t : Transaction) → (committed w s session t).writer ≡ writer_without w s
committed_writer w s session t = either_writer (is_writer w s) _ _ _ refl refl

pub others_write : (w : World) (s : ℕ) (session : Session) (e : Effect) (k : ℕ) → k ≢ s → IsAllowed w s e
    → is_writer (after w s session e) k ≡ is_writer w k
others_write w s session Effect.Nothing k ne a = refl
others_write w s session (Effect.Becomes x) k ne a = refl
others_write w s session (Effect.Writes x) k ne a = ne_eqb s k (λ e. ne (sym e)) ∙ sym (only_one s k w.writer ne a)
others_write w s session (Effect.Commits t) k ne a =
    ap (is_session k) (committed_writer w s session t) ∙ without_other s k w.writer ne
others_write w s session Effect.RollsBack k ne a = without_other s k w.writer ne

pub own_writes : (w : World) (s : ℕ) (session : Session) (e : Effect) → is_writer (after w s session e) s ≡ writes_after (is_writer w s) e
own_writes w s session Effect.Nothing = refl
own_writes w s session (Effect.Becomes x) = refl
own_writes w s session (Effect.Writes x) = same_key s
own_writes w s session (Effect.Commits t) = ap (is_session s) (committed_writer w s session t) ∙ without_itself s w.writer
own_writes w s session Effect.RollsBack = without_itself s w.writer
