-- What a refused call leaves.
use Rattle.std.proofs.Common.{◌≡◌, ◌≢◌, ℕ, true, false, Option, None, Some, Result, Ok, Err, OnErr, refl, sym, ap, subst, ◌∙◌}
use Rattle.std.specs.Prelude.{slice_set}
use Rattle.std.specs.FinMap.{get}
use Rattle.refusals.specs.declared.refusal.Refusal.{Refusal}
use Rattle.refusals.specs.declared.refusal.Refusal.TheVariants.{SerializationFailure}
use Rattle.lexer.specs.Token.{Bytes}
use Rattle.ast.specs.declared.statement.Statement.{Statement}
use Rattle.ast.specs.declared.statement.Statement.TheVariants as asks
use Rattle.replies.specs.declared.reply.Reply.{Reply}
use Rattle.replies.specs.declared.reply.Reply.TheVariants as says
use Rattle.denote.specs.Database.{Name}
use Rattle.statement_definitions.specs.Reading.{IsRead}
use Rattle.store.specs.Contents.{database_of}
use Rattle.store.specs.Stored.{Stored, SameButMark}
use Rattle.transactions.specs.Refused.{IfRefused}
use Rattle.transactions.specs.Shown.{Kept, Slots, settled, slot_at, session_of, shown}
use Rattle.transactions.proofs.Orders.{same}
use Rattle.transactions.proofs.Sessions.{SameBeside, sessions_stay}
use Rattle.transactions.proofs.Steps.{same_session, session_settled}
use Rattle.sqlval.specs.Value.{Row}
use Rattle.sessions.specs.Kinds.{IsFetchText, is_fetch}
use Rattle.sessions.specs.Opened.{told}

-- what is no refusal leaves nothing to be said
pub none_kept : (reply : Reply) (P : Refusal → Type 0) → IfRefused reply (λ refusal. ⊥) → IfRefused reply P
none_kept (says.Refused refusal) P none = absurd none
none_kept (says.Rows rows) P none = tt
none_kept (says.Row row) P none = tt
none_kept says.EndOfRows P none = tt
none_kept (says.Changed count) P none = tt
none_kept says.Unchanged P none = tt
none_kept (says.Lines lines) P none = tt
none_kept says.Done P none = tt

-- a refusal, of another statement than FETCH, leaves the versions, but for the mark, the writer and
-- what is kept
abbrev pub Keeps : Statement → Stored → Option ℕ → Kept → Stored → Option ℕ → Kept → Refusal → Type 0
Keeps x st w kept new v kept_new refusal = refusal ≢ SerializationFailure → is_fetch x ≡ false → SameButMark st new × (v ≡ w) × (kept_new ≡ kept)

pub keeps_all : (x : Statement) (st new : Stored) (w v : Option ℕ) (kept kept_new : Kept) (refusal : Refusal) → new ≡ st → v ≡ w → kept_new ≡ kept → Keeps x st w kept new v kept_new refusal
keeps_all x st new w v kept kept_new refusal e f g other fetch = (same st new e, f, g)

-- a text that is read as another statement is no FETCH
pub no_fetch_text : (x : Statement) (text : Bytes) → IsRead text x → (IsFetchText text → ⊥) → is_fetch x ≡ false
no_fetch_text (asks.Fetch name) text read none = absurd (none (name, read))
no_fetch_text _ text read none = refl

pub refused_alike : (reply : Reply) (P Q : Refusal → Type 0) → ((refusal : Refusal) → P refusal → Q refusal) → IfRefused reply P → IfRefused reply Q
refused_alike (says.Refused refusal) P Q so h = so refusal h
refused_alike (says.Rows rows) P Q so h = tt
refused_alike (says.Row row) P Q so h = tt
refused_alike says.EndOfRows P Q so h = tt
refused_alike (says.Changed count) P Q so h = tt
refused_alike says.Unchanged P Q so h = tt
refused_alike (says.Lines lines) P Q so h = tt
refused_alike says.Done P Q so h = tt

-- and so the world
pub world_kept : (st new : Stored) (w v : Option ℕ) (slots : Slots) (s : ℕ) (kept kept_new : Kept) → slot_at slots s ≡ Some kept → SameButMark st new → v ≡ w → kept_new ≡ kept
    → shown new v (slice_set slots s (Some (settled (get new.readers s) kept_new))) ≡ shown st w slots
world_kept st new w v slots s kept kept_new is k f g =
    (λ i. shown new (f i) (slice_set slots s (Some (settled (get new.readers s) (g i)))))
    ∙ (let sessions = sessions_stay st w new w slots s kept (settled (get new.readers s) kept) is beside here in λ i. record { commits = k.commits i; last = database_of (k.last i); writer = w; sessions = sessions i })
  where
    beside : SameBeside st w new w s
    beside = record { readers = λ q ne. ap (λ m. get m q) k.readers; writes = λ q ne. refl; working = λ q ne is. k.working }

    here : session_of new w s (settled (get new.readers s) kept) ≡ session_of st w s kept
    here = session_settled new w s kept (get new.readers s) ∙ same_session st new w s kept k

-- what is left of a call that is refused behind one that shows the same
pub same_after : {A : Type 0} (result : Result A Refusal) (st mid new : Stored) → mid ≡ st → OnErr result (SameButMark mid new) → OnErr result (SameButMark st new)
same_after (Ok a) st mid new e h = tt
same_after (Err refusal) st mid new e h = subst (λ (x : Stored). SameButMark x new) e h

-- what is told of a row is no refusal
pub never_told : (next : Option Row) (P : Refusal → Type 0) → IfRefused (told next) P
never_told None P = tt
never_told (Some row) P = tt

-- what holds of all refusals
pub all_refused : (reply : Reply) (P : Refusal → Type 0) → ((refusal : Refusal) → P refusal) → IfRefused reply P
all_refused (says.Refused refusal) P each = each refusal
all_refused _ P each = tt

-- nothing is said of FETCH
pub fetch_free : {P : Type 0} (x : Statement) (name : Name) → x ≡ asks.Fetch name → is_fetch x ≡ false → P
fetch_free x name is other = let bad : true ≡ false = sym (ap is_fetch is) ∙ other in absurd (cc)
