-- A change that a call of a session asks for is a step, by whatever call it is asked for.
use Rattle.std.proofs.Common.{◌≡◌, ℕ, Bool, true, false, cond, Option, Some, None, refl, sym, ap, subst, ◌∙◌}
use Rattle.std.specs.FinMap.{get}
use Rattle.refusals.specs.declared.refusal.Refusal.{Refusal}
use Rattle.refusals.specs.declared.refusal.Refusal.TheVariants.{CursorState, TransactionState, SerializationFailure}
use Rattle.ast.specs.declared.statement.AccessMode.{AccessMode}
use Rattle.ast.specs.declared.statement.AccessMode.TheVariants.{ReadOnly, ReadWrite}
use Rattle.ast.specs.declared.statement.Statement.{Statement}
use Rattle.typing.specs.declared.statement.Typed.TheVariants as does
use Rattle.denote.specs.Change.{changed, IsAccepted}
use Rattle.denote.specs.Database.{CheckReading, Database, IsGood}
use Rattle.replies.specs.declared.reply.Reply.{Reply}
use Rattle.replies.specs.declared.reply.Reply.TheVariants as says
use Rattle.session_definitions.specs.Asked.{Asked}
use Rattle.session_definitions.specs.Effect.{Effect}
use Rattle.session_definitions.specs.Refusals.{IsReserved}
use Rattle.session_definitions.specs.Rules.{Rules, Means}
use Rattle.session_definitions.specs.Statements.{Changes}
use Rattle.session_definitions.specs.Transactions.{active, has_open, is_read_only}
use Rattle.store.specs.Contents.{Contents, database_of}
use Rattle.store.specs.Stored.{Found, Stored, SameButMark, begun, ended}
use Rattle.transactions.specs.Moves.{IsClosedIn, MovesBy}
use Rattle.transactions.specs.Orderly.{IsOrderly, is_too_late}
use Rattle.transactions.specs.Shown.{Kept, opens_any, session_of, settled}
use Rattle.transactions.proofs.Obstacles.{opens_in, runs, stop, stop_is}
use Rattle.transactions.proofs.Orders.{begun_working, late_not_writer, same}
use Rattle.transactions.proofs.Steps.{Answered, IsShut, changes, next_after, nothing_moves, rolls_back, sees_working, settled_declared, settled_mode}
use Rattle.sessions.specs.Changed.{MakesChange, RefusesChange, RefusesStatement}
use Rattle.sessions.specs.Seen.{seen_in}
use Rattle.sessions.proofs.QuerySteps.{sees}

writes_on : (mode : AccessMode) (o : Option Found) → is_read_only mode ≡ false → mode ≡ next_after o mode
writes_on ReadOnly o e = cc
writes_on ReadWrite None e = refl
writes_on ReadWrite (Some f) e = refl

-- By `those` rules the statement x is the change; to answer as it does is to answer the call.
module _ (rules those : Rules) (st : Stored) (w : Option ℕ) (s : ℕ) (kept : Kept) (asked : Asked) (x : Statement)
    (h : IsOrderly st w) (shut : IsClosedIn (get st.readers s) kept)
    (answered : (reply : Reply) (effect : Effect) → Changes those (session_of st w s kept) (runs st w s kept) (stop st w s kept) x reply effect
    → Answered rules st w s kept asked reply effect) where
  pub only_reads : is_read_only kept.mode ≡ true → (new : Stored) → new ≡ st
      → MovesBy rules s asked (says.Refused TransactionState) st w kept new w (settled (get new.readers s) kept)
  only_reads reads new e =
      let stopped : stop st w s kept ≡ Some TransactionState =
      stop_is st w s kept ∙ ap (λ b. cond b (Some TransactionState) (cond (has_open (runs st w s kept)) (Some CursorState) (cond (is_too_late st w s) (Some SerializationFailure) None))) reads in
      nothing_moves rules st w s kept asked (says.Refused TransactionState) new h
      (answered (says.Refused TransactionState) Effect.Nothing (Changes.reads_only stopped (record { says_so = refl; leaves_all = refl }))) (same st new e)

  module _ (writes : is_read_only kept.mode ≡ false) (opened : Bool) (is_open : (contents : Contents) → opened ≡ opens_any kept contents) where
    stop_by : (b : Bool) → opened ≡ b
        → stop st w s kept ≡ cond b (Some CursorState) (cond (is_too_late st w s) (Some SerializationFailure) None)
    stop_by b e =
        stop_is st w s kept
        ∙ ap (λ m. cond m (Some TransactionState) (cond (has_open (runs st w s kept)) (Some CursorState) (cond (is_too_late st w s) (Some SerializationFailure) None))) writes
        ∙ ap (λ m. cond m (Some CursorState) (cond (is_too_late st w s) (Some SerializationFailure) None)) (sym (opens_in st w s kept opened is_open (get st.readers s) shut) ∙ e)

    pub beside_cursor : opened ≡ true → (new : Stored) → new ≡ st
        → MovesBy rules s asked (says.Refused CursorState) st w kept new w (settled (get new.readers s) kept)
    beside_cursor opened new e =
        nothing_moves rules st w s kept asked (says.Refused CursorState) new h
        (answered (says.Refused CursorState) Effect.Nothing (Changes.has_cursor (stop_by true opened) (record { says_so = refl; leaves_all = refl }))) (same st new e)

    pub comes_late : opened ≡ false → is_too_late st w s ≡ true → (new : Stored) → new ≡ ended st s
        → MovesBy rules s asked (says.Refused SerializationFailure) st w kept new w (settled (get new.readers s) kept)
    comes_late none late new e =
        let stopped : stop st w s kept ≡ Some SerializationFailure = stop_by false none ∙ ap (λ b. cond b (Some SerializationFailure) None) late in
        rolls_back rules st w s kept (settled (get new.readers s) kept) asked (says.Refused SerializationFailure) new h (late_not_writer st w s late)
        (record { declared = settled_declared (get new.readers s) kept; mode = settled_mode (get new.readers s) kept ∙ writes_on kept.mode (get st.readers s) writes })
        (answered (says.Refused SerializationFailure) Effect.RollsBack (Changes.overtaken stopped refl refl)) e

    module _ (none : opened ≡ false) (free : is_too_late st w s ≡ false) where
      free_to_change : stop st w s kept ≡ None
      free_to_change = stop_by false none ∙ ap (λ b. cond b (Some SerializationFailure) None) free

      module _ (mid : Stored) (begins : mid ≡ begun st s) where
        there : database_of mid.working ≡ (runs st w s kept).working
        there = ap (λ (y : Stored). database_of y.working) begins ∙ ap database_of (begun_working st s) ∙ sym (sees_working st w s kept h free)

        pub good_begun : (reading : CheckReading) → IsGood reading (seen_in st w s) → IsGood reading (database_of mid.working)
        good_begun reading good = subst (λ (db : Database). IsGood reading db) (sees st w s kept h ∙ sym there) good

        pub makes : IsShut kept → (reply : Reply) (new : Stored) → MakesChange those mid x reply new
            → MovesBy rules s asked reply st w kept new (Some s) (settled (get new.readers s) kept)
        makes closed reply new made =
            let m = made.made in
            let accepted : IsAccepted (changed those.check (runs st w s kept).working made.change) (database_of m.contents) m.count =
            subst (λ (db : Database). IsAccepted (changed those.check db made.change) (database_of m.contents) m.count) there m.accepted in
            let stands_for : Means those (runs st w s kept).working x (does.Change made.change) = subst (λ (db : Database). Means those db x (does.Change made.change)) there made.means in
            changes rules st w s kept asked reply m.contents m.marked new h closed free
            (answered reply (Effect.Writes (active (session_of st w s kept) (record (runs st w s kept) { working = database_of m.contents }))) (Changes.makes made.change (database_of m.contents) m.count free_to_change stands_for accepted m.says_so refl))
            (m.leaves ∙ ap (λ (y : Stored). record y { working = m.contents; marked = m.marked }) begins)

        module _ (withheld : (refusal : Refusal) → IsReserved refusal → Answered rules st w s kept asked (says.Refused refusal) Effect.Nothing) where
          refusing : (refusal : Refusal) → RefusesStatement those (runs st w s kept).working x refusal
              → Answered rules st w s kept asked (says.Refused refusal) Effect.Nothing
          refusing refusal (RefusesStatement.withheld reserved) = withheld refusal reserved
          refusing refusal (RefusesStatement.wrong reason) =
              answered (says.Refused refusal) Effect.Nothing (Changes.wrong refusal free_to_change reason (record { says_so = refl; leaves_all = refl }))
          refusing refusal (RefusesStatement.refused c m (RefusesChange.withheld reserved)) = withheld refusal reserved
          refusing refusal (RefusesStatement.refused c m (RefusesChange.raises fault says_so raised)) =
              answered (says.Refused refusal) Effect.Nothing (Changes.raises c fault free_to_change m raised (record { says_so = ap says.Refused says_so; leaves_all = refl }))
          refusing refusal (RefusesStatement.refused c m (RefusesChange.violates name says_so named)) =
              answered (says.Refused refusal) Effect.Nothing (Changes.violates c name free_to_change m named (record { says_so = ap says.Refused says_so; leaves_all = refl }))

          pub refuses : (refusal : Refusal) (new : Stored) → RefusesStatement those (database_of mid.working) x refusal → SameButMark st new
              → MovesBy rules s asked (says.Refused refusal) st w kept new w (settled (get new.readers s) kept)
          refuses refusal new found k =
              nothing_moves rules st w s kept asked (says.Refused refusal) new h
              (refusing refusal (subst (λ (db : Database). RefusesStatement those db x refusal) there found)) k
