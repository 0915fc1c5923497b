-- To open the query of a text is a step.
use Rattle.std.proofs.Common.{◌≡◌, ◌≢◌, ◌⊎◌, ℕ, Bool, true, false, [], Option, Some, None, refl, sym, ap, subst, ◌∙◌, inl, inr, is_some}
use Rattle.std.specs.FinMap.{get}
use Rattle.refusals.specs.declared.reason.Reason.TheVariants as reason
use Rattle.refusals.specs.declared.refusal.Refusal.{Refusal}
use Rattle.refusals.specs.declared.refusal.Refusal.TheVariants.{CursorState, Invalid, Memory}
use Rattle.lexer.specs.Token.{Bytes}
use Rattle.ast.specs.declared.statement.OrderedQuery.{OrderedQuery}
use Rattle.ast.specs.declared.statement.Statement.{Statement}
use Rattle.ast.specs.declared.statement.Statement.TheVariants as asks
use Rattle.typing.specs.declared.statement.Typed.TheVariants as does
use Rattle.denote.specs.Database.{Database}
use Rattle.denote.specs.Query.{denotes}
use Rattle.replies.specs.declared.reply.Reply.TheVariants as says
use Rattle.statement_definitions.specs.Reading.{IsRead, IsUnread}
use Rattle.session_definitions.specs.Asked.{Asked}
use Rattle.session_definitions.specs.Calls.{OpensQuery, is_query}
use Rattle.session_definitions.specs.Effect.{Effect}
use Rattle.session_definitions.specs.Refusals.{IsReserved}
use Rattle.session_definitions.specs.Rules.{Means, Rules}
use Rattle.session_definitions.specs.Transactions.{active, with_unnamed}
use Rattle.session_definitions.specs.World.{Cursor, Transaction}
use Rattle.store.specs.declared.view.View.{View}
use Rattle.store.specs.Contents.{Contents, database_of}
use Rattle.store.specs.Stored.{SameButMark, Stored, begun}
use Rattle.store.specs.View.{seen_by}
use Rattle.transactions.specs.Moves.{IsClosedIn, MovesBy}
use Rattle.transactions.specs.Orderly.{IsOrderly}
use Rattle.transactions.specs.Shown.{Kept, session_of, settled, transaction_over, view_in}
use Rattle.transactions.proofs.Obstacles.{runs}
use Rattle.transactions.proofs.Orders.{same}
use Rattle.transactions.proofs.Steps.{becomes, begun_as, found_once, nothing_moves, read_once, runs_over, runs_works}
use Rattle.cursors.specs.declared.cursor.OpenCursor.{OpenCursor}
use Rattle.cursors.specs.Opened.{cursor_of}
use Rattle.sessions.specs.Opened.{OpensAs, RefusesOpening}
use Rattle.sessions.proofs.Exchanges.{not_there}
use Rattle.sessions.proofs.OpenSteps.{same_outcome}
use Rattle.sessions.proofs.QuerySteps.{sees_contents}
use Rattle.sessions.proofs.Unread.{is_memory}

module _ (rules : Rules) (st : Stored) (w : Option ℕ) (s : ℕ) (kept : Kept) (text : Bytes) (h : IsOrderly st w) where
  -- a text that is refused
  pub refuses_unread : (refusal : Refusal) → (refusal ≢ Memory → IsUnread text refusal)
      → MovesBy rules s (Asked.Query text) (says.Refused refusal) st w kept st w (settled (get st.readers s) kept)
  refuses_unread refusal unread = nothing_moves rules st w s kept (Asked.Query text) (says.Refused refusal) st h (refusing (is_memory refusal)) (same st st refl)
    where
      refusing : (refusal ≡ Memory) ⊎ (refusal ≢ Memory) → OpensQuery rules (session_of st w s kept) (runs st w s kept) text (says.Refused refusal) Effect.Nothing
      refusing (inl e) = OpensQuery.withheld refusal (subst IsReserved (sym e) tt) (record { says_so = refl; leaves_all = refl })
      refusing (inr ne) = OpensQuery.unread refusal (unread ne) (record { says_so = refl; leaves_all = refl })

  -- another statement
  pub refuses_other : (x : Statement) → IsRead text x → is_query x ≡ false
      → MovesBy rules s (Asked.Query text) (says.Refused (Invalid reason.Syntax)) st w kept st w (settled (get st.readers s) kept)
  refuses_other x read other =
      nothing_moves rules st w s kept (Asked.Query text) (says.Refused (Invalid reason.Syntax)) st h
      (OpensQuery.other x read other (record { says_so = refl; leaves_all = refl })) (same st st refl)

  -- what is reserved
  pub opening_withheld : (refusal : Refusal) (new : Stored) → IsReserved refusal → SameButMark st new
      → MovesBy rules s (Asked.Query text) (says.Refused refusal) st w kept new w (settled (get new.readers s) kept)
  opening_withheld refusal new reserved k =
      nothing_moves rules st w s kept (Asked.Query text) (says.Refused refusal) new h
      (OpensQuery.withheld refusal reserved (record { says_so = refl; leaves_all = refl })) k

  module _ (shut : IsClosedIn (get st.readers s) kept) (x : OrderedQuery) (read : IsRead text (asks.Query x))
      (b : Bool) (is : (contents : Contents) → b ≡ is_some (kept.unnamed contents)) where
    open_there : is_some (runs st w s kept).unnamed ≡ b
    open_there = ap (λ (t : Transaction). is_some t.unnamed) (runs_over st w s kept h shut) ∙ sym (is (read_once st w s))

    pub open_already : b ≡ true → MovesBy rules s (Asked.Query text) (says.Refused CursorState) st w kept st w (settled (get st.readers s) kept)
    open_already e =
        nothing_moves rules st w s kept (Asked.Query text) (says.Refused CursorState) st h
        (OpensQuery.open_already x read (open_there ∙ e) (record { says_so = refl; leaves_all = refl })) (same st st refl)

    module _ (closed : b ≡ false) (mid : Stored) (view : View) (begins : mid ≡ begun st s) (seen : view ≡ view_in w s) where
      none_there : (runs st w s kept).unnamed ≡ None
      none_there = not_there (runs st w s kept).unnamed (open_there ∙ closed)

      there : seen_by mid view ≡ read_once st w s
      there = ap (λ y. seen_by y view) begins ∙ ap (λ v. seen_by (begun st s) v) seen ∙ sees_contents st w s h

      works : database_of (read_once st w s) ≡ (runs st w s kept).working
      works = sym (runs_works st w s kept h)

      refusing : (refusal : Refusal) → RefusesOpening rules (runs st w s kept).working x refusal
          → OpensQuery rules (session_of st w s kept) (runs st w s kept) text (says.Refused refusal) Effect.Nothing
      refusing refusal (RefusesOpening.withheld reserved) = OpensQuery.withheld refusal reserved (record { says_so = refl; leaves_all = refl })
      refusing refusal (RefusesOpening.wrong reason) = OpensQuery.wrong x refusal read none_there reason (record { says_so = refl; leaves_all = refl })

      pub refuses : (refusal : Refusal) (new : Stored) → RefusesOpening rules (database_of (seen_by mid view)) x refusal → SameButMark st new
          → MovesBy rules s (Asked.Query text) (says.Refused refusal) st w kept new w (settled (get new.readers s) kept)
      refuses refusal new found k =
          nothing_moves rules st w s kept (Asked.Query text) (says.Refused refusal) new h
          (refusing refusal (subst (λ (db : Database). RefusesOpening rules db x refusal) (ap database_of there ∙ works) found)) k

      module _ (cursor : OpenCursor) (opens : OpensAs rules (seen_by mid view) x cursor) where
        opens_there : OpensAs rules (read_once st w s) x cursor
        opens_there = subst (λ (contents : Contents). OpensAs rules contents x cursor) there opens

        abbrev opened_as : Cursor
        opened_as = record { outcome = (cursor_of cursor (read_once st w s)).outcome; given = [] }

        is_opened : cursor_of cursor (read_once st w s) ≡ opened_as
        is_opened = λ i. record { outcome = (cursor_of cursor (read_once st w s)).outcome; given = opens_there.begins.given i }

        pub moves : (other : Kept) (new : Stored) → other.mode ≡ kept.mode → other.declared ≡ kept.declared
            → other.cursors (read_once st w s) ≡ kept.cursors (read_once st w s)
            → other.unnamed (read_once st w s) ≡ Some (cursor_of cursor (read_once st w s)) → new ≡ mid
            → MovesBy rules s (Asked.Query text) says.Done st w kept new w (settled (get new.readers s) other)
        moves other new mode declared named unnamed e =
            becomes rules st w s kept other (Asked.Query text) says.Done (active (session_of st w s kept) (with_unnamed (runs st w s kept) (Some opened_as))) new h
            answered (begun_as st w s kept other (λ t. with_unnamed t (Some opened_as)) h shut declared made) (e ∙ begins)
          where
            made : transaction_over other (found_once st s) (read_once st w s) ≡ with_unnamed (transaction_over kept (found_once st s) (read_once st w s)) (Some opened_as)
            made = λ i. record {
              mode = mode i;
              beginning = (found_once st s).number;
              found = database_of (found_once st s).contents;
              working = database_of (read_once st w s);
              cursors = named i;
              unnamed = (unnamed ∙ ap (λ (c : Cursor). Some c) is_opened) i;
            }

            means_there : Means rules (runs st w s kept).working (asks.Query x) (does.Query opens_there.query)
            means_there = subst (λ (db : Database). Means rules db (asks.Query x) (does.Query opens_there.query)) works opens_there.means

            answered : OpensQuery rules (session_of st w s kept) (runs st w s kept) text says.Done
                (Effect.Becomes (active (session_of st w s kept) (with_unnamed (runs st w s kept) (Some opened_as))))
            answered = OpensQuery.opens x opens_there.query (cursor_of cursor (read_once st w s)).outcome read none_there means_there
                (same_outcome (cursor_of cursor (read_once st w s)).outcome (denotes (runs st w s kept).working opens_there.query)
                (opens_there.outcome ∙ ap (λ (db : Database). denotes db opens_there.query) works)) refl refl
