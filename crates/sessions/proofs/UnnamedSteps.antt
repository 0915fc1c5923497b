-- The query of a text is opened, rows of it are taken, and it is closed: steps of the cursor
-- without a name.
use Rattle.std.proofs.Common.{◌≡◌, ◌≢◌, ◌⊎◌, ◌<◌, ℕ, Bool, true, false, List, [], ◌∷◌, length, Option, Some, None, Err, refl, sym, ap, subst, ◌∙◌, inl, inr, is_some}
use Rattle.std.specs.FinMap.{get}
use Rattle.refusals.specs.declared.refusal.Refusal.{Refusal}
use Rattle.refusals.specs.declared.refusal.Refusal.TheVariants.{CursorState}
use Rattle.sqlval.specs.Value.{Row}
use Rattle.typing.specs.declared.typed.Condition.TheVariants as condition
use Rattle.denote.specs.declared.fault.Fault.{Fault}
use Rattle.replies.specs.declared.reply.Reply.{Reply}
use Rattle.replies.specs.declared.reply.Reply.TheVariants as says
use Rattle.session_definitions.specs.Asked.{Asked}
use Rattle.session_definitions.specs.Calls.{ClosesQuery, ClosesQueryIn, TakesIn, TakesRows}
use Rattle.session_definitions.specs.Cursor.{IsAtEnd, having_given}
use Rattle.session_definitions.specs.Effect.{Effect}
use Rattle.session_definitions.specs.Rules.{Rules}
use Rattle.session_definitions.specs.Transactions.{active, with_unnamed}
use Rattle.session_definitions.specs.World.{Cursor, Session, Transaction}
use Rattle.store.specs.Contents.{Contents}
use Rattle.store.specs.Stored.{Found, Stored}
use Rattle.transactions.specs.Moves.{MovesBy}
use Rattle.transactions.specs.Orderly.{IsOrderly}
use Rattle.transactions.specs.Shown.{Kept, read_by, session_in, session_of, settled, transaction_of}
use Rattle.transactions.proofs.Orders.{same}
use Rattle.transactions.proofs.Steps.{Answered, becomes_still, has_transaction, nothing_moves}
use Rattle.cursors.specs.Opened.{IsAhead, MayTake}

-- what holds whatever the rules are is asked of some
abbrev pub some_rules : Rules
some_rules = record { statement = λ schema x. Err []; check = λ table columns text. condition.Or [] }

module _ (rules : Rules) (st : Stored) (w : Option ℕ) (s : ℕ) (kept other : Kept) (h : IsOrderly st w) (f : Found) (active_there : get st.readers s ≡ Some f)
    (mode : other.mode ≡ kept.mode) (declared : other.declared ≡ kept.declared) (named : other.cursors (read_by st w s f) ≡ kept.cursors (read_by st w s f)) where
  -- the session once its cursor without a name stands so
  with_other : (cursor : Option Cursor) → other.unnamed (read_by st w s f) ≡ cursor
      → session_of st w s other ≡ active (session_of st w s kept) (with_unnamed (transaction_of st w s kept f) cursor)
  with_other cursor is =
      ap (session_in st w s other) active_there
      ∙ (λ i. record {
        declared = declared i;
        next = (session_in st w s other (Some f)).next;
        transaction = Some (record (transaction_of st w s kept f) { mode = mode i; cursors = named i; unnamed = is i });
      })
      ∙ ap (λ o. active (session_in st w s kept o) (with_unnamed (transaction_of st w s kept f) cursor)) (sym active_there)

  taken : (count : ℕ) (reply : Reply) (effect : Effect) → TakesIn (session_of st w s kept) (transaction_of st w s kept f) count reply effect
      → Answered rules st w s kept (Asked.Rows count) reply effect
  taken count reply effect takes =
      subst (λ (t : Option Transaction). TakesRows (session_of st w s kept) t count reply effect) (sym (has_transaction st w s kept f active_there)) takes

  abbrev now_is : Option Cursor → Effect
  now_is cursor = Effect.Becomes (active (session_of st w s kept) (with_unnamed (transaction_of st w s kept f) cursor))

  -- so many rows, or fewer and the end
  pub takes : (count : ℕ) (rows : List Row) (cursor after : Cursor) → kept.unnamed (read_by st w s f) ≡ Some cursor → IsAhead rows count cursor after
      → other.unnamed (read_by st w s f) ≡ Some after
      → MovesBy rules s (Asked.Rows count) (says.Rows rows) st w kept st w (settled (get st.readers s) other)
  takes count rows cursor after there ahead is =
      becomes_still rules st w s kept other (Asked.Rows count) (says.Rows rows)
      (active (session_of st w s kept) (with_unnamed (transaction_of st w s kept f) (Some (having_given cursor rows)))) st h
      (taken count (says.Rows rows) _ (as_taken ahead.all))
      (with_other (Some (having_given cursor rows)) (is ∙ ap (λ (c : Cursor). Some c) ahead.leaves)) refl
    where
      as_taken : (length rows ≡ count) ⊎ ((length rows < count) × IsAtEnd after)
          → TakesIn (session_of st w s kept) (transaction_of st w s kept f) count (says.Rows rows) (now_is (Some (having_given cursor rows)))
      as_taken (inl all) = TakesIn.all cursor rows there ahead.may all refl refl
      as_taken (inr fewer) = TakesIn.fewer cursor rows there fewer.0 (subst IsAtEnd ahead.leaves fewer.1) refl refl

  -- or a refusal in place of them
  pub takes_not : (count : ℕ) (refusal : Refusal) (cursor : Cursor) → kept.unnamed (read_by st w s f) ≡ Some cursor → MayTake refusal count cursor
      → other.unnamed (read_by st w s f) ≡ None
      → MovesBy rules s (Asked.Rows count) (says.Refused refusal) st w kept st w (settled (get st.readers s) other)
  takes_not count refusal cursor there may is =
      becomes_still rules st w s kept other (Asked.Rows count) (says.Refused refusal)
      (active (session_of st w s kept) (with_unnamed (transaction_of st w s kept f) None)) st h
      (taken count (says.Refused refusal) _ (as_refused may)) (with_other None is) refl
    where
      as_refused : MayTake refusal count cursor → TakesIn (session_of st w s kept) (transaction_of st w s kept f) count (says.Refused refusal) (now_is None)
      as_refused (inl reserved) = TakesIn.withheld refusal cursor there reserved refl refl
      as_refused (inr raised) = TakesIn.raises cursor raised.1.0 there raised.0 raised.1.2 (ap (λ (r : Refusal). says.Refused r) raised.1.1) refl

  pub closes_query : is_some (kept.unnamed (read_by st w s f)) ≡ true → other.unnamed (read_by st w s f) ≡ None
      → MovesBy rules s Asked.Close says.Done st w kept st w (settled (get st.readers s) other)
  closes_query opened is =
      becomes_still rules st w s kept other Asked.Close says.Done (active (session_of st w s kept) (with_unnamed (transaction_of st w s kept f) None)) st h
      (subst (λ (t : Option Transaction). ClosesQuery (session_of st w s kept) t says.Done (now_is None)) (sym (has_transaction st w s kept f active_there))
      (ClosesQueryIn.closes opened refl refl)) (with_other None is) refl

-- ---- where none is open

module _ (rules : Rules) (st : Stored) (w : Option ℕ) (s : ℕ) (kept : Kept) (h : IsOrderly st w) (none : (contents : Contents) → kept.unnamed contents ≡ None) where
  not_taken : (count : ℕ) (o : Option Found) → TakesRows (session_of st w s kept) (session_in st w s kept o).transaction count (says.Refused CursorState) Effect.Nothing
  not_taken count None = record { says_so = refl; leaves_all = refl }
  not_taken count (Some f) = TakesIn.not_open (none (read_by st w s f)) (record { says_so = refl; leaves_all = refl })

  pub takes_none : (count : ℕ) → MovesBy rules s (Asked.Rows count) (says.Refused CursorState) st w kept st w (settled (get st.readers s) kept)
  takes_none count = nothing_moves rules st w s kept (Asked.Rows count) (says.Refused CursorState) st h (not_taken count (get st.readers s)) (same st st refl)

  not_closed : (o : Option Found) → ClosesQuery (session_of st w s kept) (session_in st w s kept o).transaction (says.Refused CursorState) Effect.Nothing
  not_closed None = record { says_so = refl; leaves_all = refl }
  not_closed (Some f) = ClosesQueryIn.not_open (none (read_by st w s f)) (record { says_so = refl; leaves_all = refl })

  pub closes_none : MovesBy rules s Asked.Close (says.Refused CursorState) st w kept st w (settled (get st.readers s) kept)
  closes_none = nothing_moves rules st w s kept Asked.Close (says.Refused CursorState) st h (not_closed (get st.readers s)) (same st st refl)
