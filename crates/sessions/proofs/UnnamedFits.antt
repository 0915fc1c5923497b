-- What is left of the cursors of a session whose cursor without a name was put or taken out.
use Rattle.std.proofs.Common.{◌≡◌, ◌⊎◌, ℕ, Bool, true, false, List, [], Option, Some, None, Result, Ok, Err, refl, sym, ap, subst, ◌∙◌, is_some}
use Rattle.std.specs.Prelude.{MatchOption}
use Rattle.std.specs.FinMap.{get}
use Rattle.refusals.specs.declared.refusal.Refusal.{Refusal}
use Rattle.refusals.specs.declared.refusal.Refusal.TheVariants.{CursorState}
use Rattle.sqlval.specs.Value.{Row}
use Rattle.lexer.specs.Token.{Bytes}
use Rattle.ast.specs.declared.statement.OrderedQuery.{OrderedQuery}
use Rattle.ast.specs.declared.statement.Statement.TheVariants as asks
use Rattle.replies.specs.declared.reply.Reply.{Reply}
use Rattle.replies.specs.declared.reply.Reply.TheVariants as says
use Rattle.statement_definitions.specs.Reading.{IsRead}
use Rattle.session_definitions.specs.Asked.{Asked}
use Rattle.session_definitions.specs.Rules.{Rules}
use Rattle.store.specs.declared.view.View.{View}
use Rattle.store.specs.Contents.{Contents}
use Rattle.store.specs.Stored.{Found, Stored, begun}
use Rattle.store.specs.View.{seen_by}
use Rattle.transactions.specs.Orderly.{IsOrderly}
use Rattle.transactions.specs.Moves.{MovesBy}
use Rattle.transactions.specs.Shown.{read_by, settled, view_in}
use Rattle.transactions.proofs.Orders.{same}
use Rattle.transactions.proofs.Steps.{read_once}
use Rattle.cursors.specs.declared.cursor.OpenCursor.{OpenCursor}
use Rattle.cursors.specs.declared.held.Cursors.{Cursors}
use Rattle.cursors.specs.declared.held.Declared.{Declared}
use Rattle.cursors.specs.ByName.{AllFit, FitsIf, IsShut, StandsOver, built, cursor_if, cursor_in, query_in}
use Rattle.cursors.specs.Opened.{Fits, IsAhead, MayTake, cursor_of}
use Rattle.sessions.specs.declared.slots.Slot.{Slot}
use Rattle.sessions.specs.Held.{FitsIn, Holds, HoldsIn, Leaves}
use Rattle.sessions.specs.Numbers.{kept_of}
use Rattle.sessions.specs.Opened.{GivesRows, OpensAs}
use Rattle.sessions.proofs.Exchanges.{none_not, seen_as}
use Rattle.sessions.proofs.Holding.{closed_in, fits_put, fits_same, kept_alike}
use Rattle.sessions.proofs.QuerySteps.{sees_contents}
use Rattle.sessions.proofs.UnnamedOpens.{moves}
use Rattle.sessions.proofs.UnnamedSteps.{closes_none, closes_query, takes, takes_none, takes_not}

-- what an exchange of it does
pub record Replaced (old new : Cursors) (given held : Option OpenCursor) : Type 0 where
  pub puts : new.unnamed ≡ given
  pub was : held ≡ old.unnamed
  pub named : new.declared ≡ old.declared

-- those that stand over what is read go on with what is put
pub stands_put : (old new : Cursors) (given held : Option OpenCursor) → Replaced old new given held → (contents : Contents) → StandsOver old contents → FitsIf given contents
    → StandsOver new contents
stands_put old new given held put contents stands fits = record {
  named = subst (λ (ds : List Declared). AllFit ds contents) (sym put.named) stands.named;
  unnamed = subst (λ (cursor : Option OpenCursor). FitsIf cursor contents) (sym put.puts) fits;
}

abbrev after : Slot → Cursors → Slot
after slot cursors = record slot { cursors = cursors }

-- ---- it is taken out

module _ (rules : Rules) (st : Stored) (w : Option ℕ) (s : ℕ) (h : IsOrderly st w) (slot : Slot) (holds : Holds st w s slot.cursors)
    (mid : Cursors) (held : Option OpenCursor) (first : Replaced slot.cursors mid None held) where
  -- where none was open
  module _ (none : held ≡ None) where
    none_there : (contents : Contents) → (kept_of slot).unnamed contents ≡ None
    none_there contents = ap (λ (cursor : Option OpenCursor). cursor_if cursor contents) (sym first.was ∙ none)

    same_kept : kept_of (after slot mid) ≡ kept_of slot
    same_kept = kept_alike slot mid (ap (built query_in) first.named) (λ contents. ap (built (cursor_in contents)) first.named) (first.puts ∙ sym none ∙ first.was)

    mid_fits : FitsIn st w s (get st.readers s) mid
    mid_fits = by (get st.readers s) holds
      where
        by : (o : Option Found) → HoldsIn st w s o slot.cursors → FitsIn st w s o mid
        by None shut = tt
        by (Some f) stands = stands_put slot.cursors mid None held first (read_by st w s f) stands tt

    pub taking_none : (count : ℕ) (reply : Reply) → reply ≡ says.Refused CursorState → (new : Cursors) (was : Option OpenCursor) → Replaced mid new None was
        → Leaves rules s (Asked.Rows count) reply st w slot st w (after slot new)
    taking_none count reply is new was second =
        subst (λ (r : Reply). Leaves rules s (Asked.Rows count) r st w slot st w (after slot new)) (sym is) (record {
          moves = subst (λ k. MovesBy rules s (Asked.Rows count) (says.Refused CursorState) st w (kept_of slot) st w (settled (get st.readers s) k)) (sym kept_still)
              (takes_none rules st w s (kept_of slot) h none_there count);
          fits = still_fits;
        })
      where
        kept_still : kept_of (after slot new) ≡ kept_of slot
        kept_still = kept_alike slot new (ap (built query_in) (second.named ∙ first.named)) (λ contents. ap (built (cursor_in contents)) (second.named ∙ first.named))
            (second.puts ∙ sym none ∙ first.was)

        by : (o : Option Found) → HoldsIn st w s o slot.cursors → FitsIn st w s o new
        by None shut = tt
        by (Some f) stands = stands_put mid new None was second (read_by st w s f) (stands_put slot.cursors mid None held first (read_by st w s f) stands tt) tt

        still_fits : FitsIn st w s (get st.readers s) new
        still_fits = by (get st.readers s) holds

    pub closing_none : Leaves rules s Asked.Close (says.Refused CursorState) st w slot st w (after slot mid)
    closing_none = record {
      moves = subst (λ k. MovesBy rules s Asked.Close (says.Refused CursorState) st w (kept_of slot) st w (settled (get st.readers s) k)) (sym same_kept)
          (closes_none rules st w s (kept_of slot) h none_there);
      fits = mid_fits;
    }

  -- where one was open
  module _ (cursor : OpenCursor) (is : held ≡ Some cursor) where
    -- a session with an open cursor has a transaction
    active_in : (o : Option Found) → HoldsIn st w s o slot.cursors → (f : Found) × (o ≡ Some f)
    active_in None shut = none_not held (first.was ∙ shut.unnamed) (ap is_some is)
    active_in (Some f) stands = (f, refl)

    module _ (f : Found) (active : get st.readers s ≡ Some f) where
      stands : StandsOver slot.cursors (read_by st w s f)
      stands = subst (λ o. HoldsIn st w s o slot.cursors) active holds

      fits : Fits cursor (read_by st w s f)
      fits = subst (λ (o : Option OpenCursor). FitsIf o (read_by st w s f)) (sym first.was ∙ is) stands.unnamed

      there : (kept_of slot).unnamed (read_by st w s f) ≡ Some (cursor_of cursor (read_by st w s f))
      there = ap (λ (o : Option OpenCursor). cursor_if o (read_by st w s f)) (sym first.was ∙ is)

      mid_stands : StandsOver mid (read_by st w s f)
      mid_stands = stands_put slot.cursors mid None held first (read_by st w s f) stands tt

      closed_there : (kept_of (after slot mid)).unnamed (read_by st w s f) ≡ None
      closed_there = ap (λ (o : Option OpenCursor). cursor_if o (read_by st w s f)) first.puts

      fits_mid : FitsIn st w s (get st.readers s) mid
      fits_mid = subst (λ o. FitsIn st w s o mid) (sym active) mid_stands

      closes_in : Leaves rules s Asked.Close says.Done st w slot st w (after slot mid)
      closes_in = record {
        moves = closes_query rules st w s (kept_of slot) (kept_of (after slot mid)) h f active refl (ap (built query_in) first.named) (ap (built (cursor_in (read_by st w s f))) first.named)
            (ap is_some there) closed_there;
        fits = fits_mid;
      }

      takes_in : (count : ℕ) (left : Option OpenCursor) (reply : Reply) → GivesRows cursor count left reply (read_by st w s f)
          → (new : Cursors) (was : Option OpenCursor) → Replaced mid new left was
          → Leaves rules s (Asked.Rows count) reply st w slot st w (after slot new)
      takes_in count None reply gives new was second =
          subst (λ (r : Reply). Leaves rules s (Asked.Rows count) r st w slot st w (after slot new)) (sym gives.1) (record {
            moves = takes_not rules st w s (kept_of slot) (kept_of (after slot new)) h f active refl (ap (built query_in) (second.named ∙ first.named))
                (ap (built (cursor_in (read_by st w s f))) (second.named ∙ first.named))
                count gives.0 (cursor_of cursor (read_by st w s f)) there gives.2 (ap (λ (o : Option OpenCursor). cursor_if o (read_by st w s f)) second.puts);
            fits = subst (λ o. FitsIn st w s o new) (sym active) (stands_put mid new None was second (read_by st w s f) mid_stands tt);
          })
      takes_in count (Some to) reply gives new was second =
          subst (λ (r : Reply). Leaves rules s (Asked.Rows count) r st w slot st w (after slot new)) (sym gives.1) (record {
            moves = takes rules st w s (kept_of slot) (kept_of (after slot new)) h f active refl (ap (built query_in) (second.named ∙ first.named))
                (ap (built (cursor_in (read_by st w s f))) (second.named ∙ first.named))
                count gives.0 (cursor_of cursor (read_by st w s f)) (cursor_of to (read_by st w s f)) there gives.2
                (ap (λ (o : Option OpenCursor). cursor_if o (read_by st w s f)) second.puts);
            fits = subst (λ o. FitsIn st w s o new) (sym active) (stands_put mid new (Some to) was second (read_by st w s f) mid_stands gives.3);
          })

    pub closing : Leaves rules s Asked.Close says.Done st w slot st w (after slot mid)
    closing = let found = active_in (get st.readers s) holds in closes_in found.0 found.1

    pub taking : (count : ℕ) (view : View) → view ≡ view_in w s → (left : Option OpenCursor) (reply : Reply)
        → (Fits cursor (seen_by st view) → GivesRows cursor count left reply (seen_by st view))
        → (new : Cursors) (was : Option OpenCursor) → Replaced mid new left was
        → Leaves rules s (Asked.Rows count) reply st w slot st w (after slot new)
    taking count view seen left reply gives =
        let found = active_in (get st.readers s) holds in
        let here = seen_as st w s view found.0 seen found.1 in
        takes_in found.0 found.1 count left reply
        (subst (λ (contents : Contents). Fits cursor contents → GivesRows cursor count left reply contents) here gives (fits found.0 found.1))

  -- whatever was open
  module _ (count : ℕ) (view : View) (seen : view ≡ view_in w s) (Sound : Type 0) (sound : Sound) (left : Option OpenCursor) (reply : Reply) where
    abbrev Taken : Option OpenCursor → Type 0
    Taken o = MatchOption o ((left ≡ None) × (reply ≡ says.Refused CursorState))
        (λ cursor. Sound → Fits cursor (seen_by st view) → GivesRows cursor count left reply (seen_by st view))

    taking_as : (o : Option OpenCursor) → held ≡ o → Taken o → (new : Cursors) (was : Option OpenCursor) → Replaced mid new left was
        → Leaves rules s (Asked.Rows count) reply st w slot st w (after slot new)
    taking_as None is gives new was second = taking_none is count reply gives.1 new was (subst (λ (l : Option OpenCursor). Replaced mid new l was) gives.0 second)
    taking_as (Some cursor) is gives new was second = taking cursor is count view seen left reply (gives sound) new was second

    -- over a store that shows the same behind it
    pub taking_held : Taken held → (new : Cursors) (was : Option OpenCursor) → Replaced mid new left was → (behind : Stored) → behind ≡ st
        → Leaves rules s (Asked.Rows count) reply st w slot behind w (after slot new)
    taking_held gives new was second behind same =
        subst (λ (x : Stored). Leaves rules s (Asked.Rows count) reply st w slot x w (after slot new)) (sym same) (taking_as held refl gives new was second)

-- ---- it is opened

pub opens_leaves : (rules : Rules) (st : Stored) (w : Option ℕ) (s : ℕ) (slot : Slot) (text : Bytes) (h : IsOrderly st w) → Holds st w s slot.cursors
    → (x : OrderedQuery) → IsRead text (asks.Query x) → (b : Bool) → ((contents : Contents) → b ≡ is_some ((kept_of slot).unnamed contents)) → b ≡ false
    → (mid : Stored) (view : View) → mid ≡ begun st s → view ≡ view_in w s → (cursor : OpenCursor) → OpensAs rules (seen_by mid view) x cursor
    → (new : Stored) → new ≡ mid → (cursors : Cursors) (was : Option OpenCursor) → Replaced slot.cursors cursors (Some cursor) was
    → Leaves rules s (Asked.Query text) says.Done st w slot new w (after slot cursors)
opens_leaves rules st w s slot text h holds x read b is closed mid view begins seen cursor opens new e cursors was put = record {
  moves = moves rules st w s (kept_of slot) text h (closed_in st w s (get st.readers s) slot holds) x read b is closed mid view begins seen cursor opens
      (kept_of (after slot cursors)) new refl (ap (built query_in) put.named) (ap (built (cursor_in (read_once st w s))) put.named)
      (ap (λ (o : Option OpenCursor). cursor_if o (read_once st w s)) put.puts) e;
  fits = fits_put st new w s slot.cursors cursors (Some cursor) (e ∙ begins) (stands_put slot.cursors cursors (Some cursor) was put)
      (subst (λ (contents : Contents). Fits cursor contents) (ap (λ (y : Stored). seen_by y view) begins ∙ ap (λ (v : View). seen_by (begun st s) v) seen ∙ sees_contents st w s h) opens.begins.fits)
      h holds;
}
