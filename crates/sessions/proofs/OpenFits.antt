-- OPEN leaves cursors that fit what the session reads.
use Rattle.std.proofs.Common.{◌≡◌, ℕ, Bool, false, Option, Some, refl, ap, subst, ◌∙◌, is_some}
use Rattle.std.specs.FinMap.{contains_key, get}
use Rattle.lexer.specs.Token.{Bytes}
use Rattle.ast.specs.declared.statement.OrderedQuery.{OrderedQuery}
use Rattle.ast.specs.declared.statement.Statement.TheVariants as asks
use Rattle.denote.specs.Database.{Name}
use Rattle.replies.specs.declared.reply.Reply.TheVariants as says
use Rattle.statement_definitions.specs.Reading.{IsRead}
use Rattle.session_definitions.specs.Asked.{Asked}
use Rattle.session_definitions.specs.Rules.{Rules}
use Rattle.store.specs.declared.view.View.{View}
use Rattle.store.specs.Contents.{Contents}
use Rattle.store.specs.Stored.{Stored, begun}
use Rattle.store.specs.View.{seen_by}
use Rattle.transactions.specs.Orderly.{IsOrderly}
use Rattle.transactions.specs.Shown.{view_in}
use Rattle.transactions.proofs.Steps.{read_once}
use Rattle.cursors.specs.declared.cursor.OpenCursor.{OpenCursor}
use Rattle.cursors.specs.declared.held.Cursors.{Cursors}
use Rattle.cursors.specs.ByName.{cursor_if, declared_of, opened_of}
use Rattle.cursors.specs.Opened.{Fits}
use Rattle.sessions.specs.declared.slots.Slot.{Slot}
use Rattle.sessions.specs.Held.{Holds, Leaves}
use Rattle.sessions.specs.Numbers.{kept_of}
use Rattle.sessions.specs.Opened.{OpensAs}
use Rattle.sessions.proofs.Exchanges.{Exchanged}
use Rattle.sessions.proofs.Holding.{closed_in, fits_put}
use Rattle.sessions.proofs.OpenSteps.{moves}
use Rattle.sessions.proofs.QuerySteps.{sees_contents}

pub opens_leaves : (rules : Rules) (st : Stored) (w : Option ℕ) (s : ℕ) (slot : Slot) (text : Bytes) (name : Name) → IsOrderly st w → Holds st w s slot.cursors
    → IsRead text (asks.OpenCursor name) → (x : OrderedQuery) → get (declared_of slot.cursors) name ≡ Some x → (b : Bool)
    → ((contents : Contents) → b ≡ contains_key (opened_of slot.cursors contents) name) → b ≡ false → (mid : Stored) (view : View) → mid ≡ begun st s → view ≡ view_in w s
    → (cursor : OpenCursor) → OpensAs rules (seen_by mid view) x cursor → (new : Stored) → new ≡ mid → (cursors : Cursors) (was : Option OpenCursor)
    → Exchanged slot.cursors cursors name (Some cursor) was
    → Leaves rules s (Asked.Text text) says.Done st w slot new w (record slot { cursors = cursors })
opens_leaves rules st w s slot text name h holds read x declared b is closed mid view begins seen cursor opens new e cursors was put = record {
  moves = moves rules st w s (kept_of slot) text name h (closed_in st w s (get st.readers s) slot holds) read x declared b is closed mid view begins seen cursor opens
      (kept_of (record slot { cursors = cursors })) new refl put.declared (put.opened (read_once st w s) (ap is_some declared))
      (ap (λ (o : Option OpenCursor). cursor_if o (read_once st w s)) put.unnamed) e;
  fits = fits_put st new w s slot.cursors cursors (Some cursor) (e ∙ begins) put.fits
      (subst (λ (contents : Contents). Fits cursor contents) (ap (λ (y : Stored). seen_by y view) begins ∙ ap (λ (v : View). seen_by (begun st s) v) seen ∙ sees_contents st w s h) opens.begins.fits)
      h holds;
}
