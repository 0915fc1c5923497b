-- FETCH and CLOSE take the cursor out of those that a session keeps.
use Rattle.std.proofs.Common.{◌≡◌, ℕ, Bool, true, false, cond, Option, Some, None, refl, sym, ap, subst, ◌∙◌, is_some}
use Rattle.std.specs.Prelude.{IsSome, MatchOption, ⊤}
use Rattle.std.specs.FinMap.{contains_key, get, insert, remove}
use Rattle.lexer.specs.Token.{Bytes}
use Rattle.ast.specs.declared.statement.Statement.TheVariants as asks
use Rattle.denote.specs.Database.{Name}
use Rattle.replies.specs.declared.reply.Reply.{Reply}
use Rattle.replies.specs.declared.reply.Reply.TheVariants as says
use Rattle.statement_definitions.specs.Reading.{IsRead}
use Rattle.session_definitions.specs.Rules.{Rules}
use Rattle.session_definitions.specs.World.{is_session}
use Rattle.store.specs.declared.view.View.{View}
use Rattle.store.specs.Contents.{Contents}
use Rattle.store.specs.Stored.{Found, Stored}
use Rattle.store.specs.View.{found_in, seen_by}
use Rattle.transactions.specs.Orderly.{IsOrderly}
use Rattle.transactions.specs.Shown.{read_by, view_in}
use Rattle.cursors.specs.declared.cursor.OpenCursor.{OpenCursor}
use Rattle.cursors.specs.declared.held.Cursors.{Cursors}
use Rattle.cursors.specs.ByName.{FitsIf, IsShut, StandsOver, cursor_if, declared_of, opened_of, put_if}
use Rattle.cursors.specs.Opened.{Fits, cursor_of}
use Rattle.sessions.specs.declared.slots.Slot.{Slot}
use Rattle.sessions.specs.Held.{FitsIn, Holds, HoldsIn, Leaves}
use Rattle.sessions.specs.Numbers.{kept_of}
use Rattle.sessions.specs.Opened.{GivesNext}
use Rattle.session_definitions.specs.Asked.{Asked}
use Rattle.sessions.proofs.CursorSteps.{closes, remove_twice, takes, takes_not}

-- what an exchange does
pub record Exchanged (old new : Cursors) (name : Name) (given held : Option OpenCursor) : Type 0 where
  pub opened : (contents : Contents) → IsSome (get (declared_of old) name) → opened_of new contents ≡ put_if (opened_of old contents) name (cursor_if given contents)
  pub was : (contents : Contents) → cursor_if held contents ≡ get (opened_of old contents) name
  pub declared : declared_of new ≡ declared_of old
  pub unnamed : new.unnamed ≡ old.unnamed
  pub fits : (contents : Contents) → StandsOver old contents → FitsIf given contents → StandsOver new contents
  pub fitted : (contents : Contents) → StandsOver old contents → FitsIf held contents
  pub none : IsShut old → held ≡ None
  pub found : IsSome held → IsSome (get (declared_of old) name)

-- whether a cursor stood there
abbrev IsOpenAs : Cursors → Name → Bool → Type 0
IsOpenAs cursors name b = (contents : Contents) → b ≡ contains_key (opened_of cursors contents) name

pub held_some : (cursor : Option OpenCursor) (contents : Contents) → is_some (cursor_if cursor contents) ≡ is_some cursor
held_some None contents = refl
held_some (Some cursor) contents = refl

-- it stood there where the cursor of the name is opened
pub stood : (old new : Cursors) (name : Name) (given held : Option OpenCursor) (b : Bool) (contents : Contents) → Exchanged old new name given held → IsOpenAs old name b → is_some held ≡ b
stood old new name given held b contents e is = sym (held_some held contents) ∙ ap is_some (e.was contents) ∙ sym (is contents)

pub is_held : (held : Option OpenCursor) → is_some held ≡ true → (cursor : OpenCursor) × (held ≡ Some cursor)
is_held None e = absurd (cc)
is_held (Some cursor) e = (cursor, refl)

pub not_there : {X : Type 0} (o : Option X) → is_some o ≡ false → o ≡ None
not_there None e = refl
not_there (Some x) e = cc

pub none_not : {X : Type 0} (held : Option OpenCursor) → held ≡ None → is_some held ≡ true → X
none_not held e is = let bad : false ≡ true = sym (ap is_some e) ∙ is in absurd (cc)

-- what a session with a transaction sees is what that reads
pub seen_as : (st : Stored) (w : Option ℕ) (s : ℕ) (view : View) (f : Found) → view ≡ view_in w s → get st.readers s ≡ Some f → seen_by st view ≡ read_by st w s f
seen_as st w s view f seen active = ap (seen_by st) seen ∙ by (is_session s w)
  where
    by : (b : Bool) → seen_by st (cond b View.Working (View.Found s)) ≡ cond b st.working f.contents
    by true = refl
    by false = ap (λ o. found_in st.last o) active

module _ (rules : Rules) (st : Stored) (w : Option ℕ) (s : ℕ) (text : Bytes) (h : IsOrderly st w) (slot : Slot) (holds : Holds st w s slot.cursors) (name : Name)
    (mid : Cursors) (held : Option OpenCursor) (first : Exchanged slot.cursors mid name None held) (cursor : OpenCursor) (is : held ≡ Some cursor) where
  declared_there : IsSome (get (declared_of slot.cursors) name)
  declared_there = first.found (ap is_some is)

  -- a session with an open cursor has a transaction
  active_in : (o : Option Found) → HoldsIn st w s o slot.cursors → (f : Found) × (o ≡ Some f)
  active_in None shut = none_not held (first.none shut) (ap is_some is)
  active_in (Some f) stands = (f, refl)

  abbrev after : Cursors → Slot
  after cursors = record slot { cursors = cursors }

  module _ (f : Found) (active : get st.readers s ≡ Some f) where
    abbrev reads : Contents
    reads = read_by st w s f

    stands : StandsOver slot.cursors (read_by st w s f)
    stands = subst (λ o. HoldsIn st w s o slot.cursors) active holds

    fits : Fits cursor (read_by st w s f)
    fits = subst (λ (o : Option OpenCursor). FitsIf o (read_by st w s f)) is (first.fitted (read_by st w s f) stands)

    there : get (opened_of slot.cursors (read_by st w s f)) name ≡ Some (cursor_of cursor (read_by st w s f))
    there = sym (first.was (read_by st w s f)) ∙ ap (λ (o : Option OpenCursor). cursor_if o (read_by st w s f)) is

    mid_stands : StandsOver mid (read_by st w s f)
    mid_stands = first.fits (read_by st w s f) stands tt

    unnamed_mid : (kept_of (after mid)).unnamed (read_by st w s f) ≡ (kept_of slot).unnamed (read_by st w s f)
    unnamed_mid = ap (λ (o : Option OpenCursor). cursor_if o (read_by st w s f)) first.unnamed

    taken_out : opened_of mid (read_by st w s f) ≡ remove (opened_of slot.cursors (read_by st w s f)) name
    taken_out = first.opened (read_by st w s f) declared_there

    fits_mid : FitsIn st w s (get st.readers s) mid
    fits_mid = subst (λ o. FitsIn st w s o mid) (sym active) mid_stands

    closes_in : IsRead text (asks.CloseCursor name) → Leaves rules s (Asked.Text text) says.Done st w slot st w (after mid)
    closes_in read = record {
      moves = closes rules st w s (kept_of slot) (kept_of (after mid)) text h f active name read (ap is_some there) refl first.declared unnamed_mid taken_out;
      fits = fits_mid;
    }

    declared_mid : IsSome (get (declared_of mid) name)
    declared_mid = subst (λ m. IsSome (get m name)) (sym first.declared) declared_there

    fetches_in : IsRead text (asks.Fetch name) → (left : Option OpenCursor) (reply : Reply) → GivesNext cursor left reply (read_by st w s f)
        → (new : Cursors) (was : Option OpenCursor) → Exchanged mid new name left was
        → Leaves rules s (Asked.Text text) reply st w slot st w (after new)
    fetches_in read None reply gives new was second =
        subst (λ (r : Reply). Leaves rules s (Asked.Text text) r st w slot st w (after new)) (sym gives.1) (record {
          moves = takes_not rules st w s (kept_of slot) (kept_of (after new)) text h f active name read (cursor_of cursor (read_by st w s f)) there refl (second.declared ∙ first.declared)
              (ap (λ (o : Option OpenCursor). cursor_if o (read_by st w s f)) (second.unnamed ∙ first.unnamed)) gives.0 gives.2
              (second.opened (read_by st w s f) declared_mid ∙ ap (λ m. remove m name) taken_out ∙ remove_twice (opened_of slot.cursors (read_by st w s f)) name);
          fits = subst (λ o. FitsIn st w s o new) (sym active) (second.fits (read_by st w s f) mid_stands tt);
        })
    fetches_in read (Some to) reply gives new was second =
        subst (λ (r : Reply). Leaves rules s (Asked.Text text) r st w slot st w (after new)) (sym gives.1) (record {
          moves = takes rules st w s (kept_of slot) (kept_of (after new)) text h f active name read (cursor_of cursor (read_by st w s f)) there refl (second.declared ∙ first.declared)
              (ap (λ (o : Option OpenCursor). cursor_if o (read_by st w s f)) (second.unnamed ∙ first.unnamed)) gives.0 (cursor_of to (read_by st w s f)) gives.2
              (second.opened (read_by st w s f) declared_mid ∙ ap (λ m. insert m name (cursor_of to (read_by st w s f))) taken_out);
          fits = subst (λ o. FitsIn st w s o new) (sym active) (second.fits (read_by st w s f) mid_stands gives.3);
        })

  pub closing : IsRead text (asks.CloseCursor name) → Leaves rules s (Asked.Text text) says.Done st w slot st w (after mid)
  closing read = let found = active_in (get st.readers s) holds in closes_in found.0 found.1 read

  pub fetching : (view : View) → view ≡ view_in w s → IsRead text (asks.Fetch name) → (left : Option OpenCursor) (reply : Reply)
      → (Fits cursor (seen_by st view) → GivesNext cursor left reply (seen_by st view))
      → (new : Cursors) (was : Option OpenCursor) → Exchanged mid new name left was
      → Leaves rules s (Asked.Text text) reply st w slot st w (after new)
  fetching view seen read left reply gives =
      let found = active_in (get st.readers s) holds in
      let here = seen_as st w s view found.0 seen found.1 in
      fetches_in found.0 found.1 read left reply
      (subst (λ (contents : Contents). Fits cursor contents → GivesNext cursor left reply contents) here gives (fits found.0 found.1))

-- FETCH, whatever stood there, over a store that shows the same behind it
pub fetching_held : (rules : Rules) (st : Stored) (w : Option ℕ) (s : ℕ) (text : Bytes) → IsOrderly st w → (slot : Slot) → Holds st w s slot.cursors → (name : Name) (mid : Cursors)
    (held : Option OpenCursor) → Exchanged slot.cursors mid name None held → (b : Bool) → IsOpenAs slot.cursors name b → b ≡ true → IsRead text (asks.Fetch name)
    → (view : View) → view ≡ view_in w s → (Sound : Type 0) → Sound → (left : Option OpenCursor) (reply : Reply)
    → MatchOption held ⊤ (λ cursor. Sound → Fits cursor (seen_by st view) → GivesNext cursor left reply (seen_by st view))
    → (new : Cursors) (was : Option OpenCursor) → Exchanged mid new name left was → (behind : Stored) → behind ≡ st
    → Leaves rules s (Asked.Text text) reply st w slot behind w (record slot { cursors = new })
fetching_held rules st w s text h slot holds name mid held first b is opened read view seen Sound sound left reply gives new was second behind same =
    let found = is_held held (stood slot.cursors mid name None held b st.last first is ∙ opened) in
    subst (λ (x : Stored). Leaves rules s (Asked.Text text) reply st w slot x w (record slot { cursors = new })) (sym same)
    (fetching rules st w s text h slot holds name mid held first found.0 found.1 view seen read left reply
    ((subst (λ (o : Option OpenCursor). MatchOption o ⊤ (λ cursor. Sound → Fits cursor (seen_by st view) → GivesNext cursor left reply (seen_by st view))) found.1 gives) sound) new was second)

-- CLOSE, whatever stood there
pub closing_held : (rules : Rules) (st : Stored) (w : Option ℕ) (s : ℕ) (text : Bytes) → IsOrderly st w → (slot : Slot) → Holds st w s slot.cursors → (name : Name) (mid : Cursors)
    (held : Option OpenCursor) → Exchanged slot.cursors mid name None held → (b : Bool) → IsOpenAs slot.cursors name b → b ≡ true → IsRead text (asks.CloseCursor name)
    → Leaves rules s (Asked.Text text) says.Done st w slot st w (record slot { cursors = mid })
closing_held rules st w s text h slot holds name mid held first b is opened read =
    let found = is_held held (stood slot.cursors mid name None held b st.last first is ∙ opened) in
    closing rules st w s text h slot holds name mid held first found.0 found.1 read
