-- DECLARE, OPEN, FETCH and CLOSE are steps.
use Rattle.std.proofs.Common.{◌≡◌, ◌⊎◌, ◌<◌, ◌≤◌, ℕ, Bool, true, false, cond, [], ◌∷◌, Option, Some, None, refl, sym, ap, subst, ◌∙◌, inl, inr, is_some}
use Rattle.std.proofs.lemmas.Cmp.{nat_list_cmp_total}
use Rattle.std.specs.FinMap.{FinMap, contains_key, get, get-empty, get-insert, get-remove, insert, len, nat_cmp-IsAntisymmetric, remove, same_map, slice_cmp-IsAntisymmetric}
use Rattle.std.specs.Ordering.{eq_by_cmp, is_eq}
use Rattle.std.specs.declared.cmp.Ordering.{Ordering}
use Rattle.std.specs.declared.cmp.Ordering.TheVariants.{Less, Equal, Greater}
use Rattle.refusals.specs.declared.limit.Limit.TheVariants as limit
use Rattle.refusals.specs.declared.refusal.Refusal.{Refusal}
use Rattle.refusals.specs.declared.refusal.Refusal.TheVariants.{CursorState, Exceeded, Memory}
use Rattle.sqlval.specs.Comparison.{text_order}
use Rattle.sqlval.specs.Value.{Row}
use Rattle.lexer.specs.Token.{Bytes}
use Rattle.ast.specs.declared.statement.DeclareCursor.{DeclareCursor}
use Rattle.ast.specs.declared.statement.Statement.TheVariants as asks
use Rattle.denote.specs.Database.{Name}
use Rattle.replies.specs.declared.reply.Reply.TheVariants as says
use Rattle.statement_definitions.specs.Reading.{IsRead}
use Rattle.statement_definitions.specs.Rollback.{IsRollback}
use Rattle.session_definitions.specs.Asked.{Asked}
use Rattle.session_definitions.specs.Cursor.{IsAtEnd, MayGive, having_given}
use Rattle.session_definitions.specs.Effect.{Effect}
use Rattle.session_definitions.specs.Rules.{Rules}
use Rattle.session_definitions.specs.Statements.{ClosesIn, Closes, Declares, Fetches, FetchesIn, most_cursors}
use Rattle.session_definitions.specs.Step.{Replies, Withholds}
use Rattle.session_definitions.specs.Transactions.{active, is_open_in, with_cursor, without_cursor}
use Rattle.session_definitions.specs.World.{Cursor, Transaction}
use Rattle.store.specs.Contents.{Contents}
use Rattle.store.specs.Stored.{Found, Stored}
use Rattle.cursors.specs.Opened.{HasNext, MayTake}
use Rattle.sessions.specs.Opened.{told}
use Rattle.transactions.specs.Moves.{IsClosedIn, Moves}
use Rattle.transactions.specs.Orderly.{IsOrderly}
use Rattle.transactions.specs.Shown.{Kept, read_by, session_in, session_of, settled, transaction_of}
use Rattle.transactions.proofs.Orders.{same}
use Rattle.transactions.proofs.Steps.{Answered, becomes_still, has_declared, has_transaction, nothing_moves, stays_still, withholds_memory}

-- ---- maps of names

is_equal : (r : Ordering) → is_eq r ≡ true → r ≡ Equal
is_equal Less e = cc
is_equal Equal e = refl
is_equal Greater e = cc

from_tie : (a b : Name) → eq_by_cmp text_order a b ≡ true → a ≡ b
from_tie a b e = slice_cmp-IsAntisymmetric nat_cmp-IsAntisymmetric a b (is_equal (text_order a b) e)

same_maps : {X : Type 0} (m n : FinMap text_order X) → ((q : Name) → get m q ≡ get n q) → m ≡ n
same_maps m n is = same_map nat_list_cmp_total (slice_cmp-IsAntisymmetric nat_cmp-IsAntisymmetric) m n is

-- what was taken out is put again
pub put_again : {X : Type 0} (m : FinMap text_order X) (name : Name) (x : X) → get m name ≡ Some x → insert (remove m name) name x ≡ m
put_again m name x there = same_maps _ _ (λ q. get-insert nat_list_cmp_total (remove m name) name x q
    ∙ ap (cond (eq_by_cmp text_order q name) (Some x)) (get-remove nat_list_cmp_total m name q)
    ∙ by q (eq_by_cmp text_order q name) refl)
  where
    by : (q : Name) (b : Bool) → eq_by_cmp text_order q name ≡ b → cond b (Some x) (cond b None (get m q)) ≡ get m q
    by q true e = sym there ∙ ap (get m) (sym (from_tie q name e))
    by q false e = refl

-- something else is put in its place
pub put_instead : {X : Type 0} (m : FinMap text_order X) (name : Name) (x : X) → insert (remove m name) name x ≡ insert m name x
put_instead m name x = same_maps _ _ (λ q. get-insert nat_list_cmp_total (remove m name) name x q
    ∙ ap (cond (eq_by_cmp text_order q name) (Some x)) (get-remove nat_list_cmp_total m name q)
    ∙ by q (eq_by_cmp text_order q name)
    ∙ sym (get-insert nat_list_cmp_total m name x q))
  where
    by : (q : Name) (b : Bool) → cond b (Some x) (cond b None (get m q)) ≡ cond b (Some x) (get m q)
    by q true = refl
    by q false = refl

-- taking out twice
pub remove_twice : {X : Type 0} (m : FinMap text_order X) (name : Name) → remove (remove m name) name ≡ remove m name
remove_twice m name = same_maps _ _ (λ q. get-remove nat_list_cmp_total (remove m name) name q
    ∙ ap (cond (eq_by_cmp text_order q name) None) (get-remove nat_list_cmp_total m name q)
    ∙ by q (eq_by_cmp text_order q name)
    ∙ sym (get-remove nat_list_cmp_total m name q))
  where
    by : (q : Name) (b : Bool) → cond b None (cond b None (get m q)) ≡ cond b None (get m q)
    by q true = refl
    by q false = refl

some_is : {X : Type 0} (o : Option X) (x : X) → o ≡ Some x → is_some o ≡ true
some_is o x e = ap is_some e

none_is : {X : Type 0} (o : Option X) → is_some o ≡ false → o ≡ None
none_is None e = refl
none_is (Some x) e = cc

module _ (rules : Rules) (st : Stored) (w : Option ℕ) (s : ℕ) (kept other : Kept) (text : Bytes) (h : IsOrderly st w) where
  -- whether the cursor of a name is opened in the session
  open_in : (name : Name) (b : Bool) → ((contents : Contents) → b ≡ contains_key (kept.cursors contents) name) → (o : Option Found) → IsClosedIn o kept
      → is_open_in (session_in st w s kept o).transaction name ≡ b
  open_in name b is None shut =
      sym (is st.last ∙ ap (λ m. contains_key (m st.last) name) shut.0 ∙ ap is_some (get-empty {X = Cursor} text_order name))
  open_in name b is (Some f) shut = sym (is (read_by st w s f))

  -- ---- DECLARE

  module _ (x : DeclareCursor) (read : IsRead text (asks.DeclareCursor x)) (shut : IsClosedIn (get st.readers s) kept)
      (b : Bool) (is : (contents : Contents) → b ≡ contains_key (kept.cursors contents) x.cursor) where
    is_open_here : is_open_in (session_of st w s kept).transaction x.cursor ≡ b
    is_open_here = open_in x.cursor b is (get st.readers s) shut

    pub declared_already : b ≡ true → Moves rules s text (says.Refused CursorState) st w kept st w (settled (get st.readers s) kept)
    declared_already e =
        nothing_moves rules st w s kept (Asked.Text text) (says.Refused CursorState) st h
        (Replies.carried_out (asks.DeclareCursor x) read (Declares.open_already (is_open_here ∙ e) (record { says_so = refl; leaves_all = refl }))) (same st st refl)

    pub declared_not : (refusal : Refusal) → b ≡ false → (IsRollback text → ⊥)
        → (refusal ≡ Memory) ⊎ ((refusal ≡ Exceeded limit.Cursors) × (contains_key kept.declared x.cursor ≡ false) × (most_cursors ≤ len kept.declared))
        → Answered rules st w s kept (Asked.Text text) (says.Refused refusal) Effect.Nothing
    declared_not refusal e rollback (inl memory) = withholds_memory rules st w s kept text refusal rollback memory
    declared_not refusal e rollback (inr (exceeded, new, many)) =
        rw exceeded (Replies.carried_out (asks.DeclareCursor x) read (Declares.too_many (is_open_here ∙ e)
        (ap (λ m. contains_key m x.cursor) (has_declared st w s kept) ∙ new) (subst (λ m. most_cursors ≤ len m) (sym (has_declared st w s kept)) many)
        (record { says_so = refl; leaves_all = refl })))

    pub declares : b ≡ false → (contains_key kept.declared x.cursor ≡ true) ⊎ (len kept.declared < most_cursors)
        → other.mode ≡ kept.mode → other.declared ≡ insert kept.declared x.cursor x.query → ((contents : Contents) → other.cursors contents ≡ kept.cursors contents)
        → ((contents : Contents) → other.unnamed contents ≡ kept.unnamed contents)
        → Moves rules s text says.Done st w kept st w (settled (get st.readers s) other)
    declares e room mode declared cursors unnamed =
        becomes_still rules st w s kept other (Asked.Text text) says.Done (record (session_of st w s kept) { declared = insert (session_of st w s kept).declared x.cursor x.query }) st h
        (Replies.carried_out (asks.DeclareCursor x) read (Declares.declares (is_open_here ∙ e) (room_there room) refl refl)) (here (get st.readers s)) refl
      where
        room_there : (contains_key kept.declared x.cursor ≡ true) ⊎ (len kept.declared < most_cursors)
            → (contains_key (session_of st w s kept).declared x.cursor ≡ true) ⊎ (len (session_of st w s kept).declared < most_cursors)
        room_there room = subst (λ m. (contains_key m x.cursor ≡ true) ⊎ (len m < most_cursors)) (sym (has_declared st w s kept)) room

        here : (o : Option Found) → session_in st w s other o ≡ record (session_in st w s kept o) { declared = insert (session_in st w s kept o).declared x.cursor x.query }
        here None = λ i. record { declared = declared i; next = mode i; transaction = None }
        here (Some f) = λ i. record {
          declared = declared i;
          next = (session_in st w s kept (Some f)).next;
          transaction = Some (record (transaction_of st w s kept f) { mode = mode i; cursors = cursors (read_by st w s f) i; unnamed = unnamed (read_by st w s f) i });
        }

  -- ---- FETCH and CLOSE, in a session with a transaction

  module _ (f : Found) (active_there : get st.readers s ≡ Some f) (name : Name) where
    abbrev reads : Contents
    reads = read_by st w s f

    abbrev here_in : Transaction
    here_in = transaction_of st w s kept f

    -- the session once its cursors of names are these
    with_cursors : (cursors : FinMap text_order Cursor) → other.mode ≡ kept.mode → other.declared ≡ kept.declared → other.cursors (read_by st w s f) ≡ cursors
        → other.unnamed (read_by st w s f) ≡ kept.unnamed (read_by st w s f)
        → session_of st w s other ≡ active (session_of st w s kept) (record (transaction_of st w s kept f) { cursors = cursors })
    with_cursors cursors mode declared is unnamed =
        ap (session_in st w s other) active_there
        ∙ (λ i. record {
          declared = declared i;
          next = (session_in st w s other (Some f)).next;
          transaction = Some (record (transaction_of st w s kept f) { mode = mode i; cursors = is i; unnamed = unnamed i });
        })
        ∙ ap (λ o. active (session_in st w s kept o) (record (transaction_of st w s kept f) { cursors = cursors })) (sym active_there)

    fetched : (reply : _) (effect : Effect) → IsRead text (asks.Fetch name) → FetchesIn (session_of st w s kept) (transaction_of st w s kept f) name reply effect
        → Answered rules st w s kept (Asked.Text text) reply effect
    fetched reply effect read fetches = Replies.carried_out (asks.Fetch name) read
        (subst (λ (t : Option Transaction). Fetches (session_of st w s kept) t name reply effect) (sym (has_transaction st w s kept f active_there)) fetches)

    module _ (read : IsRead text (asks.Fetch name)) (cursor : Cursor) (there : get (kept.cursors (read_by st w s f)) name ≡ Some cursor)
        (mode : other.mode ≡ kept.mode) (declared : other.declared ≡ kept.declared) (unnamed : other.unnamed (read_by st w s f) ≡ kept.unnamed (read_by st w s f)) where
      pub gives : (row : Row) → MayGive cursor row → other.cursors (read_by st w s f) ≡ insert (remove (kept.cursors (read_by st w s f)) name) name (having_given cursor (row ∷ []))
          → Moves rules s text (says.Row row) st w kept st w (settled (get st.readers s) other)
      gives row may is =
          becomes_still rules st w s kept other (Asked.Text text) (says.Row row) (active (session_of st w s kept) (with_cursor (transaction_of st w s kept f) name (having_given cursor (row ∷ [])))) st h
          (fetched (says.Row row) _ read (FetchesIn.gives cursor row there may refl refl))
          (with_cursors (insert (kept.cursors (read_by st w s f)) name (having_given cursor (row ∷ []))) mode declared
          (is ∙ put_instead (kept.cursors (read_by st w s f)) name (having_given cursor (row ∷ []))) unnamed) refl

      pub ends : IsAtEnd cursor → other.cursors (read_by st w s f) ≡ insert (remove (kept.cursors (read_by st w s f)) name) name cursor
          → Moves rules s text says.EndOfRows st w kept st w (settled (get st.readers s) other)
      ends at_end is =
          stays_still rules st w s kept other (Asked.Text text) says.EndOfRows st h
          (fetched says.EndOfRows Effect.Nothing read (FetchesIn.ends cursor there at_end refl refl))
          (with_cursors (kept.cursors (read_by st w s f)) mode declared (is ∙ put_again (kept.cursors (read_by st w s f)) name cursor there) unnamed
          ∙ as_it_was) refl
        where
          as_it_was : active (session_of st w s kept) (transaction_of st w s kept f) ≡ session_of st w s kept
          as_it_was = ap (λ o. active (session_in st w s kept o) (transaction_of st w s kept f)) active_there ∙ ap (session_in st w s kept) (sym active_there)

      pub takes : (next : Option Row) (after : Cursor) → HasNext next cursor after
          → other.cursors (read_by st w s f) ≡ insert (remove (kept.cursors (read_by st w s f)) name) name after
          → Moves rules s text (told next) st w kept st w (settled (get st.readers s) other)
      takes None after step is = ends step.0 (is ∙ ap (insert (remove (kept.cursors (read_by st w s f)) name) name) step.1)
      takes (Some row) after step is = gives row step.0 (is ∙ ap (insert (remove (kept.cursors (read_by st w s f)) name) name) step.1)

      -- a fault, or what may stand in place of any reply
      pub takes_not : (refusal : Refusal) → MayTake refusal 1 cursor → other.cursors (read_by st w s f) ≡ remove (kept.cursors (read_by st w s f)) name
          → Moves rules s text (says.Refused refusal) st w kept st w (settled (get st.readers s) other)
      takes_not refusal may is =
          becomes_still rules st w s kept other (Asked.Text text) (says.Refused refusal) (active (session_of st w s kept) (without_cursor (transaction_of st w s kept f) name)) st h
          (as_refused may) (with_cursors (remove (kept.cursors (read_by st w s f)) name) mode declared is unnamed) refl
        where
          as_refused : MayTake refusal 1 cursor
              → Answered rules st w s kept (Asked.Text text) (says.Refused refusal) (Effect.Becomes (active (session_of st w s kept) (without_cursor (transaction_of st w s kept f) name)))
          as_refused (inl reserved) =
              Replies.withheld (Withholds.closes refusal (transaction_of st w s kept f) name reserved read (has_transaction st w s kept f active_there) (ap is_some there) refl refl)
          as_refused (inr raised) =
              fetched (says.Refused refusal) _ read (FetchesIn.raises cursor raised.1.0 there raised.1.2 (ap (λ (r : Refusal). says.Refused r) raised.1.1) refl)

    pub closes : IsRead text (asks.CloseCursor name) → contains_key (kept.cursors (read_by st w s f)) name ≡ true
        → other.mode ≡ kept.mode → other.declared ≡ kept.declared → other.unnamed (read_by st w s f) ≡ kept.unnamed (read_by st w s f)
        → other.cursors (read_by st w s f) ≡ remove (kept.cursors (read_by st w s f)) name
        → Moves rules s text says.Done st w kept st w (settled (get st.readers s) other)
    closes read opened mode declared unnamed is =
        becomes_still rules st w s kept other (Asked.Text text) says.Done (active (session_of st w s kept) (without_cursor (transaction_of st w s kept f) name)) st h
        (Replies.carried_out (asks.CloseCursor name) read
        (subst (λ (t : Option Transaction). Closes (session_of st w s kept) t name says.Done (Effect.Becomes (active (session_of st w s kept) (without_cursor (transaction_of st w s kept f) name))))
        (sym (has_transaction st w s kept f active_there)) (ClosesIn.closes opened refl refl)))
        (with_cursors (remove (kept.cursors (read_by st w s f)) name) mode declared is unnamed) refl

-- ---- where the cursor is not opened

module _ (rules : Rules) (st : Stored) (w : Option ℕ) (s : ℕ) (kept : Kept) (text : Bytes) (h : IsOrderly st w) (shut : IsClosedIn (get st.readers s) kept) (name : Name) where
  not_fetched : (o : Option Found) → IsClosedIn o kept → ((contents : Contents) → get (kept.cursors contents) name ≡ None)
      → Fetches (session_of st w s kept) (session_in st w s kept o).transaction name (says.Refused CursorState) Effect.Nothing
  not_fetched None closed none = record { says_so = refl; leaves_all = refl }
  not_fetched (Some f) closed none = FetchesIn.not_open (none (read_by st w s f)) (record { says_so = refl; leaves_all = refl })

  pub fetches_none : IsRead text (asks.Fetch name) → ((contents : Contents) → get (kept.cursors contents) name ≡ None)
      → Moves rules s text (says.Refused CursorState) st w kept st w (settled (get st.readers s) kept)
  fetches_none read none =
      nothing_moves rules st w s kept (Asked.Text text) (says.Refused CursorState) st h
      (Replies.carried_out (asks.Fetch name) read (not_fetched (get st.readers s) shut none)) (same st st refl)

  not_closed : (o : Option Found) → ((contents : Contents) → contains_key (kept.cursors contents) name ≡ false)
      → Closes (session_of st w s kept) (session_in st w s kept o).transaction name (says.Refused CursorState) Effect.Nothing
  not_closed None none = record { says_so = refl; leaves_all = refl }
  not_closed (Some f) none = ClosesIn.not_open (none (read_by st w s f)) (record { says_so = refl; leaves_all = refl })

  pub closes_none : IsRead text (asks.CloseCursor name) → ((contents : Contents) → contains_key (kept.cursors contents) name ≡ false)
      → Moves rules s text (says.Refused CursorState) st w kept st w (settled (get st.readers s) kept)
  closes_none read none =
      nothing_moves rules st w s kept (Asked.Text text) (says.Refused CursorState) st h
      (Replies.carried_out (asks.CloseCursor name) read (not_closed (get st.readers s) none)) (same st st refl)
