-- OPEN is a step.
use Rattle.std.proofs.Common.{◌≡◌, ℕ, Bool, true, false, List, [], ◌∷◌, Option, Some, None, Result, Ok, Err, refl, sym, ap, subst, ◌∙◌}
use Rattle.std.specs.FinMap.{contains_key, get, insert}
use Rattle.std.specs.Prelude.{IfOk}
use Rattle.refusals.specs.declared.refusal.Refusal.{Refusal}
use Rattle.refusals.specs.declared.refusal.Refusal.TheVariants.{CursorState}
use Rattle.sqlval.specs.declared.schema.Schema.{Schema}
use Rattle.lexer.specs.Token.{Bytes}
use Rattle.ast.specs.declared.statement.OrderedQuery.{OrderedQuery}
use Rattle.ast.specs.declared.statement.Statement.TheVariants as asks
use Rattle.typing.specs.declared.statement.Typed.TheVariants as does
use Rattle.typing.specs.declared.typed.OrderedQuery as typed
use Rattle.typing.specs.Finding.{Finding, ◌>>=◌, reasons_in}
use Rattle.typing.specs.Finds.{IsReasonOf}
use Rattle.typing.specs.Known.{known}
use Rattle.typing.specs.Order.{ordered_found}
use Rattle.typing.specs.Statement.{answered_found}
use Rattle.algebra.specs.declared.tree.StoredTable.{StoredTable}
use Rattle.algebra.specs.declared.tree.Tree.{Tree}
use Rattle.algebra.specs.OrderKeys.{ordered_outcome}
use Rattle.algebra.specs.Translated.{tree_of_ordered}
use Rattle.query_answers.specs.Answered.{IsTreeOf}
use Rattle.denote.specs.Bag.{Permutes}
use Rattle.denote.specs.Bag.Permutes.{nothing, keeps}
use Rattle.denote.specs.Database.{Database, Name, rows_in}
use Rattle.denote.specs.Outcome.{OrderedOutcome}
use Rattle.denote.specs.Query.{denotes}
use Rattle.denote.specs.SchemaOf.{IsSchemaOf}
use Rattle.replies.specs.declared.reply.Reply.TheVariants as says
use Rattle.statement_definitions.specs.Reading.{IsRead}
use Rattle.statement_definitions.specs.Rollback.{IsRollback}
use Rattle.session_definitions.specs.Asked.{Asked}
use Rattle.session_definitions.specs.Effect.{Effect}
use Rattle.session_definitions.specs.Refusals.{IsReserved}
use Rattle.session_definitions.specs.Rules.{AreRules, Means, Rules}
use Rattle.session_definitions.specs.Statements.{IsSameOutcome, Opens}
use Rattle.session_definitions.specs.Step.{Replies}
use Rattle.session_definitions.specs.Transactions.{active, is_open, with_cursor}
use Rattle.session_definitions.specs.World.{Cursor, Transaction}
use Rattle.store.specs.declared.view.View.{View}
use Rattle.store.specs.Contents.{Contents, database_of}
use Rattle.store.specs.Stored.{Stored, SameButMark, begun}
use Rattle.store.specs.View.{seen_by}
use Rattle.transactions.specs.Moves.{IsClosedIn, Moves}
use Rattle.transactions.specs.Orderly.{IsOrderly}
use Rattle.transactions.specs.Shown.{Kept, session_of, settled, transaction_over, view_in}
use Rattle.transactions.proofs.Obstacles.{runs}
use Rattle.transactions.proofs.Orders.{same}
use Rattle.transactions.proofs.Steps.{Answered, becomes, begun_as, found_once, has_declared, nothing_moves, read_once, runs_over, runs_works, withholds}
use Rattle.cursors.specs.declared.cursor.OpenCursor.{OpenCursor}
use Rattle.cursors.specs.Opened.{BeginsAt, cursor_of}
use Rattle.sessions.specs.Opened.{OpensAs, RefusesOpening}
use Rattle.sessions.proofs.QuerySteps.{sees_contents}
use Rattle.sessions.proofs.Typings.{Against, means}

-- ---- what is found of a query

-- a query that stands for something
pub found_query : (x : OrderedQuery) (schema : Schema) (q : typed.OrderedQuery) → ordered_found (known schema) x ≡ Ok q → answered_found (asks.Query x) schema ≡ Ok (does.Query q)
found_query x schema q e = ap (λ (found : Finding typed.OrderedQuery). found >>= (λ query. Ok (does.Query query))) e

-- a reason against a query is one against its statement
pub reason_found : (x : OrderedQuery) (schema : Schema) (refusal : Refusal) → IsReasonOf (reasons_in (ordered_found (known schema) x)) refusal
    → IsReasonOf (reasons_in (answered_found (asks.Query x) schema)) refusal
reason_found x schema refusal h = by (ordered_found (known schema) x) h
  where
    by : (found : Finding typed.OrderedQuery) → IsReasonOf (reasons_in found) refusal → IsReasonOf (reasons_in (found >>= (λ query. Ok (does.Query query)))) refusal
    by (Ok q) h = h
    by (Err reasons) h = h

-- ---- outcomes

permutes_itself : {X : Type 0} (xs : List X) → Permutes xs xs
permutes_itself [] = nothing
permutes_itself (x ∷ xs) = keeps x (permutes_itself xs)

pub same_outcome : (o p : OrderedOutcome) → o ≡ p → IsSameOutcome o p
same_outcome o p e = subst (λ (q : OrderedOutcome). IsSameOutcome o q) e
    (record { unordered = record { rows = permutes_itself o.unordered.rows; faults = λ x. (λ h. h, λ h. h) }; keys = refl })

-- ---- over a version

pub both_ok : {A E : Type 0} (P Q R : A → Type 0) (result : Result A E) → ((x : A) → P x → Q x → R x) → IfOk result P → IfOk result Q → IfOk result R
both_ok P Q R (Ok x) so p q = so x p q
both_ok P Q R (Err e) so p q = tt

-- the cursor of a tree of a query has the outcome of the query
pub means_as : (contents : Contents) (q : typed.OrderedQuery) (tree : Tree) (cursor : OpenCursor) → cursor.tree ≡ tree → IsTreeOf q tree
    → ((described : List ℕ → StoredTable) → ((name : List ℕ) → (described name).name ≡ name) → (db : Database) (ordered : typed.OrderedQuery)
    → ordered_outcome (rows_in db) (tree_of_ordered described ordered) ≡ denotes db ordered)
    → (cursor_of cursor contents).outcome ≡ denotes (database_of contents) q
means_as contents q tree cursor is of law =
    ap (λ (p : Tree). ordered_outcome (rows_in (database_of contents)) p) (is ∙ of.is) ∙ law of.described of.names (database_of contents) q

pub opens_as : (rules : Rules) (x : OrderedQuery) (schema lent : Schema) (q : typed.OrderedQuery) (old mid : Stored) (view : View) → AreRules rules → lent ≡ schema → mid ≡ old
    → IsSchemaOf schema (database_of (seen_by old view)) → ordered_found (known lent) x ≡ Ok q → (cursor : OpenCursor) → BeginsAt cursor (seen_by mid view)
    → (cursor_of cursor (seen_by mid view)).outcome ≡ denotes (database_of (seen_by mid view)) q → OpensAs rules (seen_by old view) x cursor
opens_as rules x schema lent q old mid view are lent_is same of found cursor begins outcome =
    subst (λ (st : Stored). OpensAs rules (seen_by st view) x cursor) same (record {
      query = q;
      means = means rules (database_of (seen_by mid view)) schema (asks.Query x) (does.Query q) are
          (subst (λ (st : Stored). IsSchemaOf schema (database_of (seen_by st view))) (sym same) of)
          (found_query x schema q (sym (ap (λ (l : Schema). ordered_found (known l) x) lent_is) ∙ found));
      begins = begins;
      outcome = outcome;
    })

pub refuses_wrong : (rules : Rules) (db : Database) (x : OrderedQuery) (refusal : Refusal) → Against rules db (asks.Query x) refusal → RefusesOpening rules db x refusal
refuses_wrong rules db x refusal (Against.wanting e) = RefusesOpening.withheld (subst IsReserved (sym e) tt)
refuses_wrong rules db x refusal (Against.wrong h) = RefusesOpening.wrong h

-- ---- in a session

module _ (rules : Rules) (st : Stored) (w : Option ℕ) (s : ℕ) (kept : Kept) (text : Bytes) (name : Name)
    (h : IsOrderly st w) (shut : IsClosedIn (get st.readers s) kept) (read : IsRead text (asks.OpenCursor name)) where
  -- whether it is opened in the transaction in which OPEN runs
  open_there : (b : Bool) → ((contents : Contents) → b ≡ contains_key (kept.cursors contents) name) → is_open (runs st w s kept) name ≡ b
  open_there b is = ap (λ (t : Transaction). is_open t name) (runs_over st w s kept h shut) ∙ sym (is (read_once st w s))

  declared_there : (o : Option OrderedQuery) → get kept.declared name ≡ o → get (session_of st w s kept).declared name ≡ o
  declared_there o e = ap (λ m. get m name) (has_declared st w s kept) ∙ e

  pub open_already : (b : Bool) → ((contents : Contents) → b ≡ contains_key (kept.cursors contents) name) → b ≡ true
      → Moves rules s text (says.Refused CursorState) st w kept st w (settled (get st.readers s) kept)
  open_already b is e =
      nothing_moves rules st w s kept (Asked.Text text) (says.Refused CursorState) st h
      (Replies.carried_out (asks.OpenCursor name) read (Opens.open_already (open_there b is ∙ e) (record { says_so = refl; leaves_all = refl }))) (same st st refl)

  pub undeclared : get kept.declared name ≡ None → Moves rules s text (says.Refused CursorState) st w kept st w (settled (get st.readers s) kept)
  undeclared none =
      nothing_moves rules st w s kept (Asked.Text text) (says.Refused CursorState) st h
      (Replies.carried_out (asks.OpenCursor name) read (Opens.undeclared (declared_there None none) (record { says_so = refl; leaves_all = refl }))) (same st st refl)

  pub opening_withheld : (refusal : Refusal) (new : Stored) → (IsRollback text → ⊥) → Answered rules st w s kept (Asked.Text text) (says.Refused refusal) Effect.Nothing → SameButMark st new
      → Moves rules s text (says.Refused refusal) st w kept new w (settled (get new.readers s) kept)
  opening_withheld refusal new other answered k = nothing_moves rules st w s kept (Asked.Text text) (says.Refused refusal) new h answered k

  module _ (x : OrderedQuery) (declared : get kept.declared name ≡ Some x) (b : Bool) (is : (contents : Contents) → b ≡ contains_key (kept.cursors contents) name) (closed : b ≡ false)
      (mid : Stored) (view : View) (begins : mid ≡ begun st s) (seen : view ≡ view_in w s) where
    there : seen_by mid view ≡ read_once st w s
    there = ap (λ y. seen_by y view) begins ∙ ap (λ v. seen_by (begun st s) v) seen ∙ sees_contents st w s h

    works : database_of (read_once st w s) ≡ (runs st w s kept).working
    works = sym (runs_works st w s kept h)

    refusing : (refusal : Refusal) → (IsRollback text → ⊥) → RefusesOpening rules (runs st w s kept).working x refusal
        → Answered rules st w s kept (Asked.Text text) (says.Refused refusal) Effect.Nothing
    refusing refusal other (RefusesOpening.withheld reserved) = withholds rules st w s kept (asks.OpenCursor name) text refusal other read refl reserved
    refusing refusal other (RefusesOpening.wrong reason) =
        Replies.carried_out (asks.OpenCursor name) read
        (Opens.wrong x refusal (open_there b is ∙ closed) (declared_there (Some x) declared) reason (record { says_so = refl; leaves_all = refl }))

    pub refuses : (refusal : Refusal) (new : Stored) → (IsRollback text → ⊥) → RefusesOpening rules (database_of (seen_by mid view)) x refusal → SameButMark st new
        → Moves rules s text (says.Refused refusal) st w kept new w (settled (get new.readers s) kept)
    refuses refusal new other found k =
        nothing_moves rules st w s kept (Asked.Text text) (says.Refused refusal) new h
        (refusing refusal other (subst (λ (db : Database). RefusesOpening rules db x refusal) (ap database_of there ∙ works) found)) k

    module _ (cursor : OpenCursor) (opens : OpensAs rules (seen_by mid view) x cursor) where
      opens_there : OpensAs rules (read_once st w s) x cursor
      opens_there = subst (λ (contents : Contents). OpensAs rules contents x cursor) there opens

      abbrev opened_as : Cursor
      opened_as = record { outcome = (cursor_of cursor (read_once st w s)).outcome; given = [] }

      is_opened : cursor_of cursor (read_once st w s) ≡ opened_as
      is_opened = λ i. record { outcome = (cursor_of cursor (read_once st w s)).outcome; given = opens_there.begins.given i }

      pub moves : (other : Kept) (new : Stored) → other.mode ≡ kept.mode → other.declared ≡ kept.declared
          → other.cursors (read_once st w s) ≡ insert (kept.cursors (read_once st w s)) name (cursor_of cursor (read_once st w s))
          → other.unnamed (read_once st w s) ≡ kept.unnamed (read_once st w s) → new ≡ mid
          → Moves rules s text says.Done st w kept new w (settled (get new.readers s) other)
      moves other new mode same_declared cursors unnamed e =
          becomes rules st w s kept other (Asked.Text text) says.Done (active (session_of st w s kept) (with_cursor (runs st w s kept) name opened_as)) new h
          answered (begun_as st w s kept other (λ t. with_cursor t name opened_as) h shut same_declared made) (e ∙ begins)
        where
          made : transaction_over other (found_once st s) (read_once st w s) ≡ with_cursor (transaction_over kept (found_once st s) (read_once st w s)) name opened_as
          made = λ i. record {
            mode = mode i;
            beginning = (found_once st s).number;
            found = database_of (found_once st s).contents;
            working = database_of (read_once st w s);
            cursors = (cursors ∙ ap (insert (kept.cursors (read_once st w s)) name) is_opened) i;
            unnamed = unnamed i;
          }

          means_there : Means rules (runs st w s kept).working (asks.Query x) (does.Query opens_there.query)
          means_there = subst (λ (db : Database). Means rules db (asks.Query x) (does.Query opens_there.query)) works opens_there.means

          answered : Answered rules st w s kept (Asked.Text text) says.Done (Effect.Becomes (active (session_of st w s kept) (with_cursor (runs st w s kept) name opened_as)))
          answered = Replies.carried_out (asks.OpenCursor name) read
              (Opens.opens x opens_there.query (cursor_of cursor (read_once st w s)).outcome (open_there b is ∙ closed) (declared_there (Some x) declared) means_there
              (same_outcome (cursor_of cursor (read_once st w s)).outcome (denotes (runs st w s kept).working opens_there.query)
              (opens_there.outcome ∙ ap (λ (db : Database). denotes db opens_there.query) works)) refl refl)
