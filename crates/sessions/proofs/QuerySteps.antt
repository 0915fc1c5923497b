-- A query of a session is a step.
use Rattle.std.proofs.Common.{◌≡◌, ℕ, Bool, true, false, cond, List, Option, Some, Ok, refl, sym, ap, subst, ◌∙◌, inl, inr}
use Rattle.std.specs.FinMap.{get}
use Rattle.refusals.specs.declared.refusal.Refusal.{Refusal}
use Rattle.lexer.specs.Token.{Bytes}
use Rattle.ast.specs.declared.statement.OrderedQuery.{OrderedQuery}
use Rattle.ast.specs.declared.statement.Statement.{Statement}
use Rattle.ast.specs.declared.statement.Statement.TheVariants as asks
use Rattle.sqlval.specs.declared.schema.Schema.{Schema}
use Rattle.sqlval.specs.Value.{Row}
use Rattle.typing.specs.declared.statement.Typed.{Typed}
use Rattle.typing.specs.declared.statement.Typed.TheVariants as does
use Rattle.typing.specs.declared.typed.OrderedQuery as typed
use Rattle.typing.specs.Statement.{answered_found}
use Rattle.denote.specs.Answer.{Answers}
use Rattle.denote.specs.Database.{CheckReading, Database, IsGood}
use Rattle.denote.specs.Query.{denotes}
use Rattle.denote.specs.SchemaOf.{IsSchemaOf}
use Rattle.replies.specs.declared.reply.Reply.TheVariants as says
use Rattle.statement_definitions.specs.Reading.{IsRead}
use Rattle.statement_definitions.specs.Rollback.{IsRollback}
use Rattle.session_definitions.specs.Asked.{Asked}
use Rattle.session_definitions.specs.Effect.{Effect}
use Rattle.session_definitions.specs.Refusals.{IsReserved}
use Rattle.session_definitions.specs.Rules.{Rules, AreRules}
use Rattle.session_definitions.specs.Statements.{Queries}
use Rattle.session_definitions.specs.Step.{Replies}
use Rattle.session_definitions.specs.World.{is_session}
use Rattle.store.specs.declared.view.View.{View}
use Rattle.store.specs.Contents.{database_of}
use Rattle.store.specs.Stored.{Found, Stored, SameButMark, begun}
use Rattle.store.specs.View.{seen_by, found_in}
use Rattle.transactions.specs.Moves.{IsClosedIn, Moves}
use Rattle.transactions.specs.Orderly.{IsOrderly}
use Rattle.transactions.specs.Shown.{Kept, read_by, settled, view_in}
use Rattle.transactions.proofs.Maps.{get_here}
use Rattle.transactions.proofs.Obstacles.{runs}
use Rattle.transactions.proofs.Orders.{begun_by, not_writer}
use Rattle.transactions.proofs.Steps.{Answered, answers, found_by, nothing_moves, read_once, runs_works, withholds}
use Rattle.query_answers.specs.Refused.{MayRefuse}
use Rattle.sessions.specs.Answered.{GivesRows, RefusesQuery}
use Rattle.sessions.specs.Seen.{seen_in}
use Rattle.sessions.proofs.Typings.{typed_query, means, Against, read_as}

-- ---- over a version

pub gives_rows : (rules : Rules) (db : Database) (schema : Schema) (x : OrderedQuery) (q : typed.OrderedQuery) (rows : List Row) → AreRules rules → IsSchemaOf schema db
    → answered_found (asks.Query x) schema ≡ Ok (does.Query q) → Answers (Ok rows) (denotes db q) → GivesRows rules db x rows
gives_rows rules db schema x q rows are of found h = record { query = q; means = means rules db schema (asks.Query x) (does.Query q) are of found; answers = h }

pub refuses_rows : (rules : Rules) (db : Database) (schema : Schema) (x : OrderedQuery) (q : typed.OrderedQuery) (refusal : Refusal) → AreRules rules → IsSchemaOf schema db
    → answered_found (asks.Query x) schema ≡ Ok (does.Query q) → MayRefuse (denotes db q).unordered.faults refusal → RefusesQuery rules db x refusal
refuses_rows rules db schema x q refusal are of found (inl reserved) = RefusesQuery.withheld reserved
refuses_rows rules db schema x q refusal are of found (inr raised) =
    RefusesQuery.raises q raised.0 (means rules db schema (asks.Query x) (does.Query q) are of found) raised.1 raised.2

pub refuses_wrong : (rules : Rules) (db : Database) (x : OrderedQuery) (refusal : Refusal) → Against rules db (asks.Query x) refusal → RefusesQuery rules db x refusal
refuses_wrong rules db x refusal (Against.wanting e) = RefusesQuery.withheld (subst IsReserved (sym e) tt)
refuses_wrong rules db x refusal (Against.wrong h) = RefusesQuery.wrong h

module _ (rules : Rules) (x : OrderedQuery) (statement : Statement) (schema lent : Schema) (t : Typed) (old mid : Stored) (view : View)
    (are : AreRules rules) (is : statement ≡ asks.Query x) (lent_is : lent ≡ schema) (same : mid ≡ old)
    (of : IsSchemaOf schema (database_of (seen_by old view))) (found : answered_found statement lent ≡ Ok t) where
  pub gives_typed : (rows : List Row) → ((q : typed.OrderedQuery) → t ≡ does.Query q → Answers (Ok rows) (denotes (database_of (seen_by mid view)) q))
      → GivesRows rules (database_of (seen_by old view)) x rows
  gives_typed rows h =
      let known = read_as (asks.Query x) statement schema lent t is lent_is found in
      let q = typed_query x schema t known in
      gives_rows rules (database_of (seen_by old view)) schema x q.0 rows are of (known ∙ ap Ok q.1)
      (subst (λ (st : Stored). Answers (Ok rows) (denotes (database_of (seen_by st view)) q.0)) same (h q.0 q.1))

  pub refuses_typed : (refusal : Refusal) → ((q : typed.OrderedQuery) → t ≡ does.Query q → MayRefuse (denotes (database_of (seen_by mid view)) q).unordered.faults refusal)
      → RefusesQuery rules (database_of (seen_by old view)) x refusal
  refuses_typed refusal h =
      let known = read_as (asks.Query x) statement schema lent t is lent_is found in
      let q = typed_query x schema t known in
      refuses_rows rules (database_of (seen_by old view)) schema x q.0 refusal are of (known ∙ ap Ok q.1)
      (subst (λ (st : Stored). MayRefuse (denotes (database_of (seen_by st view)) q.0).unordered.faults refusal) same (h q.0 q.1))

  -- the version is good, and the schema its own, once that is made ready
  pub good_still : IsGood rules.check (database_of (seen_by old view)) → IsGood rules.check (database_of (seen_by mid view))
  good_still good = subst (λ (st : Stored). IsGood rules.check (database_of (seen_by st view))) (sym same) good

  pub schema_still : IsSchemaOf schema (database_of (seen_by mid view))
  schema_still = subst (λ (st : Stored). IsSchemaOf schema (database_of (seen_by st view))) (sym same) of

-- ---- in a session

-- what it sees once it has begun is good
pub good_begun : (reading : CheckReading) (st mid : Stored) (w : Option ℕ) (s : ℕ) (view : View) → mid ≡ begun st s → view ≡ view_in w s
    → IsGood reading (seen_in st w s) → IsGood reading (database_of (seen_by mid view))
good_begun reading st mid w s view begins seen good =
    subst (λ (x : Stored). IsGood reading (database_of (seen_by x view))) (sym begins)
    (subst (λ (v : View). IsGood reading (database_of (seen_by (begun st s) v))) (sym seen) good)

-- once it has begun, a session sees what its transaction reads
pub sees_contents : (st : Stored) (w : Option ℕ) (s : ℕ) → IsOrderly st w → seen_by (begun st s) (view_in w s) ≡ read_once st w s
sees_contents st w s h = begun_by st s (λ x. seen_by x (view_in w s) ≡ read_once st w s)
    (λ f is. in_transaction f is (is_session s w) ∙ ap (λ o. read_by st w s (found_by st o)) (sym is))
    (λ none. rw (none, not_writer st s w h.current none, get_here) refl)
  where
    in_transaction : (f : Found) → get st.readers s ≡ Some f → (b : Bool)
        → seen_by st (cond b View.Working (View.Found s)) ≡ cond b st.working f.contents
    in_transaction f is true = refl
    in_transaction f is false = ap (λ o. found_in st.last o) is

-- and so the database of the transaction in which its statement runs
pub sees : (st : Stored) (w : Option ℕ) (s : ℕ) (kept : Kept) → IsOrderly st w → database_of (seen_by (begun st s) (view_in w s)) ≡ (runs st w s kept).working
sees st w s kept h = ap database_of (sees_contents st w s h) ∙ sym (runs_works st w s kept h)

module _ (rules : Rules) (st : Stored) (w : Option ℕ) (s : ℕ) (kept : Kept) (text : Bytes) (x : OrderedQuery) (mid : Stored) (view : View)
    (h : IsOrderly st w) (shut : IsClosedIn (get st.readers s) kept) (read : IsRead text (asks.Query x)) (begins : mid ≡ begun st s) (seen : view ≡ view_in w s) where
  there : database_of (seen_by mid view) ≡ (runs st w s kept).working
  there = ap (λ y. database_of (seen_by y view)) begins ∙ ap (λ v. database_of (seen_by (begun st s) v)) seen ∙ sees st w s kept h

  pub gives : (rows : List Row) (new : Stored) → GivesRows rules (database_of (seen_by mid view)) x rows → new ≡ mid
      → Moves rules s text (says.Rows rows) st w kept new w (settled (get new.readers s) kept)
  gives rows new found e =
      let found : GivesRows rules (runs st w s kept).working x rows = subst (λ (db : Database). GivesRows rules db x rows) there found in
      answers rules st w s kept (Asked.Text text) (says.Rows rows) new h shut
      (Replies.carried_out (asks.Query x) read (Queries.gives found.query rows found.means found.answers refl refl)) (e ∙ begins)

  refusing : (refusal : Refusal) → (IsRollback text → ⊥) → RefusesQuery rules (runs st w s kept).working x refusal → Answered rules st w s kept (Asked.Text text) (says.Refused refusal) Effect.Nothing
  refusing refusal other (RefusesQuery.withheld reserved) = withholds rules st w s kept (asks.Query x) text refusal other read refl reserved
  refusing refusal other (RefusesQuery.wrong reason) =
      Replies.carried_out (asks.Query x) read (Queries.wrong refusal reason (record { says_so = refl; leaves_all = refl }))
  refusing refusal other (RefusesQuery.raises q fault means is raised) =
      Replies.carried_out (asks.Query x) read (Queries.raises q fault means raised (record { says_so = ap says.Refused is; leaves_all = refl }))

  pub refuses : (refusal : Refusal) (new : Stored) → (IsRollback text → ⊥) → RefusesQuery rules (database_of (seen_by mid view)) x refusal → SameButMark st new
      → Moves rules s text (says.Refused refusal) st w kept new w (settled (get new.readers s) kept)
  refuses refusal new other found k =
      nothing_moves rules st w s kept (Asked.Text text) (says.Refused refusal) new h
      (refusing refusal other (subst (λ (db : Database). RefusesQuery rules db x refusal) there found)) k

-- ---- what a typed query is

abbrev query_in : Typed → typed.OrderedQuery → typed.OrderedQuery
query_in (does.Query query) other = query
query_in t other = other

pub one_query : (a b : typed.OrderedQuery) → does.Query a ≡ does.Query b → a ≡ b
one_query a b e = ap (λ t. query_in t a) e
