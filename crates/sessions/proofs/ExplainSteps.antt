-- An EXPLAIN of a session is a step, and its lines show a plan of its query.
use Rattle.std.proofs.Common.{◌≡◌, ℕ, Bool, true, false, List, Option, Ok, refl, sym, ap, subst, ◌∙◌}
use Rattle.std.specs.FinMap.{get}
use Rattle.refusals.specs.declared.refusal.Refusal.{Refusal}
use Rattle.lexer.specs.Token.{Bytes}
use Rattle.ast.specs.declared.statement.OrderedQuery.{OrderedQuery}
use Rattle.ast.specs.declared.statement.Statement.{Statement}
use Rattle.ast.specs.declared.statement.Statement.TheVariants as asks
use Rattle.sqlval.specs.declared.schema.Schema.{Schema}
use Rattle.typing.specs.declared.statement.Typed.{Typed}
use Rattle.typing.specs.declared.statement.Typed.TheVariants as does
use Rattle.typing.specs.declared.typed.OrderedQuery as typed
use Rattle.typing.specs.Statement.{answered_found}
use Rattle.algebra.specs.Described.{described_in}
use Rattle.algebra.specs.Translated.{tree_of_ordered}
use Rattle.denote.specs.Database.{Database}
use Rattle.denote.specs.SchemaOf.{IsSchemaOf}
use Rattle.query_answers.specs.Explanation.{ShowsPlan}
use Rattle.replies.specs.declared.reply.Reply.TheVariants as says
use Rattle.statement_definitions.specs.Reading.{IsRead}
use Rattle.statement_definitions.specs.Rollback.{IsRollback}
use Rattle.session_definitions.specs.Asked.{Asked}
use Rattle.session_definitions.specs.Effect.{Effect}
use Rattle.session_definitions.specs.Refusals.{IsReserved}
use Rattle.session_definitions.specs.Rules.{Rules, AreRules}
use Rattle.session_definitions.specs.Statements.{Explains}
use Rattle.session_definitions.specs.Step.{Replies}
use Rattle.store.specs.declared.view.View.{View}
use Rattle.store.specs.Contents.{database_of}
use Rattle.store.specs.Stored.{Stored, SameButMark, begun}
use Rattle.store.specs.View.{seen_by}
use Rattle.transactions.specs.Moves.{IsClosedIn, Moves}
use Rattle.transactions.specs.Orderly.{IsOrderly}
use Rattle.transactions.specs.Shown.{Kept, settled, view_in}
use Rattle.transactions.proofs.Obstacles.{runs}
use Rattle.transactions.proofs.Steps.{Answered, answers, nothing_moves, withholds}
use Rattle.sessions.specs.Explained.{RefusesLines, ShowsLines}
use Rattle.sessions.specs.Kinds.{is_change, is_of_cursor}
use Rattle.sessions.specs.Seen.{seen_in}
use Rattle.sessions.proofs.QuerySteps.{sees}
use Rattle.sessions.proofs.Typings.{Against, means, read_as, typed_explain}

-- ---- over a version

pub refuses_wrong : (rules : Rules) (db : Database) (x : OrderedQuery) (refusal : Refusal) → Against rules db (asks.Explain x) refusal → RefusesLines rules db x refusal
refuses_wrong rules db x refusal (Against.wanting e) = RefusesLines.withheld (subst IsReserved (sym e) tt)
refuses_wrong rules db x refusal (Against.wrong h) = RefusesLines.wrong h

module _ (x : OrderedQuery) (statement : Statement) (schema lent : Schema) (t : Typed) (db : Database)
    (is : statement ≡ asks.Explain x) (lent_is : lent ≡ schema) (of : IsSchemaOf schema db) (found : answered_found statement lent ≡ Ok t) where
  known : answered_found (asks.Explain x) schema ≡ Ok t
  known = read_as (asks.Explain x) statement schema lent t is lent_is found

  -- it is typed as one
  pub explains : (q : typed.OrderedQuery) × (t ≡ does.Explain q)
  explains = typed_explain x schema t known

  pub shows_typed : (lines : List (List ℕ)) → ((q : typed.OrderedQuery) → t ≡ does.Explain q → ShowsPlan (tree_of_ordered (described_in lent) q) lines)
      → ShowsLines db x lines
  shows_typed lines h = record {
    schema = schema;
    of_database = of;
    query = explains.0;
    found = known ∙ ap Ok explains.1;
    shows = subst (λ (s : Schema). ShowsPlan (tree_of_ordered (described_in s) explains.0) lines) lent_is (h explains.0 explains.1);
  }

-- ---- in a session

-- what a session sees that has begun, it sees
pub sees_lines : (st mid : Stored) (w : Option ℕ) (s : ℕ) (view : View) (x : OrderedQuery) (lines : List (List ℕ)) → mid ≡ begun st s → view ≡ view_in w s
    → ShowsLines (database_of (seen_by mid view)) x lines → ShowsLines (seen_in st w s) x lines
sees_lines st mid w s view x lines begins seen found =
    subst (λ (v : View). ShowsLines (database_of (seen_by (begun st s) v)) x lines) seen
    (subst (λ (y : Stored). ShowsLines (database_of (seen_by y view)) x lines) begins found)

module _ (rules : Rules) (st : Stored) (w : Option ℕ) (s : ℕ) (kept : Kept) (text : Bytes) (x : OrderedQuery) (mid : Stored) (view : View)
    (h : IsOrderly st w) (shut : IsClosedIn (get st.readers s) kept) (read : IsRead text (asks.Explain x)) (begins : mid ≡ begun st s) (seen : view ≡ view_in w s) where
  there : database_of (seen_by mid view) ≡ (runs st w s kept).working
  there = ap (λ y. database_of (seen_by y view)) begins ∙ ap (λ v. database_of (seen_by (begun st s) v)) seen ∙ sees st w s kept h

  pub shows : (lines : List (List ℕ)) (new : Stored) → AreRules rules → ShowsLines (database_of (seen_by mid view)) x lines → new ≡ mid
      → Moves rules s text (says.Lines lines) st w kept new w (settled (get new.readers s) kept)
  shows lines new are found e =
      let found : ShowsLines (runs st w s kept).working x lines = subst (λ (db : Database). ShowsLines db x lines) there found in
      answers rules st w s kept (Asked.Text text) (says.Lines lines) new h shut
      (Replies.carried_out (asks.Explain x) read
      (Explains.shows found.query lines (means rules (runs st w s kept).working found.schema (asks.Explain x) (does.Explain found.query) are found.of_database found.found) refl refl)) (e ∙ begins)

  refusing : (refusal : Refusal) → (IsRollback text → ⊥) → RefusesLines rules (runs st w s kept).working x refusal → Answered rules st w s kept (Asked.Text text) (says.Refused refusal) Effect.Nothing
  refusing refusal other (RefusesLines.withheld reserved) = withholds rules st w s kept (asks.Explain x) text refusal other read refl reserved
  refusing refusal other (RefusesLines.wrong reason) =
      Replies.carried_out (asks.Explain x) read (Explains.wrong refusal reason (record { says_so = refl; leaves_all = refl }))

  pub refuses : (refusal : Refusal) (new : Stored) → (IsRollback text → ⊥) → RefusesLines rules (database_of (seen_by mid view)) x refusal → SameButMark st new
      → Moves rules s text (says.Refused refusal) st w kept new w (settled (get new.readers s) kept)
  refuses refusal new other found k =
      nothing_moves rules st w s kept (Asked.Text text) (says.Refused refusal) new h
      (refusing refusal other (subst (λ (db : Database). RefusesLines rules db x refusal) there found)) k

-- ---- what a typed EXPLAIN is

abbrev query_in : Typed → typed.OrderedQuery → typed.OrderedQuery
query_in (does.Explain query) other = query
query_in t other = other

pub one_query : (a b : typed.OrderedQuery) → does.Explain a ≡ does.Explain b → a ≡ b
one_query a b e = ap (λ t. query_in t a) e

-- ---- other statements

abbrev is_explain : Statement → Bool
is_explain (asks.Explain x) = true
is_explain _ = false

-- a statement that is another is none
pub no_change : (P : Type 0) (statement : Statement) (x : OrderedQuery) → is_change statement ≡ true → statement ≡ asks.Explain x → P
no_change P statement x changes is = let bad : true ≡ false = sym changes ∙ ap is_change is in absurd (cc)

pub no_cursor_call : (P : Type 0) (statement : Statement) (x : OrderedQuery) → is_of_cursor statement ≡ true → statement ≡ asks.Explain x → P
no_cursor_call P statement x of is = let bad : true ≡ false = sym of ∙ ap is_of_cursor is in absurd (cc)

pub another : (P : Type 0) (statement other : Statement) (x : OrderedQuery) → statement ≡ other → is_explain other ≡ false → statement ≡ asks.Explain x → P
another P statement other x is none said = let bad : false ≡ true = sym none ∙ ap is_explain (sym is ∙ said) in absurd (cc)
