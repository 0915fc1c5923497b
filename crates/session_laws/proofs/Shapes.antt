-- What the effect of a reply is like, whatever the statement.
use Rattle.std.proofs.Common.{◌≡◌, ◌⊎◌, ℕ, List, [], ◌∷◌, ◌++◌, Option, Some, None, refl, sym, ap, ◌∙◌, inl, inr}
use Rattle.sqlval.specs.Value.{Row}
use Rattle.refusals.specs.declared.refusal.Refusal.{Refusal}
use Rattle.lexer.specs.Token.{Bytes}
use Rattle.ast.specs.declared.statement.AccessMode.{AccessMode}
use Rattle.ast.specs.declared.statement.DeclareCursor.{DeclareCursor}
use Rattle.ast.specs.declared.statement.OrderedQuery.{OrderedQuery}
use Rattle.ast.specs.declared.statement.Statement.{Statement}
use Rattle.ast.specs.declared.statement.Statement.TheVariants as asks
use Rattle.denote.specs.Database.{Name}
use Rattle.replies.specs.declared.reply.Reply.{Reply}
use Rattle.session_definitions.specs.Asked.{Asked}
use Rattle.session_definitions.specs.Calls.{OpensQuery, TakesIn, TakesRows, ClosesQueryIn, ClosesQuery, InsertsRows}
use Rattle.session_definitions.specs.Cursor.{having_given}
use Rattle.session_definitions.specs.Effect.{Effect}
use Rattle.session_definitions.specs.InsertedRows.{inserting}
use Rattle.session_definitions.specs.Rules.{Rules}
use Rattle.session_definitions.specs.Statements.{Queries, Explains, Changes, Ends, Undoes, SetsMode, Declares, Opens, FetchesIn, Fetches, ClosesIn, Closes, CarriesOut}
use Rattle.session_definitions.specs.Step.{Withholds, Replies, Responds}
use Rattle.std.specs.Option.{unwrap_or}
use Rattle.session_definitions.specs.Transactions.{begun, active, with_cursor, without_cursor, with_unnamed}
use Rattle.session_definitions.specs.World.{Transaction, Session, World}

-- the same but for mode, working database and cursors
pub record BeganWith (t u : Transaction) : Type 0 where
  pub beginning : t.beginning ≡ u.beginning
  pub found : t.found ≡ u.found

-- the session's transaction is the same, or one that sees the same database
abbrev pub Keeps : Session → Transaction → Session → Type 0
Keeps session t x =
    (x.transaction ≡ session.transaction)
    ⊎ ((u : Transaction) × (x.transaction ≡ Some u) × BeganWith u t × (u.working ≡ t.working))

abbrev pub IsShaped : Session → Transaction → Option Refusal → Effect → Type 0
IsShaped session t obstacle Effect.Nothing = Unit {0}
IsShaped session t obstacle (Effect.Becomes x) = Keeps session t x
IsShaped session t obstacle (Effect.Writes x) = (obstacle ≡ None) × ((u : Transaction) × (x.transaction ≡ Some u) × BeganWith u t)
IsShaped session t obstacle (Effect.Commits u) = session.transaction ≡ Some u
IsShaped session t obstacle Effect.RollsBack = Unit {0}

-- a statement runs in the session's own transaction, where it has one
abbrev pub RunsIn : Session → Transaction → Type 0
RunsIn session t = (u : Transaction) → session.transaction ≡ Some u → u ≡ t

module _ (rules : Rules) (session : Session) (t : Transaction) (obstacle : Option Refusal) (reply : Reply) (effect : Effect) (own : RunsIn session t) where
  leaves_nothing : effect ≡ Effect.Nothing → IsShaped session t obstacle effect
  leaves_nothing e = rw e tt

  becomes : (u : Transaction) → u.beginning ≡ t.beginning → u.found ≡ t.found → u.working ≡ t.working
      → effect ≡ Effect.Becomes (active session u) → IsShaped session t obstacle effect
  becomes u b f k e = rw e (inr (u, refl, record { beginning = b; found = f }, k))

  queries_shape : (x : OrderedQuery) → Queries rules session t x reply effect → IsShaped session t obstacle effect
  queries_shape x (Queries.wrong refusal why r) = leaves_nothing r.leaves_all
  queries_shape x (Queries.gives query rows m a is e) = becomes t refl refl refl e
  queries_shape x (Queries.raises query fault m a r) = leaves_nothing r.leaves_all

  explains_shape : (x : OrderedQuery) → Explains rules session t x reply effect → IsShaped session t obstacle effect
  explains_shape x (Explains.wrong refusal why r) = leaves_nothing r.leaves_all
  explains_shape x (Explains.shows query lines m is e) = becomes t refl refl refl e

  changes_shape : (x : Statement) → Changes rules session t obstacle x reply effect → IsShaped session t obstacle effect
  changes_shape x (Changes.reads_only o r) = leaves_nothing r.leaves_all
  changes_shape x (Changes.has_cursor o r) = leaves_nothing r.leaves_all
  changes_shape x (Changes.overtaken o is e) = rw e tt
  changes_shape x (Changes.wrong refusal o why r) = leaves_nothing r.leaves_all
  changes_shape x (Changes.makes change db count o m a is e) =
      rw e (o, (record t { working = db }, refl, record { beginning = refl; found = refl }))
  changes_shape x (Changes.raises change fault o m f r) = leaves_nothing r.leaves_all
  changes_shape x (Changes.violates change name o m f r) = leaves_nothing r.leaves_all

  ends_shape : (u : Option Transaction) → session.transaction ≡ u → Ends u reply effect → IsShaped session t obstacle effect
  ends_shape None is h = leaves_nothing h.1
  ends_shape (Some u) is h = rw h.1 is

  undoes_shape : (u : Option Transaction) → Undoes u reply effect → IsShaped session t obstacle effect
  undoes_shape None h = leaves_nothing h.1
  undoes_shape (Some u) h = rw h.1 tt

  sets_shape : (u : Option Transaction) (mode : AccessMode) → SetsMode session u mode reply effect → IsShaped session t obstacle effect
  sets_shape None mode h = rw h.1 (inl refl)
  sets_shape (Some u) mode h = leaves_nothing h.leaves_all

  declares_shape : (x : DeclareCursor) → Declares session x reply effect → IsShaped session t obstacle effect
  declares_shape x (Declares.open_already is r) = leaves_nothing r.leaves_all
  declares_shape x (Declares.too_many is fails many r) = leaves_nothing r.leaves_all
  declares_shape x (Declares.declares is room says e) = rw e (inl refl)

  opens_shape : (name : Name) → Opens rules session t name reply effect → IsShaped session t obstacle effect
  opens_shape name (Opens.open_already is r) = leaves_nothing r.leaves_all
  opens_shape name (Opens.undeclared is r) = leaves_nothing r.leaves_all
  opens_shape name (Opens.wrong y refusal is d why r) = leaves_nothing r.leaves_all
  opens_shape name (Opens.opens y query outcome is d m same says e) = becomes (with_cursor t name (record { outcome = outcome; given = [] })) refl refl refl e

  -- other cursors in the session's own transaction
  other_cursors : (u v : Transaction) → session.transaction ≡ Some u → v.beginning ≡ u.beginning → v.found ≡ u.found → v.working ≡ u.working
      → effect ≡ Effect.Becomes (active session v) → IsShaped session t obstacle effect
  other_cursors u v has b f k e =
      let same : u ≡ t = own u has in
      becomes v (b ∙ ap (λ (x : Transaction). x.beginning) same) (f ∙ ap (λ (x : Transaction). x.found) same) (k ∙ ap (λ (x : Transaction). x.working) same) e

  fetches_in_shape : (u : Transaction) → session.transaction ≡ Some u → (name : Name) → FetchesIn session u name reply effect → IsShaped session t obstacle effect
  fetches_in_shape u has name (FetchesIn.not_open is r) = leaves_nothing r.leaves_all
  fetches_in_shape u has name (FetchesIn.gives cursor row is may says e) =
      other_cursors u (with_cursor u name (record cursor { given = cursor.given ++ row ∷ [] })) has refl refl refl e
  fetches_in_shape u has name (FetchesIn.ends cursor is end says e) = leaves_nothing e
  fetches_in_shape u has name (FetchesIn.raises cursor fault is may says e) = other_cursors u (without_cursor u name) has refl refl refl e

  fetches_shape : (u : Option Transaction) → session.transaction ≡ u → (name : Name) → Fetches session u name reply effect → IsShaped session t obstacle effect
  fetches_shape None is name r = leaves_nothing r.leaves_all
  fetches_shape (Some u) is name h = fetches_in_shape u is name h

  closes_in_shape : (u : Transaction) → session.transaction ≡ Some u → (name : Name) → ClosesIn session u name reply effect → IsShaped session t obstacle effect
  closes_in_shape u has name (ClosesIn.not_open is r) = leaves_nothing r.leaves_all
  closes_in_shape u has name (ClosesIn.closes is says e) = other_cursors u (without_cursor u name) has refl refl refl e

  closes_shape : (u : Option Transaction) → session.transaction ≡ u → (name : Name) → Closes session u name reply effect → IsShaped session t obstacle effect
  closes_shape None is name r = leaves_nothing r.leaves_all
  closes_shape (Some u) is name h = closes_in_shape u is name h

  carried_out_shape : (x : Statement) → CarriesOut rules session t obstacle x reply effect → IsShaped session t obstacle effect
  carried_out_shape (asks.Query x) h = queries_shape x h
  carried_out_shape (asks.Explain x) h = explains_shape x h
  carried_out_shape (asks.CreateTable x) h = changes_shape (asks.CreateTable x) h
  carried_out_shape (asks.DropTable x) h = changes_shape (asks.DropTable x) h
  carried_out_shape (asks.CreateIndex x) h = changes_shape (asks.CreateIndex x) h
  carried_out_shape (asks.DropIndex x) h = changes_shape (asks.DropIndex x) h
  carried_out_shape (asks.Insert x) h = changes_shape (asks.Insert x) h
  carried_out_shape (asks.Update x) h = changes_shape (asks.Update x) h
  carried_out_shape (asks.Delete x) h = changes_shape (asks.Delete x) h
  carried_out_shape (asks.Commit work) h = ends_shape session.transaction refl h
  carried_out_shape (asks.Rollback work) h = undoes_shape session.transaction h
  carried_out_shape (asks.SetTransaction mode) h = sets_shape session.transaction mode h
  carried_out_shape (asks.DeclareCursor x) h = declares_shape x h
  carried_out_shape (asks.OpenCursor name) h = opens_shape name h
  carried_out_shape (asks.Fetch name) h = fetches_shape session.transaction refl name h
  carried_out_shape (asks.CloseCursor name) h = closes_shape session.transaction refl name h

  withholds_shape : (text : Bytes) → Withholds session text reply effect → IsShaped session t obstacle effect
  withholds_shape text (Withholds.of_memory other r) = leaves_nothing r.leaves_all
  withholds_shape text (Withholds.of_store refusal x of other read shut r) = leaves_nothing r.leaves_all
  withholds_shape text (Withholds.closes refusal u name reserved read has is says e) = other_cursors u (without_cursor u name) has refl refl refl e

  replies_shape : (text : Bytes) → Replies rules session t obstacle text reply effect → IsShaped session t obstacle effect
  replies_shape text (Replies.unread refusal why r) = leaves_nothing r.leaves_all
  replies_shape text (Replies.carried_out x read h) = carried_out_shape x h
  replies_shape text (Replies.withheld h) = withholds_shape text h

  opens_query_shape : (text : Bytes) → OpensQuery rules session t text reply effect → IsShaped session t obstacle effect
  opens_query_shape text (OpensQuery.unread refusal why r) = leaves_nothing r.leaves_all
  opens_query_shape text (OpensQuery.other x read is r) = leaves_nothing r.leaves_all
  opens_query_shape text (OpensQuery.open_already x read is r) = leaves_nothing r.leaves_all
  opens_query_shape text (OpensQuery.wrong x refusal read is why r) = leaves_nothing r.leaves_all
  opens_query_shape text (OpensQuery.opens x query outcome read is m same says e) =
      becomes (with_unnamed t (Some (record { outcome = outcome; given = [] }))) refl refl refl e
  opens_query_shape text (OpensQuery.withheld refusal of r) = leaves_nothing r.leaves_all

  takes_in_shape : (u : Transaction) → session.transaction ≡ Some u → (count : ℕ) → TakesIn session u count reply effect → IsShaped session t obstacle effect
  takes_in_shape u has count (TakesIn.not_open is r) = leaves_nothing r.leaves_all
  takes_in_shape u has count (TakesIn.all cursor rows is may long says e) =
      other_cursors u (with_unnamed u (Some (having_given cursor rows))) has refl refl refl e
  takes_in_shape u has count (TakesIn.fewer cursor rows is few end says e) =
      other_cursors u (with_unnamed u (Some (having_given cursor rows))) has refl refl refl e
  takes_in_shape u has count (TakesIn.raises cursor fault is some may says e) = other_cursors u (with_unnamed u None) has refl refl refl e
  takes_in_shape u has count (TakesIn.withheld refusal cursor is of says e) = other_cursors u (with_unnamed u None) has refl refl refl e

  takes_shape : (u : Option Transaction) → session.transaction ≡ u → (count : ℕ) → TakesRows session u count reply effect → IsShaped session t obstacle effect
  takes_shape None is count r = leaves_nothing r.leaves_all
  takes_shape (Some u) is count h = takes_in_shape u is count h

  closes_query_in_shape : (u : Transaction) → session.transaction ≡ Some u → ClosesQueryIn session u reply effect → IsShaped session t obstacle effect
  closes_query_in_shape u has (ClosesQueryIn.not_open is r) = leaves_nothing r.leaves_all
  closes_query_in_shape u has (ClosesQueryIn.closes is says e) = other_cursors u (with_unnamed u None) has refl refl refl e

  closes_query_shape : (u : Option Transaction) → session.transaction ≡ u → ClosesQuery session u reply effect → IsShaped session t obstacle effect
  closes_query_shape None is r = leaves_nothing r.leaves_all
  closes_query_shape (Some u) is h = closes_query_in_shape u is h

module _ (rules : Rules) (session : Session) (t : Transaction) (obstacle : Option Refusal) (reply : Reply) (effect : Effect) (own : RunsIn session t) where
  inserts_shape : (table : Name) (rows : List Row) → InsertsRows rules session t obstacle table rows reply effect → IsShaped session t obstacle effect
  inserts_shape table rows (InsertsRows.changes x h) = changes_shape (inserting rules table rows) session t obstacle reply effect own x h
  inserts_shape table rows (InsertsRows.withheld refusal of r) = leaves_nothing rules session t obstacle reply effect own r.leaves_all

  pub shape : (asked : Asked) → Responds rules session t obstacle asked reply effect → IsShaped session t obstacle effect
  shape (Asked.Text text) h = replies_shape rules session t obstacle reply effect own text h
  shape (Asked.Query text) h = opens_query_shape rules session t obstacle reply effect own text h
  shape (Asked.Rows count) h = takes_shape rules session t obstacle reply effect own session.transaction refl count h
  shape Asked.Close h = closes_query_shape rules session t obstacle reply effect own session.transaction refl h
  shape (Asked.Insert table rows) h = inserts_shape table rows h

pub runs_in : (w : World) (session : Session) → RunsIn session (begun w session)
runs_in w session u has = sym (by session.transaction _ has)
  where
    by : (o : Option Transaction) (d : Transaction) → o ≡ Some u → unwrap_or o d ≡ u
    by (Some v) d is = cc
    by None d is = cc
