-- A session with a transaction has READ WRITE as the mode of its next one, whatever a statement
-- does.
use Rattle.std.proofs.Common.{◌≡◌, ℕ, List, [], ◌∷◌, ◌++◌, Option, Some, None, refl, subst, sym}
use Rattle.sqlval.specs.Value.{Row}
use Rattle.refusals.specs.declared.refusal.Refusal.{Refusal}
use Rattle.lexer.specs.Token.{Bytes}
use Rattle.ast.specs.declared.statement.AccessMode.{AccessMode}
use Rattle.ast.specs.declared.statement.DeclareCursor.{DeclareCursor}
use Rattle.ast.specs.declared.statement.OrderedQuery.{OrderedQuery}
use Rattle.ast.specs.declared.statement.Statement.{Statement}
use Rattle.ast.specs.declared.statement.Statement.TheVariants as asks
use Rattle.denote.specs.Database.{Name}
use Rattle.replies.specs.declared.reply.Reply.{Reply}
use Rattle.session_definitions.specs.Asked.{Asked}
use Rattle.session_definitions.specs.Calls.{OpensQuery, TakesIn, TakesRows, ClosesQueryIn, ClosesQuery, InsertsRows}
use Rattle.session_definitions.specs.Cursor.{having_given}
use Rattle.session_definitions.specs.Effect.{Effect}
use Rattle.session_definitions.specs.InsertedRows.{inserting}
use Rattle.session_definitions.specs.Rules.{Rules}
use Rattle.session_definitions.specs.Statements.{Queries, Explains, Changes, Ends, Undoes, SetsMode, Declares, Opens, FetchesIn, Fetches, ClosesIn, Closes, CarriesOut}
use Rattle.session_definitions.specs.Step.{Withholds, Replies, Responds}
use Rattle.session_definitions.specs.Transactions.{active, with_cursor, without_cursor, with_unnamed}
use Rattle.session_definitions.specs.World.{Transaction, Session}
use Rattle.session_laws.specs.Sound.{IsSoundMode}

-- what the effect leaves of the session has a sound mode
abbrev pub LeavesMode : Effect → Type 0
LeavesMode Effect.Nothing = Unit {0}
LeavesMode (Effect.Becomes x) = IsSoundMode x.next x.transaction
LeavesMode (Effect.Writes x) = IsSoundMode x.next x.transaction
LeavesMode (Effect.Commits t) = Unit {0}
LeavesMode Effect.RollsBack = Unit {0}

module _ (rules : Rules) (session : Session) (t : Transaction) (obstacle : Option Refusal) (reply : Reply) (effect : Effect)
    (own : IsSoundMode session.next session.transaction) where
  nothing : effect ≡ Effect.Nothing → LeavesMode effect
  nothing e = rw e tt

  becomes : (u : Transaction) → effect ≡ Effect.Becomes (active session u) → LeavesMode effect
  becomes u e = rw e refl

  queries_mode : (x : OrderedQuery) → Queries rules session t x reply effect → LeavesMode effect
  queries_mode x (Queries.wrong refusal why r) = nothing r.leaves_all
  queries_mode x (Queries.gives query rows m a is e) = becomes t e
  queries_mode x (Queries.raises query fault m a r) = nothing r.leaves_all

  explains_mode : (x : OrderedQuery) → Explains rules session t x reply effect → LeavesMode effect
  explains_mode x (Explains.wrong refusal why r) = nothing r.leaves_all
  explains_mode x (Explains.shows query lines m is e) = becomes t e

  changes_mode : (x : Statement) → Changes rules session t obstacle x reply effect → LeavesMode effect
  changes_mode x (Changes.reads_only o r) = nothing r.leaves_all
  changes_mode x (Changes.has_cursor o r) = nothing r.leaves_all
  changes_mode x (Changes.overtaken o is e) = rw e tt
  changes_mode x (Changes.wrong refusal o why r) = nothing r.leaves_all
  changes_mode x (Changes.makes change db count o m a is e) = rw e refl
  changes_mode x (Changes.raises change fault o m f r) = nothing r.leaves_all
  changes_mode x (Changes.violates change name o m f r) = nothing r.leaves_all

  ends_mode : (u : Option Transaction) → Ends u reply effect → LeavesMode effect
  ends_mode None h = nothing h.1
  ends_mode (Some u) h = rw h.1 tt

  undoes_mode : (u : Option Transaction) → Undoes u reply effect → LeavesMode effect
  undoes_mode None h = nothing h.1
  undoes_mode (Some u) h = rw h.1 tt

  sets_mode : (u : Option Transaction) → session.transaction ≡ u → (mode : AccessMode) → SetsMode session u mode reply effect → LeavesMode effect
  sets_mode None is mode h = rw h.1 (subst (IsSoundMode mode) (sym is) tt)
  sets_mode (Some u) is mode h = nothing h.leaves_all

  declares_mode : (x : DeclareCursor) → Declares session x reply effect → LeavesMode effect
  declares_mode x (Declares.open_already is r) = nothing r.leaves_all
  declares_mode x (Declares.too_many is fails many r) = nothing r.leaves_all
  declares_mode x (Declares.declares is room says e) = rw e own

  opens_mode : (name : Name) → Opens rules session t name reply effect → LeavesMode effect
  opens_mode name (Opens.open_already is r) = nothing r.leaves_all
  opens_mode name (Opens.undeclared is r) = nothing r.leaves_all
  opens_mode name (Opens.wrong y refusal is d why r) = nothing r.leaves_all
  opens_mode name (Opens.opens y query outcome is d m same says e) = becomes (with_cursor t name (record { outcome = outcome; given = [] })) e

  fetches_in_mode : (u : Transaction) (name : Name) → FetchesIn session u name reply effect → LeavesMode effect
  fetches_in_mode u name (FetchesIn.not_open is r) = nothing r.leaves_all
  fetches_in_mode u name (FetchesIn.gives cursor row is may says e) =
      becomes (with_cursor u name (record cursor { given = cursor.given ++ row ∷ [] })) e
  fetches_in_mode u name (FetchesIn.ends cursor is end says e) = nothing e
  fetches_in_mode u name (FetchesIn.raises cursor fault is may says e) = becomes (without_cursor u name) e

  fetches_mode : (u : Option Transaction) (name : Name) → Fetches session u name reply effect → LeavesMode effect
  fetches_mode None name r = nothing r.leaves_all
  fetches_mode (Some u) name h = fetches_in_mode u name h

  closes_in_mode : (u : Transaction) (name : Name) → ClosesIn session u name reply effect → LeavesMode effect
  closes_in_mode u name (ClosesIn.not_open is r) = nothing r.leaves_all
  closes_in_mode u name (ClosesIn.closes is says e) = becomes (without_cursor u name) e

  closes_mode : (u : Option Transaction) (name : Name) → Closes session u name reply effect → LeavesMode effect
  closes_mode None name r = nothing r.leaves_all
  closes_mode (Some u) name h = closes_in_mode u name h

  carried_out_mode : (x : Statement) → CarriesOut rules session t obstacle x reply effect → LeavesMode effect
  carried_out_mode (asks.Query x) h = queries_mode x h
  carried_out_mode (asks.Explain x) h = explains_mode x h
  carried_out_mode (asks.CreateTable x) h = changes_mode (asks.CreateTable x) h
  carried_out_mode (asks.DropTable x) h = changes_mode (asks.DropTable x) h
  carried_out_mode (asks.CreateIndex x) h = changes_mode (asks.CreateIndex x) h
  carried_out_mode (asks.DropIndex x) h = changes_mode (asks.DropIndex x) h
  carried_out_mode (asks.Insert x) h = changes_mode (asks.Insert x) h
  carried_out_mode (asks.Update x) h = changes_mode (asks.Update x) h
  carried_out_mode (asks.Delete x) h = changes_mode (asks.Delete x) h
  carried_out_mode (asks.Commit work) h = ends_mode session.transaction h
  carried_out_mode (asks.Rollback work) h = undoes_mode session.transaction h
  carried_out_mode (asks.SetTransaction mode) h = sets_mode session.transaction refl mode h
  carried_out_mode (asks.DeclareCursor x) h = declares_mode x h
  carried_out_mode (asks.OpenCursor name) h = opens_mode name h
  carried_out_mode (asks.Fetch name) h = fetches_mode session.transaction name h
  carried_out_mode (asks.CloseCursor name) h = closes_mode session.transaction name h

  withholds_mode : (text : Bytes) → Withholds session text reply effect → LeavesMode effect
  withholds_mode text (Withholds.of_memory other r) = nothing r.leaves_all
  withholds_mode text (Withholds.of_store refusal x of other read shut r) = nothing r.leaves_all
  withholds_mode text (Withholds.closes refusal u name reserved read has is says e) = becomes (without_cursor u name) e

  replies_mode : (text : Bytes) → Replies rules session t obstacle text reply effect → LeavesMode effect
  replies_mode text (Replies.unread refusal why r) = nothing r.leaves_all
  replies_mode text (Replies.carried_out x read h) = carried_out_mode x h
  replies_mode text (Replies.withheld h) = withholds_mode text h

  opens_query_mode : (text : Bytes) → OpensQuery rules session t text reply effect → LeavesMode effect
  opens_query_mode text (OpensQuery.unread refusal why r) = nothing r.leaves_all
  opens_query_mode text (OpensQuery.other x read is r) = nothing r.leaves_all
  opens_query_mode text (OpensQuery.open_already x read is r) = nothing r.leaves_all
  opens_query_mode text (OpensQuery.wrong x refusal read is why r) = nothing r.leaves_all
  opens_query_mode text (OpensQuery.opens x query outcome read is m same says e) = becomes (with_unnamed t (Some (record { outcome = outcome; given = [] }))) e
  opens_query_mode text (OpensQuery.withheld refusal of r) = nothing r.leaves_all

  takes_in_mode : (u : Transaction) (count : ℕ) → TakesIn session u count reply effect → LeavesMode effect
  takes_in_mode u count (TakesIn.not_open is r) = nothing r.leaves_all
  takes_in_mode u count (TakesIn.all cursor rows is may long says e) = becomes (with_unnamed u (Some (having_given cursor rows))) e
  takes_in_mode u count (TakesIn.fewer cursor rows is few end says e) = becomes (with_unnamed u (Some (having_given cursor rows))) e
  takes_in_mode u count (TakesIn.raises cursor fault is some may says e) = becomes (with_unnamed u None) e
  takes_in_mode u count (TakesIn.withheld refusal cursor is of says e) = becomes (with_unnamed u None) e

  takes_mode : (u : Option Transaction) (count : ℕ) → TakesRows session u count reply effect → LeavesMode effect
  takes_mode None count r = nothing r.leaves_all
  takes_mode (Some u) count h = takes_in_mode u count h

  closes_query_in_mode : (u : Transaction) → ClosesQueryIn session u reply effect → LeavesMode effect
  closes_query_in_mode u (ClosesQueryIn.not_open is r) = nothing r.leaves_all
  closes_query_in_mode u (ClosesQueryIn.closes is says e) = becomes (with_unnamed u None) e

  closes_query_mode : (u : Option Transaction) → ClosesQuery session u reply effect → LeavesMode effect
  closes_query_mode None r = nothing r.leaves_all
  closes_query_mode (Some u) h = closes_query_in_mode u h

module _ (rules : Rules) (session : Session) (t : Transaction) (obstacle : Option Refusal) (reply : Reply) (effect : Effect)
    (own : IsSoundMode session.next session.transaction) where
  inserts_mode : (table : Name) (rows : List Row) → InsertsRows rules session t obstacle table rows reply effect → LeavesMode effect
  inserts_mode table rows (InsertsRows.changes x h) = changes_mode (inserting rules table rows) session t obstacle reply effect own x h
  inserts_mode table rows (InsertsRows.withheld refusal of r) = nothing rules session t obstacle reply effect own r.leaves_all

  pub call_mode : (asked : Asked) → Responds rules session t obstacle asked reply effect → LeavesMode effect
  call_mode (Asked.Text text) h = replies_mode rules session t obstacle reply effect own text h
  call_mode (Asked.Query text) h = opens_query_mode rules session t obstacle reply effect own text h
  call_mode (Asked.Rows count) h = takes_mode rules session t obstacle reply effect own session.transaction count h
  call_mode Asked.Close h = closes_query_mode rules session t obstacle reply effect own session.transaction h
  call_mode (Asked.Insert table rows) h = inserts_mode table rows h
