-- What a reply's effect leaves is good, where the session's transaction and the one in which its
-- statement runs are.
use Rattle.std.proofs.Common.{◌≡◌, ℕ, List, [], ◌∷◌, ◌++◌, Option, Some, None, subst}
use Rattle.sqlval.specs.Value.{Row}
use Rattle.refusals.specs.declared.refusal.Refusal.{Refusal}
use Rattle.lexer.specs.Token.{Bytes}
use Rattle.ast.specs.declared.statement.AccessMode.{AccessMode}
use Rattle.ast.specs.declared.statement.DeclareCursor.{DeclareCursor}
use Rattle.ast.specs.declared.statement.OrderedQuery.{OrderedQuery}
use Rattle.ast.specs.declared.statement.Statement.{Statement}
use Rattle.ast.specs.declared.statement.Statement.TheVariants as asks
use Rattle.typing.specs.declared.statement.Change.{Change}
use Rattle.typing.specs.declared.statement.Typed.TheVariants as does
use Rattle.denote.specs.Database.{Name, IsGood}
use Rattle.denote_laws.specs.Changed.{DeclaresRightly}
use Rattle.statement_definitions.specs.Reading.{IsRead}
use Rattle.replies.specs.declared.reply.Reply.{Reply}
use Rattle.session_definitions.specs.Asked.{Asked}
use Rattle.session_definitions.specs.Calls.{OpensQuery, TakesIn, TakesRows, ClosesQueryIn, ClosesQuery, InsertsRows}
use Rattle.session_definitions.specs.Cursor.{having_given}
use Rattle.session_definitions.specs.Effect.{Effect}
use Rattle.session_definitions.specs.InsertedRows.{inserting}
use Rattle.session_definitions.specs.Rules.{Rules, Means}
use Rattle.session_definitions.specs.Statements.{Queries, Explains, Changes, Ends, Undoes, SetsMode, Declares, Opens, FetchesIn, Fetches, ClosesIn, Closes, CarriesOut}
use Rattle.session_definitions.specs.Step.{Withholds, Replies, Responds}
use Rattle.session_definitions.specs.Transactions.{active, with_cursor, without_cursor, with_unnamed}
use Rattle.session_definitions.specs.World.{Transaction, Session}
use Rattle.session_laws.proofs.GoodDatabases.{accepted_good}
use Rattle.session_laws.proofs.Declarations.{DeclareRightly, NameTheirColumns, inserts_rightly}

module _ (rules : Rules) where
  abbrev pub IsGoodTransaction : Transaction → Type 0
  IsGoodTransaction t = IsGood rules.check t.found × IsGood rules.check t.working

  abbrev pub IsGoodIfAny : Option Transaction → Type 0
  IsGoodIfAny None = Unit {0}
  IsGoodIfAny (Some t) = IsGoodTransaction t

  -- what the effect leaves of the session, or commits, is good
  abbrev pub LeavesGood : Effect → Type 0
  LeavesGood Effect.Nothing = Unit {0}
  LeavesGood (Effect.Becomes x) = IsGoodIfAny x.transaction
  LeavesGood (Effect.Writes x) = IsGoodIfAny x.transaction
  LeavesGood (Effect.Commits t) = IsGood rules.check t.working
  LeavesGood Effect.RollsBack = Unit {0}

  module _ (session : Session) (t : Transaction) (obstacle : Option Refusal) (reply : Reply) (effect : Effect)
      (own : IsGoodIfAny session.transaction) (good : IsGoodTransaction t) where
    its_columns : NameTheirColumns t.working
    its_columns name table is = (good.1 name table is).alone.named

    nothing : effect ≡ Effect.Nothing → LeavesGood effect
    nothing e = rw e tt

    becomes : (u : Transaction) → IsGoodTransaction u → effect ≡ Effect.Becomes (active session u) → LeavesGood effect
    becomes u h e = rw e h

    queries_good : (x : OrderedQuery) → Queries rules session t x reply effect → LeavesGood effect
    queries_good x (Queries.wrong refusal why r) = nothing r.leaves_all
    queries_good x (Queries.gives query rows m a is e) = becomes t good e
    queries_good x (Queries.raises query fault m a r) = nothing r.leaves_all

    explains_good : (x : OrderedQuery) → Explains rules session t x reply effect → LeavesGood effect
    explains_good x (Explains.wrong refusal why r) = nothing r.leaves_all
    explains_good x (Explains.shows query lines m is e) = becomes t good e

    changes_good : (x : Statement) → ((change : Change) → Means rules t.working x (does.Change change) → DeclaresRightly t.working change) → Changes rules session t obstacle x reply effect → LeavesGood effect
    changes_good x rightly (Changes.reads_only o r) = nothing r.leaves_all
    changes_good x rightly (Changes.has_cursor o r) = nothing r.leaves_all
    changes_good x rightly (Changes.overtaken o is e) = rw e tt
    changes_good x rightly (Changes.wrong refusal o why r) = nothing r.leaves_all
    changes_good x rightly (Changes.makes change db count o m a is e) = rw e (good.0, accepted_good rules.check t.working db change count (rightly change m) good.1 a)
    changes_good x rightly (Changes.raises change fault o m f r) = nothing r.leaves_all
    changes_good x rightly (Changes.violates change name o m f r) = nothing r.leaves_all

    ends_good : (u : Option Transaction) → IsGoodIfAny u → Ends u reply effect → LeavesGood effect
    ends_good None is h = nothing h.1
    ends_good (Some u) is h = rw h.1 is.1

    undoes_good : (u : Option Transaction) → Undoes u reply effect → LeavesGood effect
    undoes_good None h = nothing h.1
    undoes_good (Some u) h = rw h.1 tt

    sets_good : (u : Option Transaction) (mode : AccessMode) → SetsMode session u mode reply effect → LeavesGood effect
    sets_good None mode h = rw h.1 own
    sets_good (Some u) mode h = nothing h.leaves_all

    declares_good : (x : DeclareCursor) → Declares session x reply effect → LeavesGood effect
    declares_good x (Declares.open_already is r) = nothing r.leaves_all
    declares_good x (Declares.too_many is fails many r) = nothing r.leaves_all
    declares_good x (Declares.declares is room says e) = rw e own

    opens_good : (name : Name) → Opens rules session t name reply effect → LeavesGood effect
    opens_good name (Opens.open_already is r) = nothing r.leaves_all
    opens_good name (Opens.undeclared is r) = nothing r.leaves_all
    opens_good name (Opens.wrong y refusal is d why r) = nothing r.leaves_all
    opens_good name (Opens.opens y query outcome is d m same says e) = becomes (with_cursor t name (record { outcome = outcome; given = [] })) good e

    fetches_in_good : (u : Transaction) → IsGoodTransaction u → (name : Name) → FetchesIn session u name reply effect → LeavesGood effect
    fetches_in_good u is_good name (FetchesIn.not_open is r) = nothing r.leaves_all
    fetches_in_good u is_good name (FetchesIn.gives cursor row is may says e) =
        becomes (with_cursor u name (record cursor { given = cursor.given ++ row ∷ [] })) is_good e
    fetches_in_good u is_good name (FetchesIn.ends cursor is end says e) = nothing e
    fetches_in_good u is_good name (FetchesIn.raises cursor fault is may says e) = becomes (without_cursor u name) is_good e

    fetches_good : (u : Option Transaction) → IsGoodIfAny u → (name : Name) → Fetches session u name reply effect → LeavesGood effect
    fetches_good None is name r = nothing r.leaves_all
    fetches_good (Some u) is name h = fetches_in_good u is name h

    closes_in_good : (u : Transaction) → IsGoodTransaction u → (name : Name) → ClosesIn session u name reply effect → LeavesGood effect
    closes_in_good u is_good name (ClosesIn.not_open is r) = nothing r.leaves_all
    closes_in_good u is_good name (ClosesIn.closes is says e) = becomes (without_cursor u name) is_good e

    closes_good : (u : Option Transaction) → IsGoodIfAny u → (name : Name) → Closes session u name reply effect → LeavesGood effect
    closes_good None is name r = nothing r.leaves_all
    closes_good (Some u) is name h = closes_in_good u is name h

    carried_out_good : DeclareRightly rules → (text : Bytes) (x : Statement) → IsRead text x → CarriesOut rules session t obstacle x reply effect → LeavesGood effect
    carried_out_good keeps text (asks.Query x) read h = queries_good x h
    carried_out_good keeps text (asks.Explain x) read h = explains_good x h
    carried_out_good keeps text (asks.CreateTable x) read h = changes_good (asks.CreateTable x) (λ change m. keeps text (asks.CreateTable x) t.working change its_columns read m) h
    carried_out_good keeps text (asks.DropTable x) read h = changes_good (asks.DropTable x) (λ change m. keeps text (asks.DropTable x) t.working change its_columns read m) h
    carried_out_good keeps text (asks.CreateIndex x) read h = changes_good (asks.CreateIndex x) (λ change m. keeps text (asks.CreateIndex x) t.working change its_columns read m) h
    carried_out_good keeps text (asks.DropIndex x) read h = changes_good (asks.DropIndex x) (λ change m. keeps text (asks.DropIndex x) t.working change its_columns read m) h
    carried_out_good keeps text (asks.Insert x) read h = changes_good (asks.Insert x) (λ change m. keeps text (asks.Insert x) t.working change its_columns read m) h
    carried_out_good keeps text (asks.Update x) read h = changes_good (asks.Update x) (λ change m. keeps text (asks.Update x) t.working change its_columns read m) h
    carried_out_good keeps text (asks.Delete x) read h = changes_good (asks.Delete x) (λ change m. keeps text (asks.Delete x) t.working change its_columns read m) h
    carried_out_good keeps text (asks.Commit work) read h = ends_good session.transaction own h
    carried_out_good keeps text (asks.Rollback work) read h = undoes_good session.transaction h
    carried_out_good keeps text (asks.SetTransaction mode) read h = sets_good session.transaction mode h
    carried_out_good keeps text (asks.DeclareCursor x) read h = declares_good x h
    carried_out_good keeps text (asks.OpenCursor name) read h = opens_good name h
    carried_out_good keeps text (asks.Fetch name) read h = fetches_good session.transaction own name h
    carried_out_good keeps text (asks.CloseCursor name) read h = closes_good session.transaction own name h

    withholds_good : (text : Bytes) → Withholds session text reply effect → LeavesGood effect
    withholds_good text (Withholds.of_memory other r) = nothing r.leaves_all
    withholds_good text (Withholds.of_store refusal x of other read shut r) = nothing r.leaves_all
    withholds_good text (Withholds.closes refusal u name reserved read has is says e) =
        becomes (without_cursor u name) (subst IsGoodIfAny has own) e

    replies_good : DeclareRightly rules → (text : Bytes) → Replies rules session t obstacle text reply effect → LeavesGood effect
    replies_good keeps text (Replies.unread refusal why r) = nothing r.leaves_all
    replies_good keeps text (Replies.carried_out x read h) = carried_out_good keeps text x read h
    replies_good keeps text (Replies.withheld h) = withholds_good text h

    opens_query_good : (text : Bytes) → OpensQuery rules session t text reply effect → LeavesGood effect
    opens_query_good text (OpensQuery.unread refusal why r) = nothing r.leaves_all
    opens_query_good text (OpensQuery.other x read is r) = nothing r.leaves_all
    opens_query_good text (OpensQuery.open_already x read is r) = nothing r.leaves_all
    opens_query_good text (OpensQuery.wrong x refusal read is why r) = nothing r.leaves_all
    opens_query_good text (OpensQuery.opens x query outcome read is m same says e) =
        becomes (with_unnamed t (Some (record { outcome = outcome; given = [] }))) good e
    opens_query_good text (OpensQuery.withheld refusal of r) = nothing r.leaves_all

    takes_in_good : (u : Transaction) → IsGoodTransaction u → (count : ℕ) → TakesIn session u count reply effect → LeavesGood effect
    takes_in_good u is_good count (TakesIn.not_open is r) = nothing r.leaves_all
    takes_in_good u is_good count (TakesIn.all cursor rows is may long says e) = becomes (with_unnamed u (Some (having_given cursor rows))) is_good e
    takes_in_good u is_good count (TakesIn.fewer cursor rows is few end says e) = becomes (with_unnamed u (Some (having_given cursor rows))) is_good e
    takes_in_good u is_good count (TakesIn.raises cursor fault is some may says e) = becomes (with_unnamed u None) is_good e
    takes_in_good u is_good count (TakesIn.withheld refusal cursor is of says e) = becomes (with_unnamed u None) is_good e

    takes_good : (u : Option Transaction) → IsGoodIfAny u → (count : ℕ) → TakesRows session u count reply effect → LeavesGood effect
    takes_good None is count r = nothing r.leaves_all
    takes_good (Some u) is count h = takes_in_good u is count h

    closes_query_in_good : (u : Transaction) → IsGoodTransaction u → ClosesQueryIn session u reply effect → LeavesGood effect
    closes_query_in_good u is_good (ClosesQueryIn.not_open is r) = nothing r.leaves_all
    closes_query_in_good u is_good (ClosesQueryIn.closes is says e) = becomes (with_unnamed u None) is_good e

    closes_query_good : (u : Option Transaction) → IsGoodIfAny u → ClosesQuery session u reply effect → LeavesGood effect
    closes_query_good None is r = nothing r.leaves_all
    closes_query_good (Some u) is h = closes_query_in_good u is h

module _ (rules : Rules) (session : Session) (t : Transaction) (obstacle : Option Refusal) (reply : Reply) (effect : Effect)
    (own : IsGoodIfAny rules session.transaction) (good : IsGoodTransaction rules t) where
  inserts_good : (table : Name) (rows : List Row) → InsertsRows rules session t obstacle table rows reply effect → LeavesGood rules effect
  inserts_good table rows (InsertsRows.changes x h) =
      changes_good (inserting rules table rows) session t obstacle reply effect own good x (λ change m. inserts_rightly rules table rows x t.working change m) h
  inserts_good table rows (InsertsRows.withheld refusal of r) = nothing rules session t obstacle reply effect own good r.leaves_all

  pub call_good : DeclareRightly rules → (asked : Asked) → Responds rules session t obstacle asked reply effect → LeavesGood rules effect
  call_good keeps (Asked.Text text) h = replies_good rules session t obstacle reply effect own good keeps text h
  call_good keeps (Asked.Query text) h = opens_query_good rules session t obstacle reply effect own good text h
  call_good keeps (Asked.Rows count) h = takes_good rules session t obstacle reply effect own good session.transaction own count h
  call_good keeps Asked.Close h = closes_query_good rules session t obstacle reply effect own good session.transaction own h
  call_good keeps (Asked.Insert table rows) h = inserts_good table rows h
