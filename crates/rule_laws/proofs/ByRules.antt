-- A call over good databases that is a step by some rules of names and types is one by all.
use Rattle.std.proofs.Common.{◌≡◌, sym, ◌∙◌, subst, ℕ, List, Option, Some, None, refl}
use Rattle.std.specs.Option.{unwrap_or}
use Rattle.sqlval.specs.Value.{Row}
use Rattle.refusals.specs.declared.refusal.Refusal.{Refusal}
use Rattle.lexer.specs.Token.{Bytes}
use Rattle.ast.specs.declared.statement.OrderedQuery.{OrderedQuery}
use Rattle.ast.specs.declared.statement.Statement.{Statement}
use Rattle.ast.specs.declared.statement.Statement.TheVariants as asks
use Rattle.typing.specs.declared.statement.Change.{Change}
use Rattle.typing.specs.declared.statement.Typed.{Typed}
use Rattle.typing.specs.declared.statement.Typed.TheVariants as does
use Rattle.denote.specs.Change.{Changed, IsAccepted, IsNamed, IsRaised, changed}
use Rattle.denote.specs.Database.{Database, IsGood, Name}
use Rattle.replies.specs.declared.reply.Reply.{Reply}
use Rattle.session_definitions.specs.Asked.{Asked}
use Rattle.session_definitions.specs.Calls.{InsertsRows, OpensQuery}
use Rattle.session_definitions.specs.Effect.{Effect}
use Rattle.session_definitions.specs.InsertedRows.{inserting}
use Rattle.session_definitions.specs.Rules.{AreRules, IsReason, Means, Rules}
use Rattle.session_definitions.specs.Statements.{CarriesOut, Changes, Explains, Opens, Queries}
use Rattle.session_definitions.specs.Step.{Call, Replies, Responds}
use Rattle.session_definitions.specs.Transactions.{begun, obstacle, starting}
use Rattle.session_definitions.specs.World.{Session, Transaction, World}
use Rattle.session_laws.specs.Sound.{IsGoodWorld}
use Rattle.rule_laws.proofs.Changed.{same_changed}

module _ (rules others : Rules) (are : AreRules rules) (also : AreRules others) where
  means : (db : Database) (x : Statement) (typed : Typed) → Means rules db x typed → Means others db x typed
  means db x typed h = record {
    schema = h.schema;
    of_database = h.of_database;
    found = also.statements h.schema x ∙ sym (are.statements h.schema x) ∙ h.found;
  }

  reason : (db : Database) (x : Statement) (refusal : Refusal) → IsReason rules db x refusal → IsReason others db x refusal
  reason db x refusal h = record {
    schema = h.schema;
    of_database = h.of_database;
    reasons = h.reasons;
    found = also.statements h.schema x ∙ sym (are.statements h.schema x) ∙ h.found;
    one = h.one;
  }

  module _ (session : Session) (t : Transaction) (reply : Reply) (effect : Effect) where
    queries : (x : OrderedQuery) → Queries rules session t x reply effect → Queries others session t x reply effect
    queries x (Queries.wrong refusal why r) = Queries.wrong refusal (reason t.working (asks.Query x) refusal why) r
    queries x (Queries.gives query rows m a is e) = Queries.gives query rows (means t.working (asks.Query x) (does.Query query) m) a is e
    queries x (Queries.raises query fault m a r) = Queries.raises query fault (means t.working (asks.Query x) (does.Query query) m) a r

    explains : (x : OrderedQuery) → Explains rules session t x reply effect → Explains others session t x reply effect
    explains x (Explains.wrong refusal why r) = Explains.wrong refusal (reason t.working (asks.Explain x) refusal why) r
    explains x (Explains.shows query lines m is e) = Explains.shows query lines (means t.working (asks.Explain x) (does.Explain query) m) is e

    opens : (name : Name) → Opens rules session t name reply effect → Opens others session t name reply effect
    opens name (Opens.open_already is r) = Opens.open_already is r
    opens name (Opens.undeclared is r) = Opens.undeclared is r
    opens name (Opens.wrong x refusal is d why r) = Opens.wrong x refusal is d (reason t.working (asks.Query x) refusal why) r
    opens name (Opens.opens x query outcome is d m same says e) = Opens.opens x query outcome is d (means t.working (asks.Query x) (does.Query query) m) same says e

    module _ (obstacle : Option Refusal) (good : IsGood rules.check t.working) where
      same : (change : Change) → changed rules.check t.working change ≡ changed others.check t.working change
      same change = sym (same_changed rules.check others.check are.checks also.checks t.working (λ name table is. (good name table is).alone.readable) change)

      inserted_means : (table : Name) (rows : List Row) (x : Statement) (change : Change) → Means (inserting rules table rows) t.working x (does.Change change)
          → Means (inserting others table rows) t.working x (does.Change change)
      inserted_means table rows x change h = record { schema = h.schema; of_database = h.of_database; found = h.found }

      inserted_reason : (table : Name) (rows : List Row) (x : Statement) (refusal : Refusal) → IsReason (inserting rules table rows) t.working x refusal
          → IsReason (inserting others table rows) t.working x refusal
      inserted_reason table rows x refusal h = record { schema = h.schema; of_database = h.of_database; reasons = h.reasons; found = h.found; one = h.one }

      changes : (x : Statement) → Changes rules session t obstacle x reply effect → Changes others session t obstacle x reply effect
      changes x (Changes.reads_only o r) = Changes.reads_only o r
      changes x (Changes.has_cursor o r) = Changes.has_cursor o r
      changes x (Changes.overtaken o is e) = Changes.overtaken o is e
      changes x (Changes.wrong refusal o why r) = Changes.wrong refusal o (reason t.working x refusal why) r
      changes x (Changes.makes change db count o m a is e) =
          Changes.makes change db count o (means t.working x (does.Change change) m) (subst (λ (c : Changed). IsAccepted c db count) (same change) a) is e
      changes x (Changes.raises change fault o m f r) =
          Changes.raises change fault o (means t.working x (does.Change change) m) (subst (λ (c : Changed). IsRaised c fault) (same change) f) r
      changes x (Changes.violates change name o m n r) =
          Changes.violates change name o (means t.working x (does.Change change) m) (subst (λ (c : Changed). IsNamed c name) (same change) n) r

      carries_out : (x : Statement) → CarriesOut rules session t obstacle x reply effect → CarriesOut others session t obstacle x reply effect
      carries_out (asks.Query x) h = queries x h
      carries_out (asks.Explain x) h = explains x h
      carries_out (asks.CreateTable x) h = changes (asks.CreateTable x) h
      carries_out (asks.DropTable x) h = changes (asks.DropTable x) h
      carries_out (asks.CreateIndex x) h = changes (asks.CreateIndex x) h
      carries_out (asks.DropIndex x) h = changes (asks.DropIndex x) h
      carries_out (asks.Insert x) h = changes (asks.Insert x) h
      carries_out (asks.Update x) h = changes (asks.Update x) h
      carries_out (asks.Delete x) h = changes (asks.Delete x) h
      carries_out (asks.Commit work) h = h
      carries_out (asks.Rollback work) h = h
      carries_out (asks.SetTransaction mode) h = h
      carries_out (asks.DeclareCursor x) h = h
      carries_out (asks.OpenCursor name) h = opens name h
      carries_out (asks.Fetch name) h = h
      carries_out (asks.CloseCursor name) h = h

      replies : (text : Bytes) → Replies rules session t obstacle text reply effect → Replies others session t obstacle text reply effect
      replies text (Replies.unread refusal u r) = Replies.unread refusal u r
      replies text (Replies.carried_out x read h) = Replies.carried_out x read (carries_out x h)
      replies text (Replies.withheld w) = Replies.withheld w

      opens_query : (text : Bytes) → OpensQuery rules session t text reply effect → OpensQuery others session t text reply effect
      opens_query text (OpensQuery.unread refusal u r) = OpensQuery.unread refusal u r
      opens_query text (OpensQuery.other x read is r) = OpensQuery.other x read is r
      opens_query text (OpensQuery.open_already x read is r) = OpensQuery.open_already x read is r
      opens_query text (OpensQuery.wrong x refusal read is why r) = OpensQuery.wrong x refusal read is (reason t.working (asks.Query x) refusal why) r
      opens_query text (OpensQuery.opens x query outcome read is m alike says e) =
          OpensQuery.opens x query outcome read is (means t.working (asks.Query x) (does.Query query) m) alike says e
      opens_query text (OpensQuery.withheld refusal of r) = OpensQuery.withheld refusal of r

      -- what is inserted is found by no rule of texts
      inserted : (table : Name) (rows : List Row) (x : Statement) → Changes (inserting rules table rows) session t obstacle x reply effect
          → Changes (inserting others table rows) session t obstacle x reply effect
      inserted table rows x (Changes.reads_only o r) = Changes.reads_only o r
      inserted table rows x (Changes.has_cursor o r) = Changes.has_cursor o r
      inserted table rows x (Changes.overtaken o is e) = Changes.overtaken o is e
      inserted table rows x (Changes.wrong refusal o why r) = Changes.wrong refusal o (inserted_reason table rows x refusal why) r
      inserted table rows x (Changes.makes change db count o m a is e) =
          Changes.makes change db count o (inserted_means table rows x change m) (subst (λ (c : Changed). IsAccepted c db count) (same change) a) is e
      inserted table rows x (Changes.raises change fault o m f r) =
          Changes.raises change fault o (inserted_means table rows x change m) (subst (λ (c : Changed). IsRaised c fault) (same change) f) r
      inserted table rows x (Changes.violates change name o m n r) =
          Changes.violates change name o (inserted_means table rows x change m) (subst (λ (c : Changed). IsNamed c name) (same change) n) r

      inserts : (table : Name) (rows : List Row) → InsertsRows rules session t obstacle table rows reply effect → InsertsRows others session t obstacle table rows reply effect
      inserts table rows (InsertsRows.changes x h) = InsertsRows.changes x (inserted table rows x h)
      inserts table rows (InsertsRows.withheld refusal of r) = InsertsRows.withheld refusal of r

      responds : (asked : Asked) → Responds rules session t obstacle asked reply effect → Responds others session t obstacle asked reply effect
      responds (Asked.Text text) h = replies text h
      responds (Asked.Query text) h = opens_query text h
      responds (Asked.Rows count) h = h
      responds Asked.Close h = h
      responds (Asked.Insert table rows) h = inserts table rows h

  -- the transaction in which a statement of a session runs works on a good database
  good_begun : (w : World) (session : Session) (u : Option Transaction) → IsGood rules.check w.last → ((t : Transaction) → u ≡ Some t → IsGood rules.check t.working)
      → IsGood rules.check (unwrap_or u (starting w session.next)).working
  good_begun w session None last own = last
  good_begun w session (Some t) last own = own t refl

  pub call_by : (old : World) (s : ℕ) (asked : Asked) (reply : Reply) (effect : Effect) (new : World) → IsGoodWorld rules.check old → Call rules old s asked reply effect new
      → Call others old s asked reply effect new
  call_by old s asked reply effect new good call = record {
    session = call.session;
    stands = call.stands;
    replies = responds call.session (begun old call.session) reply effect (obstacle old s call.session)
        (good_begun old call.session call.session.transaction good.last (λ t is. (good.transactions s call.session t call.stands is).1)) asked call.replies;
    leaves = call.leaves;
  }
