-- No reply is X0004.
use Rattle.std.proofs.Common.{◌≡◌, ℕ, zero, suc, false, ◌||◌, List, [], ◌∷◌, Option, Some, None, Err, refl, ap, ◌∙◌, inl, inr}
use Rattle.refusals.specs.declared.refusal.Refusal.{Refusal}
use Rattle.sqlval.specs.declared.schema.Schema.{Schema}
use Rattle.lexer.specs.Token.{Bytes}
use Rattle.ast.specs.declared.statement.AccessMode.{AccessMode}
use Rattle.ast.specs.declared.statement.DeclareCursor.{DeclareCursor}
use Rattle.ast.specs.declared.statement.OrderedQuery.{OrderedQuery}
use Rattle.ast.specs.declared.statement.Statement.{Statement}
use Rattle.ast.specs.declared.statement.Statement.TheVariants as asks
use Rattle.typing.specs.Statement.{statement_found}
use Rattle.typing_laws.specs.Reasons.{IsReasoned}
use Rattle.denote.specs.Database.{Name}
use Rattle.replies.specs.declared.reply.Reply.{Reply}
use Rattle.script_pieces.specs.PieceMeaning.{Request}
use Rattle.session_definitions.specs.Effect.{Effect}
use Rattle.session_definitions.specs.Refusals.{Refuses}
use Rattle.session_definitions.specs.Rules.{Rules, AreRules}
use Rattle.session_definitions.specs.Run.{MakesSession}
use Rattle.session_definitions.specs.Script.{Scene, Plays, RepliesToFlush, Performs, ArePlayed, choosing}
use Rattle.session_definitions.specs.Statements.{Queries, Explains, Changes, Ends, Undoes, SetsMode, Declares, Opens, FetchesIn, Fetches, ClosesIn, Closes, CarriesOut, counted}
use Rattle.session_definitions.specs.Step.{Withholds, Replies, Step}
use Rattle.session_definitions.specs.Transactions.{begun, obstacle}
use Rattle.session_definitions.specs.World.{Transaction, Session, World}
use Rattle.session_laws.specs.Damage.{is_damage, tells_damage, shows_damage, has_damage}
use Rattle.session_laws.proofs.Refusals.{of_store, reserved, of_flush, of_fault, of_text, of_rules}

refuses : (refusal : Refusal) (reply : Reply) (effect : Effect) → is_damage refusal ≡ false → Refuses refusal reply effect → tells_damage reply ≡ false
refuses refusal reply effect other r = ap tells_damage r.says_so ∙ other

counts : (count : Option ℕ) → tells_damage (counted count) ≡ false
counts None = refl
counts (Some zero) = refl
counts (Some (suc n)) = refl

withholds : (session : Session) (text : Bytes) (reply : Reply) (effect : Effect) → Withholds session text reply effect → tells_damage reply ≡ false
withholds session text reply effect (Withholds.of_memory other r) = refuses _ reply effect refl r
withholds session text reply effect (Withholds.of_store refusal x is other read shut r) = refuses refusal reply effect (of_store refusal is) r
withholds session text reply effect (Withholds.closes refusal t name is read has opens e leaves) = ap tells_damage e ∙ reserved refusal is

ends : (u : Option Transaction) (reply : Reply) (effect : Effect) → Ends u reply effect → tells_damage reply ≡ false
ends None reply effect h = ap tells_damage h.0
ends (Some t) reply effect h = ap tells_damage h.0

undoes : (u : Option Transaction) (reply : Reply) (effect : Effect) → Undoes u reply effect → tells_damage reply ≡ false
undoes None reply effect h = ap tells_damage h.0
undoes (Some t) reply effect h = ap tells_damage h.0

sets : (session : Session) (u : Option Transaction) (mode : AccessMode) (reply : Reply) (effect : Effect) → SetsMode session u mode reply effect → tells_damage reply ≡ false
sets session None mode reply effect h = ap tells_damage h.0
sets session (Some t) mode reply effect r = refuses _ reply effect refl r

declares : (session : Session) (x : DeclareCursor) (reply : Reply) (effect : Effect) → Declares session x reply effect → tells_damage reply ≡ false
declares session x reply effect (Declares.open_already there r) = refuses _ reply effect refl r
declares session x reply effect (Declares.too_many shut new most r) = refuses _ reply effect refl r
declares session x reply effect (Declares.declares shut room is e) = ap tells_damage is

fetches_in : (session : Session) (t : Transaction) (name : Name) (reply : Reply) (effect : Effect) → FetchesIn session t name reply effect → tells_damage reply ≡ false
fetches_in session t name reply effect (FetchesIn.not_open shut r) = refuses _ reply effect refl r
fetches_in session t name reply effect (FetchesIn.gives cursor row there may is e) = ap tells_damage is
fetches_in session t name reply effect (FetchesIn.ends cursor there at_end is e) = ap tells_damage is
fetches_in session t name reply effect (FetchesIn.raises cursor raised there may is e) = ap tells_damage is ∙ of_fault raised

fetches : (session : Session) (u : Option Transaction) (name : Name) (reply : Reply) (effect : Effect) → Fetches session u name reply effect → tells_damage reply ≡ false
fetches session None name reply effect r = refuses _ reply effect refl r
fetches session (Some t) name reply effect h = fetches_in session t name reply effect h

closes_in : (session : Session) (t : Transaction) (name : Name) (reply : Reply) (effect : Effect) → ClosesIn session t name reply effect → tells_damage reply ≡ false
closes_in session t name reply effect (ClosesIn.not_open shut r) = refuses _ reply effect refl r
closes_in session t name reply effect (ClosesIn.closes there is e) = ap tells_damage is

closes : (session : Session) (u : Option Transaction) (name : Name) (reply : Reply) (effect : Effect) → Closes session u name reply effect → tells_damage reply ≡ false
closes session None name reply effect r = refuses _ reply effect refl r
closes session (Some t) name reply effect h = closes_in session t name reply effect h

not_made : (old new : World) (refusal : Refusal) → MakesSession old (Err refusal) new → is_damage refusal ≡ false
not_made old new refusal (inl full, same) = ap is_damage full.1
not_made old new refusal (inr room, same) = ap is_damage room.1

flushes : (reply : Reply) → RepliesToFlush reply → tells_damage reply ≡ false
flushes reply (inl is) = ap tells_damage is
flushes reply (inr (refusal, stops, is)) = ap tells_damage is ∙ of_flush refusal stops

module _ (rules : Rules) (are : AreRules rules) (reasoned : (tree : Statement) (schema : Schema) → IsReasoned (statement_found tree schema)) where
  module _ (session : Session) (t : Transaction) (stands : Option Refusal) (reply : Reply) (effect : Effect) where
    queries : (x : OrderedQuery) → Queries rules session t x reply effect → tells_damage reply ≡ false
    queries x (Queries.wrong refusal why r) = refuses refusal reply effect (of_rules rules t.working (asks.Query x) refusal are reasoned why) r
    queries x (Queries.gives query rows m a is e) = ap tells_damage is
    queries x (Queries.raises query raised m a r) = refuses _ reply effect (of_fault raised) r

    explains : (x : OrderedQuery) → Explains rules session t x reply effect → tells_damage reply ≡ false
    explains x (Explains.wrong refusal why r) = refuses refusal reply effect (of_rules rules t.working (asks.Explain x) refusal are reasoned why) r
    explains x (Explains.shows query lines m is e) = ap tells_damage is

    changes : (x : Statement) → Changes rules session t stands x reply effect → tells_damage reply ≡ false
    changes x (Changes.reads_only o r) = refuses _ reply effect refl r
    changes x (Changes.has_cursor o r) = refuses _ reply effect refl r
    changes x (Changes.overtaken o is e) = ap tells_damage is
    changes x (Changes.wrong refusal o why r) = refuses refusal reply effect (of_rules rules t.working x refusal are reasoned why) r
    changes x (Changes.makes change db count o m a is e) = ap tells_damage is ∙ counts count
    changes x (Changes.raises change raised o m f r) = refuses _ reply effect (of_fault raised) r
    changes x (Changes.violates change name o m f r) = refuses _ reply effect refl r

    opens : (name : Name) → Opens rules session t name reply effect → tells_damage reply ≡ false
    opens name (Opens.open_already there r) = refuses _ reply effect refl r
    opens name (Opens.undeclared none r) = refuses _ reply effect refl r
    opens name (Opens.wrong x refusal shut there why r) = refuses refusal reply effect (of_rules rules t.working (asks.Query x) refusal are reasoned why) r
    opens name (Opens.opens x query outcome shut there m same is e) = ap tells_damage is

    carried_out : (x : Statement) → CarriesOut rules session t stands x reply effect → tells_damage reply ≡ false
    carried_out (asks.Query x) h = queries x h
    carried_out (asks.Explain x) h = explains x h
    carried_out (asks.CreateTable x) h = changes (asks.CreateTable x) h
    carried_out (asks.DropTable x) h = changes (asks.DropTable x) h
    carried_out (asks.CreateIndex x) h = changes (asks.CreateIndex x) h
    carried_out (asks.DropIndex x) h = changes (asks.DropIndex x) h
    carried_out (asks.Insert x) h = changes (asks.Insert x) h
    carried_out (asks.Update x) h = changes (asks.Update x) h
    carried_out (asks.Delete x) h = changes (asks.Delete x) h
    carried_out (asks.Commit work) h = ends session.transaction reply effect h
    carried_out (asks.Rollback work) h = undoes session.transaction reply effect h
    carried_out (asks.SetTransaction mode) h = sets session session.transaction mode reply effect h
    carried_out (asks.DeclareCursor x) h = declares session x reply effect h
    carried_out (asks.OpenCursor name) h = opens name h
    carried_out (asks.Fetch name) h = fetches session session.transaction name reply effect h
    carried_out (asks.CloseCursor name) h = closes session session.transaction name reply effect h

    replies : (text : Bytes) → Replies rules session t stands text reply effect → tells_damage reply ≡ false
    replies text (Replies.unread refusal is r) = refuses refusal reply effect (of_text text refusal is) r
    replies text (Replies.carried_out x read h) = carried_out x h
    replies text (Replies.withheld h) = withholds session text reply effect h

  pub steps : (old new : World) (s : ℕ) (text : Bytes) (reply : Reply) → Step rules old s text reply new → tells_damage reply ≡ false
  steps old new s text reply (effect, call) =
      replies call.session (begun old call.session) (obstacle old s call.session) reply effect text call.replies

  plays : (old : Scene) (text : Bytes) (reply : Reply) (new : Scene) → Plays rules old text reply new → tells_damage reply ≡ false
  plays old text reply new (Plays.stands_already s w is step leaves) = steps old.world w s text reply step
  plays old text reply new (Plays.made_now s mid w is made step leaves) = steps mid w s text reply step
  plays old text reply new (Plays.not_made refusal w is made says leaves) = ap tells_damage says ∙ not_made old.world w refusal made

  performs : (old : Scene) (request : Request) (printed : Option Reply) (new : Scene) → Performs rules old request printed new → shows_damage printed ≡ false
  performs old Request.Nothing printed new h = ap shows_damage h.0
  performs old (Request.Chooses k) printed new h = ap shows_damage h.0
  performs old (Request.Calls text) printed new (reply, played, is) = ap shows_damage is ∙ plays old text reply new played
  performs old (Request.ChoosesAndCalls k text) printed new (reply, played, is) = ap shows_damage is ∙ plays (choosing old k) text reply new played
  performs old Request.Flushes printed new (reply, flushed, is, same) = ap shows_damage is ∙ flushes reply flushed
  performs old Request.Wrong printed new h = ap shows_damage h.0

  pub scripts : (old new : Scene) (pieces : List (List ℕ)) (replies : List (Option Reply)) → ArePlayed rules old pieces replies new → has_damage replies ≡ false
  scripts old new [] replies h = ap has_damage h.0
  scripts old new (piece ∷ pieces) replies (request, reply, mid, others, asks, performed, rest, whole) =
      ap has_damage whole ∙ ap (λ b. b || has_damage others) (performs old request reply mid performed) ∙ scripts mid new pieces others rest
