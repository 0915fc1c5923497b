-- What a refused call leaves.
use Rattle.std.proofs.Common.{◌≡◌, ◌≢◌, ◌⊎◌, ℕ, zero, suc, true, Option, Some, None, refl, ap, ◌∙◌, inl, inr, is_some}
use Rattle.refusals.specs.declared.refusal.Refusal.{Refusal}
use Rattle.refusals.specs.declared.refusal.Refusal.TheVariants.{SerializationFailure}
use Rattle.lexer.specs.Token.{Bytes}
use Rattle.ast.specs.declared.statement.AccessMode.{AccessMode}
use Rattle.ast.specs.declared.statement.DeclareCursor.{DeclareCursor}
use Rattle.ast.specs.declared.statement.OrderedQuery.{OrderedQuery}
use Rattle.ast.specs.declared.statement.Statement.{Statement}
use Rattle.ast.specs.declared.statement.Statement.TheVariants as asks
use Rattle.denote.specs.Database.{Name}
use Rattle.replies.specs.declared.reply.Reply.TheVariants as says
use Rattle.session_definitions.specs.Effect.{Effect, after}
use Rattle.session_laws.specs.Left.{IsFetch, LeavesAlmostAll}
use Rattle.statement_definitions.specs.Reading.{IsRead}
use Rattle.session_definitions.specs.Rules.{Rules}
use Rattle.session_definitions.specs.Statements.{Queries, Explains, Changes, Ends, Undoes, SetsMode, Declares, Opens, FetchesIn, Fetches, ClosesIn, Closes, CarriesOut, counted}
use Rattle.session_definitions.specs.Step.{Withholds, Replies, Step}
use Rattle.session_definitions.specs.Transactions.{begun, active, is_open, obstacle, without_cursor}
use Rattle.session_definitions.specs.World.{Transaction, Session, World}

-- what the effect of a refused statement can be
abbrev pub IsSlight : Session → Transaction → Refusal → Bytes → Effect → Type 0
IsSlight session t refusal text effect =
    (effect ≡ Effect.Nothing)
    ⊎ ((refusal ≡ SerializationFailure) × (effect ≡ Effect.RollsBack))
    ⊎ ((u : Transaction) × (name : Name) × IsRead text (asks.Fetch name) × (session.transaction ≡ Some u) × (is_open u name ≡ true) × (effect ≡ Effect.Becomes (active session (without_cursor u name))))

never_counted : {A : Type 0} {refusal : Refusal} (count : Option ℕ) → says.Refused refusal ≡ counted count → A
never_counted None is = cc
never_counted (Some zero) is = cc
never_counted (Some (suc n)) is = cc

module _ (rules : Rules) (session : Session) (t : Transaction) (obstacle : Option Refusal) (refusal : Refusal) (effect : Effect) (text : Bytes) where
  queries_slight : (x : OrderedQuery) → Queries rules session t x (says.Refused refusal) effect → IsSlight session t refusal text effect
  queries_slight x (Queries.wrong other why r) = inl r.leaves_all
  queries_slight x (Queries.gives query rows m a is e) = cc
  queries_slight x (Queries.raises query fault m a r) = inl r.leaves_all

  explains_slight : (x : OrderedQuery) → Explains rules session t x (says.Refused refusal) effect → IsSlight session t refusal text effect
  explains_slight x (Explains.wrong other why r) = inl r.leaves_all
  explains_slight x (Explains.shows query lines m is e) = cc

  changes_slight : (x : Statement) → Changes rules session t obstacle x (says.Refused refusal) effect → IsSlight session t refusal text effect
  changes_slight x (Changes.reads_only o r) = inl r.leaves_all
  changes_slight x (Changes.has_cursor o r) = inl r.leaves_all
  changes_slight x (Changes.overtaken o is e) = inr (inl ((cc), e))
  changes_slight x (Changes.wrong other o why r) = inl r.leaves_all
  changes_slight x (Changes.makes change db count o m a is e) = never_counted count is
  changes_slight x (Changes.raises change fault o m f r) = inl r.leaves_all
  changes_slight x (Changes.violates change name o m f r) = inl r.leaves_all

  ends_slight : (u : Option Transaction) → Ends u (says.Refused refusal) effect → IsSlight session t refusal text effect
  ends_slight None h = inl h.1
  ends_slight (Some u) h = let is : says.Refused refusal ≡ says.Done = h.0 in cc

  undoes_slight : (u : Option Transaction) → Undoes u (says.Refused refusal) effect → IsSlight session t refusal text effect
  undoes_slight None h = inl h.1
  undoes_slight (Some u) h = let is : says.Refused refusal ≡ says.Done = h.0 in cc

  sets_slight : (u : Option Transaction) (mode : AccessMode) → SetsMode session u mode (says.Refused refusal) effect → IsSlight session t refusal text effect
  sets_slight None mode h = let is : says.Refused refusal ≡ says.Done = h.0 in cc
  sets_slight (Some u) mode h = inl h.leaves_all

  declares_slight : (x : DeclareCursor) → Declares session x (says.Refused refusal) effect → IsSlight session t refusal text effect
  declares_slight x (Declares.open_already is r) = inl r.leaves_all
  declares_slight x (Declares.too_many is fails many r) = inl r.leaves_all
  declares_slight x (Declares.declares is room done e) = cc

  opens_slight : (name : Name) → Opens rules session t name (says.Refused refusal) effect → IsSlight session t refusal text effect
  opens_slight name (Opens.open_already is r) = inl r.leaves_all
  opens_slight name (Opens.undeclared is r) = inl r.leaves_all
  opens_slight name (Opens.wrong y other is d why r) = inl r.leaves_all
  opens_slight name (Opens.opens y query outcome is d m same done e) = cc

  fetches_in_slight : (u : Transaction) → session.transaction ≡ Some u → (name : Name) → IsRead text (asks.Fetch name)
      → FetchesIn session u name (says.Refused refusal) effect → IsSlight session t refusal text effect
  fetches_in_slight u has name read (FetchesIn.not_open is r) = inl r.leaves_all
  fetches_in_slight u has name read (FetchesIn.gives cursor row is may given e) = cc
  fetches_in_slight u has name read (FetchesIn.ends cursor is end given e) = cc
  fetches_in_slight u has name read (FetchesIn.raises cursor fault is may given e) = inr (inr (u, name, read, has, ap is_some is, e))

  fetches_slight : (u : Option Transaction) → session.transaction ≡ u → (name : Name) → IsRead text (asks.Fetch name)
      → Fetches session u name (says.Refused refusal) effect → IsSlight session t refusal text effect
  fetches_slight None is name read r = inl r.leaves_all
  fetches_slight (Some u) is name read h = fetches_in_slight u is name read h

  closes_in_slight : (u : Transaction) (name : Name) → ClosesIn session u name (says.Refused refusal) effect → IsSlight session t refusal text effect
  closes_in_slight u name (ClosesIn.not_open is r) = inl r.leaves_all
  closes_in_slight u name (ClosesIn.closes is done e) = cc

  closes_slight : (u : Option Transaction) (name : Name) → Closes session u name (says.Refused refusal) effect → IsSlight session t refusal text effect
  closes_slight None name r = inl r.leaves_all
  closes_slight (Some u) name h = closes_in_slight u name h

  carried_out_slight : (x : Statement) → IsRead text x → CarriesOut rules session t obstacle x (says.Refused refusal) effect → IsSlight session t refusal text effect
  carried_out_slight (asks.Query x) read h = queries_slight x h
  carried_out_slight (asks.Explain x) read h = explains_slight x h
  carried_out_slight (asks.CreateTable x) read h = changes_slight (asks.CreateTable x) h
  carried_out_slight (asks.DropTable x) read h = changes_slight (asks.DropTable x) h
  carried_out_slight (asks.CreateIndex x) read h = changes_slight (asks.CreateIndex x) h
  carried_out_slight (asks.DropIndex x) read h = changes_slight (asks.DropIndex x) h
  carried_out_slight (asks.Insert x) read h = changes_slight (asks.Insert x) h
  carried_out_slight (asks.Update x) read h = changes_slight (asks.Update x) h
  carried_out_slight (asks.Delete x) read h = changes_slight (asks.Delete x) h
  carried_out_slight (asks.Commit work) read h = ends_slight session.transaction h
  carried_out_slight (asks.Rollback work) read h = undoes_slight session.transaction h
  carried_out_slight (asks.SetTransaction mode) read h = sets_slight session.transaction mode h
  carried_out_slight (asks.DeclareCursor x) read h = declares_slight x h
  carried_out_slight (asks.OpenCursor name) read h = opens_slight name h
  carried_out_slight (asks.Fetch name) read h = fetches_slight session.transaction refl name read h
  carried_out_slight (asks.CloseCursor name) read h = closes_slight session.transaction name h

  withholds_slight : Withholds session text (says.Refused refusal) effect → IsSlight session t refusal text effect
  withholds_slight (Withholds.of_memory other r) = inl r.leaves_all
  withholds_slight (Withholds.of_store other x of rollback read shut r) = inl r.leaves_all
  withholds_slight (Withholds.closes other u name reserved read has there is e) = inr (inr (u, name, read, has, there, e))

  slight : Replies rules session t obstacle text (says.Refused refusal) effect → IsSlight session t refusal text effect
  slight (Replies.unread other why r) = inl r.leaves_all
  slight (Replies.carried_out x read h) = carried_out_slight x read h
  slight (Replies.withheld h) = withholds_slight h

pub almost_all : (rules : Rules) (old new : World) (s : ℕ) (text : Bytes) (refusal : Refusal)
    → Step rules old s text (says.Refused refusal) new → LeavesAlmostAll old s text refusal new
almost_all rules old new s text refusal (effect, call) =
    decide effect call.leaves (slight rules call.session (begun old call.session) (obstacle old s call.session) refusal effect text call.replies)
  where
    decide : (e : Effect) → new ≡ after old s call.session e → IsSlight call.session (begun old call.session) refusal text e → LeavesAlmostAll old s text refusal new
    decide e is (inl none) = inl (is ∙ ap (after old s call.session) none)
    decide e is (inr (inl (failed, back))) = inr (inl (failed, record { session = call.session; stands = call.stands; leaves = is ∙ ap (after old s call.session) back }))
    decide e is (inr (inr (u, name, read, has, there, closed))) =
        inr (inr (
          name,
          read,
          record {
            session = call.session;
            stands = call.stands;
            transaction = u;
            has = has;
            was_open = there;
            leaves = is ∙ ap (after old s call.session) closed;
          },
        ))

pub unchanged : (rules : Rules) (old new : World) (s : ℕ) (text : Bytes) (refusal : Refusal)
    → Step rules old s text (says.Refused refusal) new → refusal ≢ SerializationFailure → (IsFetch text → ⊥) → new ≡ old
unchanged rules old new s text refusal step no_failure no_fetch = decide (almost_all rules old new s text refusal step)
  where
    decide : LeavesAlmostAll old s text refusal new → new ≡ old
    decide (inl same) = same
    decide (inr (inl (failed, back))) = absurd (no_failure failed)
    decide (inr (inr (name, read, closed))) = absurd (no_fetch (name, read))
