-- A change of a session is a step.
use Rattle.std.proofs.Common.{◌≡◌, ℕ, Bool, true, false, cond, Option, Some, None, Ok, refl, sym, ap, subst, ◌∙◌}
use Rattle.std.specs.FinMap.{get}
use Rattle.refusals.specs.declared.refusal.Refusal.{Refusal}
use Rattle.refusals.specs.declared.refusal.Refusal.TheVariants.{CursorState, TransactionState, SerializationFailure}
use Rattle.lexer.specs.Token.{Bytes}
use Rattle.ast.specs.declared.statement.Statement.{Statement}
use Rattle.ast.specs.declared.statement.Statement.TheVariants as asks
use Rattle.sqlval.specs.declared.schema.Schema.{Schema}
use Rattle.typing.specs.declared.statement.Change.{Change}
use Rattle.typing.specs.declared.statement.Typed.{Typed}
use Rattle.typing.specs.declared.statement.Typed.TheVariants as does
use Rattle.typing.specs.Statement.{answered_found}
use Rattle.denote.specs.Database.{Database, IsGood}
use Rattle.denote.specs.SchemaOf.{IsSchemaOf}
use Rattle.replies.specs.declared.reply.Reply.{Reply}
use Rattle.replies.specs.declared.reply.Reply.TheVariants as says
use Rattle.statement_definitions.specs.Reading.{IsRead}
use Rattle.statement_definitions.specs.Rollback.{IsRollback}
use Rattle.session_definitions.specs.Asked.{Asked}
use Rattle.session_definitions.specs.Effect.{Effect}
use Rattle.session_definitions.specs.Refusals.{IsReserved}
use Rattle.session_definitions.specs.Rules.{Rules, AreRules, Means}
use Rattle.session_definitions.specs.Statements.{Changes, CarriesOut}
use Rattle.session_definitions.specs.Step.{Replies, fetches_open}
use Rattle.session_definitions.specs.Transactions.{has_open, is_read_only}
use Rattle.session_definitions.specs.World.{Transaction, Session}
use Rattle.store.specs.Contents.{Contents, database_of}
use Rattle.store.specs.Stored.{Found, Stored, SameButMark, begun, ended}
use Rattle.transactions.specs.Moves.{IsClosedIn, Moves}
use Rattle.transactions.specs.Orderly.{IsOrderly, is_too_late}
use Rattle.transactions.specs.Shown.{Kept, opens_any, session_of, settled}
use Rattle.transactions.proofs.Obstacles.{runs, stop}
use Rattle.transactions.proofs.Steps.{Answered, IsShut, withholds}
use Rattle.sessions.specs.Changed.{HasChanged, MakesChange, RefusesChange, RefusesStatement}
use Rattle.sessions.specs.Kinds.{is_change}
use Rattle.sessions.specs.Seen.{seen_in}
use Rattle.sessions.proofs.ChangeCalls as calls
use Rattle.sessions.proofs.Typings.{typed_change, means, Against, read_as}

-- ---- over a version

module _ (rules : Rules) (x : Statement) (schema lent : Schema) (t : Typed) (old mid : Stored)
    (are : AreRules rules) (is : is_change x ≡ true) (lent_is : lent ≡ schema) (same_there : mid ≡ old)
    (of : IsSchemaOf schema (database_of old.working)) (good : IsGood rules.check (database_of old.working)) (found : answered_found x lent ≡ Ok t) where
  stood : (c : Change) × (t ≡ does.Change c) × Means rules (database_of mid.working) x (does.Change c)
  stood =
      let known = read_as x x schema lent t refl lent_is found in
      let c = typed_change x schema t is known in
      let there : Means rules (database_of old.working) x (does.Change c.0) = means rules (database_of old.working) schema x (does.Change c.0) are of (known ∙ ap Ok c.1) in
      (c.0, c.1, subst (λ (st : Stored). Means rules (database_of st.working) x (does.Change c.0)) (sym same_there) there)

  of_there : IsSchemaOf schema (database_of mid.working)
  of_there = subst (λ (st : Stored). IsSchemaOf schema (database_of st.working)) (sym same_there) of

  good_there : IsGood rules.check (database_of mid.working)
  good_there = subst (λ (st : Stored). IsGood rules.check (database_of st.working)) (sym same_there) good

  pub makes_typed : (reply : Reply) (new : Stored)
      → ((c : Change) → t ≡ does.Change c → IsSchemaOf schema (database_of mid.working) → IsGood rules.check (database_of mid.working)
      → Means rules (database_of mid.working) x (does.Change c) → HasChanged rules mid c reply new) → MakesChange rules old x reply new
  makes_typed reply new h = subst (λ (st : Stored). MakesChange rules st x reply new) same_there
      (record { change = stood.0; means = stood.2; made = h stood.0 stood.1 of_there good_there stood.2 })

  pub refuses_typed : (refusal : Refusal)
      → ((c : Change) → t ≡ does.Change c → IsSchemaOf schema (database_of mid.working) → IsGood rules.check (database_of mid.working)
      → Means rules (database_of mid.working) x (does.Change c) → RefusesChange rules (database_of mid.working) c refusal)
      → RefusesStatement rules (database_of old.working) x refusal
  refuses_typed refusal h = subst (λ (st : Stored). RefusesStatement rules (database_of st.working) x refusal) same_there
      (RefusesStatement.refused stood.0 stood.2 (h stood.0 stood.1 of_there good_there stood.2))

pub refuses_wrong : (rules : Rules) (db : Database) (x : Statement) (refusal : Refusal) → Against rules db x refusal → RefusesStatement rules db x refusal
refuses_wrong rules db x refusal (Against.wanting e) = RefusesStatement.withheld (subst IsReserved (sym e) tt)
refuses_wrong rules db x refusal (Against.wrong h) = RefusesStatement.wrong h

-- ---- in a session

carried : (rules : Rules) (session : Session) (t : Transaction) (obstacle : Option Refusal) (x : Statement) (reply : Reply) (effect : Effect) → is_change x ≡ true
    → Changes rules session t obstacle x reply effect → CarriesOut rules session t obstacle x reply effect
carried rules session t obstacle (asks.CreateTable x) reply effect is h = h
carried rules session t obstacle (asks.DropTable x) reply effect is h = h
carried rules session t obstacle (asks.CreateIndex x) reply effect is h = h
carried rules session t obstacle (asks.DropIndex x) reply effect is h = h
carried rules session t obstacle (asks.Insert x) reply effect is h = h
carried rules session t obstacle (asks.Update x) reply effect is h = h
carried rules session t obstacle (asks.Delete x) reply effect is h = h
carried rules session t obstacle _ reply effect is h = absurd (cc)

-- a change is no FETCH
pub no_fetch : (session : Session) (x : Statement) → is_change x ≡ true → fetches_open session x ≡ false
no_fetch session (asks.Fetch name) is = cc
no_fetch session _ is = refl

-- to answer as a change does is to answer the text that is read as it
answers : (rules : Rules) (st : Stored) (w : Option ℕ) (s : ℕ) (kept : Kept) (text : Bytes) (x : Statement) → is_change x ≡ true → IsRead text x
    → (reply : Reply) (effect : Effect) → Changes rules (session_of st w s kept) (runs st w s kept) (stop st w s kept) x reply effect
    → Answered rules st w s kept (Asked.Text text) reply effect
answers rules st w s kept text x is read reply effect made = Replies.carried_out x read (carried rules _ _ _ x _ _ is made)

module _ (rules : Rules) (st : Stored) (w : Option ℕ) (s : ℕ) (kept : Kept) (text : Bytes) (x : Statement)
    (h : IsOrderly st w) (shut : IsClosedIn (get st.readers s) kept) (is : is_change x ≡ true) (read : IsRead text x) where
  pub only_reads : is_read_only kept.mode ≡ true → (new : Stored) → new ≡ st
      → Moves rules s text (says.Refused TransactionState) st w kept new w (settled (get new.readers s) kept)
  only_reads = calls.only_reads rules rules st w s kept (Asked.Text text) x h shut (answers rules st w s kept text x is read)

  module _ (writes : is_read_only kept.mode ≡ false) (opened : Bool) (is_open : (contents : Contents) → opened ≡ opens_any kept contents) where
    pub beside_cursor : opened ≡ true → (new : Stored) → new ≡ st
        → Moves rules s text (says.Refused CursorState) st w kept new w (settled (get new.readers s) kept)
    beside_cursor = calls.beside_cursor rules rules st w s kept (Asked.Text text) x h shut (answers rules st w s kept text x is read) writes opened is_open

    pub comes_late : opened ≡ false → is_too_late st w s ≡ true → (new : Stored) → new ≡ ended st s
        → Moves rules s text (says.Refused SerializationFailure) st w kept new w (settled (get new.readers s) kept)
    comes_late = calls.comes_late rules rules st w s kept (Asked.Text text) x h shut (answers rules st w s kept text x is read) writes opened is_open

    module _ (none : opened ≡ false) (free : is_too_late st w s ≡ false) (mid : Stored) (begins : mid ≡ begun st s) where
      pub good_begun : IsGood rules.check (seen_in st w s) → IsGood rules.check (database_of mid.working)
      good_begun =
          calls.good_begun rules rules st w s kept (Asked.Text text) x h shut (answers rules st w s kept text x is read) writes opened is_open none free mid begins rules.check

      pub makes : IsShut kept → (reply : Reply) (new : Stored) → MakesChange rules mid x reply new
          → Moves rules s text reply st w kept new (Some s) (settled (get new.readers s) kept)
      makes = calls.makes rules rules st w s kept (Asked.Text text) x h shut (answers rules st w s kept text x is read) writes opened is_open none free mid begins

      pub refuses : (refusal : Refusal) (new : Stored) → (IsRollback text → ⊥) → RefusesStatement rules (database_of mid.working) x refusal → SameButMark st new
          → Moves rules s text (says.Refused refusal) st w kept new w (settled (get new.readers s) kept)
      refuses refusal new other =
          calls.refuses rules rules st w s kept (Asked.Text text) x h shut (answers rules st w s kept text x is read) writes opened is_open none free mid begins
          (λ r reserved. withholds rules st w s kept x text r other read (no_fetch (session_of st w s kept) x is) reserved) refusal new
