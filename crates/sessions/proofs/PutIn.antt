-- Rows that are put in by a call: what answers as their INSERT answers the call.
use Rattle.std.proofs.Common.{◌≡◌, refl, ℕ, Option}
use Rattle.refusals.specs.declared.refusal.Refusal.{Refusal}
use Rattle.sqlval.specs.Value.{Row}
use Rattle.ast.specs.declared.statement.Statement.{Statement}
use Rattle.ast.specs.declared.statement.Statement.TheVariants as asks
use Rattle.std.specs.Prelude.{List, false}
use Rattle.denote.specs.Database.{Name}
use Rattle.replies.specs.declared.reply.Reply.{Reply}
use Rattle.replies.specs.declared.reply.Reply.TheVariants as says
use Rattle.session_definitions.specs.Asked.{Asked}
use Rattle.session_definitions.specs.Calls.{InsertsRows}
use Rattle.session_definitions.specs.Effect.{Effect}
use Rattle.session_definitions.specs.InsertedRows.{inserting}
use Rattle.session_definitions.specs.Refusals.{IsReserved}
use Rattle.session_definitions.specs.Rules.{Rules}
use Rattle.session_definitions.specs.Statements.{Changes}
use Rattle.store.specs.Stored.{Stored}
use Rattle.transactions.specs.Shown.{Kept, session_of}
use Rattle.transactions.proofs.Obstacles.{runs, stop}
use Rattle.transactions.proofs.Steps.{Answered}

-- any statement is that INSERT, by the rules under which it is made
abbrev pub any : Statement
any = asks.Commit false

module _ (rules : Rules) (table : Name) (rows : List Row) (st : Stored) (w : Option ℕ) (s : ℕ) (kept : Kept) where
  pub answered : (reply : Reply) (effect : Effect) → Changes (inserting rules table rows) (session_of st w s kept) (runs st w s kept) (stop st w s kept) any reply effect
      → Answered rules st w s kept (Asked.Insert table rows) reply effect
  answered reply effect made = InsertsRows.changes any made

  pub withheld : (refusal : Refusal) → IsReserved refusal → Answered rules st w s kept (Asked.Insert table rows) (says.Refused refusal) Effect.Nothing
  withheld refusal reserved = InsertsRows.withheld refusal reserved (record { says_so = refl; leaves_all = refl })
