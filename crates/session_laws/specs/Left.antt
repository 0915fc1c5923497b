-- What a refused call leaves.
use Rattle.std.specs.Prelude.{◌≡◌, ◌⊎◌, ℕ, true, Some}
use Rattle.std.specs.FinMap.{get}
use Rattle.refusals.specs.declared.refusal.Refusal.{Refusal}
use Rattle.refusals.specs.declared.refusal.Refusal.TheVariants.{SerializationFailure}
use Rattle.lexer.specs.Token.{Bytes}
use Rattle.ast.specs.declared.statement.Statement.TheVariants as asks
use Rattle.denote.specs.Database.{Name}
use Rattle.session_definitions.specs.Effect.{rolled_back}
use Rattle.statement_definitions.specs.Reading.{IsRead}
use Rattle.session_definitions.specs.Transactions.{active, is_open, without_cursor}
use Rattle.session_definitions.specs.World.{Transaction, Session, World, with_session}

-- the text is a FETCH
abbrev pub IsFetch : Bytes → Type 0
IsFetch text = (name : Name) × IsRead text (asks.Fetch name)

-- the world is as before, but that the session's transaction is rolled back
pub record HasRolledBack (old : World) (s : ℕ) (new : World) : Type 0 where
  pub session : Session
  pub stands : get old.sessions s ≡ Some session
  pub leaves : new ≡ rolled_back old s session

-- The world is as before, but that the session, which has a transaction, has closed this cursor,
-- which was open.
pub record HasClosed (old : World) (s : ℕ) (name : Name) (new : World) : Type 0 where
  pub session : Session
  pub stands : get old.sessions s ≡ Some session
  pub transaction : Transaction
  pub has : session.transaction ≡ Some transaction
  pub was_open : is_open transaction name ≡ true
  pub leaves : new ≡ with_session old s (active session (without_cursor transaction name))

-- The world is as it was; or a serialization failure has rolled back the session's transaction; or
-- a FETCH has closed its cursor.
abbrev pub LeavesAlmostAll : World → ℕ → Bytes → Refusal → World → Type 0
LeavesAlmostAll old s text refusal new =
    (new ≡ old)
    ⊎ ((refusal ≡ SerializationFailure) × HasRolledBack old s new)
    ⊎ ((name : Name) × IsRead text (asks.Fetch name) × HasClosed old s name new)
