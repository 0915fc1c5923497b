-- What holds of every world that a run comes to.
use Rattle.std.specs.Prelude.{◌≡◌, ℕ, ◌≤◌, Bool, true, false, Option, Some, None}
use Rattle.std.specs.FinMap.{get}
use Rattle.ast.specs.declared.statement.AccessMode.{AccessMode}
use Rattle.ast.specs.declared.statement.AccessMode.TheVariants.{ReadWrite}
use Rattle.denote.specs.Database.{Database, CheckReading, IsGood}
use Rattle.session_definitions.specs.World.{Transaction, Session, World, is_live, is_writer}

-- A transaction, in a world with so many commits and this last database; the third argument says
-- whether its session is the writer. It began at a commit that there was. If that is the last one,
-- it found the last database. Unless it has written, it works on the database that it found. The
-- writer's began at the last commit.
pub record IsSoundTransaction (commits : ℕ) (last : Database) (writes : Bool) (t : Transaction) : Type 0 where
  pub past : t.beginning ≤ commits
  pub present : t.beginning ≡ commits → t.found ≡ last
  pub unwritten : writes ≡ false → t.working ≡ t.found
  pub written : writes ≡ true → t.beginning ≡ commits

-- an idle session is not the writer
abbrev pub IsSoundSession : ℕ → Database → Bool → Option Transaction → Type 0
IsSoundSession commits last writes None = writes ≡ false
IsSoundSession commits last writes (Some t) = IsSoundTransaction commits last writes t

-- the mode of the next transaction is set in an idle session alone
abbrev pub IsSoundMode : AccessMode → Option Transaction → Type 0
IsSoundMode next None = Unit {0}
IsSoundMode next (Some t) = next ≡ ReadWrite

pub record IsSound (w : World) : Type 0 where
  pub sessions : (s : ℕ) (session : Session) → get w.sessions s ≡ Some session
      → IsSoundSession w.commits w.last (is_writer w s) session.transaction
  pub modes : (s : ℕ) (session : Session) → get w.sessions s ≡ Some session
      → IsSoundMode session.next session.transaction
  pub writer : (s : ℕ) → is_writer w s ≡ true → is_live w s ≡ true

-- The last committed database is good, and so are those of every transaction: the one that it found
-- and the one that it works on.
pub record IsGoodWorld (reading : CheckReading) (w : World) : Type 0 where
  pub last : IsGood reading w.last
  pub transactions : (s : ℕ) (session : Session) (t : Transaction) → get w.sessions s ≡ Some session
      → session.transaction ≡ Some t
      → IsGood reading t.found × IsGood reading t.working
