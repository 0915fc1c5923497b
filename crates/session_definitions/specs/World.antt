-- What an engine with sessions stands for: the databases that were committed, and what its sessions
-- are doing. SQL-92 has SQL-transactions and SQL-sessions (ISO/IEC 9075:1992, 4.28, 4.30). One
-- writer at a time, and that each transaction reads the database that stood committed when it
-- began, are our own choice.
use Rattle.std.specs.Prelude.{ℕ, Bool, false, ◌==◌, List, is_some, Option, Some, None}
use Rattle.std.specs.Ordering.{nat_cmp}
use Rattle.std.specs.FinMap.{FinMap, empty, get, insert}
use Rattle.sqlval.specs.Comparison.{text_order}
use Rattle.sqlval.specs.Value.{Row}
use Rattle.ast.specs.declared.statement.AccessMode.{AccessMode}
use Rattle.ast.specs.declared.statement.AccessMode.TheVariants.{ReadWrite}
use Rattle.ast.specs.declared.statement.OrderedQuery.{OrderedQuery}
use Rattle.denote.specs.Database.{Database}
use Rattle.denote.specs.Outcome.{OrderedOutcome}

-- an open cursor: the outcome of its query when it was opened, and the rows that it has given since
pub record Cursor : Type 0 where
  pub outcome : OrderedOutcome
  pub given : List Row

-- A transaction: what it may do, which committed database it found (its number, from 0, and
-- itself), the database that its statements see, its open cursors, and the open one without a name.
pub record Transaction : Type 0 where
  pub mode : AccessMode
  pub beginning : ℕ
  pub found : Database
  pub working : Database
  pub cursors : FinMap text_order Cursor
  pub unnamed : Option Cursor

-- A session: the queries that it declared, as they were written; what its next transaction may do;
-- and its transaction. A session with one is active, one without is idle.
pub record Session : Type 0 where
  pub declared : FinMap text_order OrderedQuery
  pub next : AccessMode
  pub transaction : Option Transaction

-- How many COMMITs there were of a transaction that wrote, since the last open; the last committed
-- database; the session that has written and not yet ended its transaction, if there is one; and
-- the sessions by their numbers.
pub record World : Type 0 where
  pub commits : ℕ
  pub last : Database
  pub writer : Option ℕ
  pub sessions : FinMap nat_cmp Session

-- whether a session of this number stands
abbrev pub is_live : World → ℕ → Bool
is_live w s = is_some (get w.sessions s)

-- whether it is the writer
abbrev pub is_session : ℕ → Option ℕ → Bool
is_session s None = false
is_session s (Some writer) = writer == s

abbrev pub is_writer : World → ℕ → Bool
is_writer w s = is_session s w.writer

-- a session that has just been made
abbrev pub new_session : Session
new_session = record { declared = empty; next = ReadWrite; transaction = None }

-- a database that was opened, and nobody works on it
abbrev pub opened : Database → World
opened db = record { commits = 0; last = db; writer = None; sessions = empty }

-- the world of a new database, which has no tables
abbrev pub new_world : World
new_world = opened empty

-- the world in which this session is as given
abbrev pub with_session : World → ℕ → Session → World
with_session w s session = record w { sessions = insert w.sessions s session }
