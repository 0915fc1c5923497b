-- The transaction in which a statement runs, and what stands in the way of a change.
use Rattle.std.specs.Prelude.{ℕ, ◌==◌, nat_lt, Bool, true, false, not, ◌||◌, ◌&&◌, if◌then◌else◌, is_some, Option, Some, None}
use Rattle.std.specs.FinMap.{empty, contains_key, len, insert, remove}
use Rattle.std.specs.Option.{unwrap_or}
use Rattle.refusals.specs.declared.refusal.Refusal.{Refusal}
use Rattle.refusals.specs.declared.refusal.Refusal.TheVariants.{CursorState, TransactionState, SerializationFailure}
use Rattle.ast.specs.declared.statement.AccessMode.{AccessMode}
use Rattle.ast.specs.declared.statement.AccessMode.TheVariants.{ReadOnly, ReadWrite}
use Rattle.denote.specs.Database.{Name}
use Rattle.session_definitions.specs.World.{Cursor, Transaction, Session, World, is_writer}

-- a transaction that begins now, at the last committed database
abbrev pub starting : World → AccessMode → Transaction
starting w mode = record { mode = mode; beginning = w.commits; found = w.last; working = w.last; cursors = empty; unnamed = None }

-- the transaction in which a session's statement runs: its own, or, in an idle session, one that
-- begins now (4.28)
abbrev pub begun : World → Session → Transaction
begun w session = unwrap_or session.transaction (starting w session.next)

-- the session with its transaction as it is after a statement; the mode that was set for the next
-- one is used up (in an active session it was when the transaction began, and SET TRANSACTION is
-- refused there)
abbrev pub active : Session → Transaction → Session
active session t = record { declared = session.declared; next = ReadWrite; transaction = Some t }

-- ---- cursors

abbrev pub is_open : Transaction → Name → Bool
is_open t cursor = contains_key t.cursors cursor

-- whether a session without a transaction, or with one, has an open cursor of this name
abbrev pub is_open_in : Option Transaction → Name → Bool
is_open_in None cursor = false
is_open_in (Some t) cursor = is_open t cursor

-- some cursor is open, with a name or without one
abbrev pub has_open : Transaction → Bool
has_open t = nat_lt 0 (len t.cursors) || is_some t.unnamed

abbrev pub with_cursor : Transaction → Name → Cursor → Transaction
with_cursor t name cursor = record t { cursors = insert t.cursors name cursor }

abbrev pub without_cursor : Transaction → Name → Transaction
without_cursor t name = record t { cursors = remove t.cursors name }

-- the cursor without a name stands so, or is not open
abbrev pub with_unnamed : Transaction → Option Cursor → Transaction
with_unnamed t cursor = record t { unnamed = cursor }

-- ---- changes

abbrev pub is_read_only : AccessMode → Bool
is_read_only ReadOnly = true
is_read_only ReadWrite = false

-- whether another session is the writer
abbrev pub has_other : ℕ → Option ℕ → Bool
has_other s None = false
has_other s (Some writer) = not (writer == s)

-- whether a transaction began before the last commit
abbrev pub began_earlier : ℕ → Option Transaction → Bool
began_earlier commits None = false
began_earlier commits (Some t) = not (t.beginning == commits)

-- whether a change in this session would not be serializable: another session is the writer, or its
-- transaction has not written yet and does not see the last commit
abbrev pub is_overtaken : World → ℕ → Session → Bool
is_overtaken w s session = has_other s w.writer || (not (is_writer w s) && began_earlier w.commits session.transaction)

-- What stands in the way of a change, the first that holds: the transaction only reads (14.1); the
-- session has an open cursor (our own choice); the change would not be serializable (4.28).
abbrev pub obstacle : World → ℕ → Session → Option Refusal
obstacle w s session =
    if is_read_only (begun w session).mode then Some TransactionState
    else (if has_open (begun w session) then Some CursorState
    else (if is_overtaken w s session then Some SerializationFailure else None))
