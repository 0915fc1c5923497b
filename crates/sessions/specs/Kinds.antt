-- Which statements are queries and changes, and which are of cursors.
use Rattle.std.specs.Prelude.{◌≡◌, Bool, true, false}
use Rattle.lexer.specs.Token.{Bytes}
use Rattle.ast.specs.declared.statement.OrderedQuery.{OrderedQuery}
use Rattle.ast.specs.declared.statement.Statement.{Statement}
use Rattle.ast.specs.declared.statement.Statement.TheVariants as asks
use Rattle.denote.specs.Database.{Name}
use Rattle.statement_definitions.specs.Reading.{IsRead}
use Rattle.sessions.specs.declared.kind.Kind.{Kind}
use Rattle.sessions.specs.declared.kind.Kind.TheVariants as kind

-- whether the statement changes tables
abbrev pub is_change : Statement → Bool
is_change (asks.CreateTable x) = true
is_change (asks.DropTable x) = true
is_change (asks.CreateIndex x) = true
is_change (asks.DropIndex x) = true
is_change (asks.Insert x) = true
is_change (asks.Update x) = true
is_change (asks.Delete x) = true
is_change _ = false

-- whether it is DECLARE, OPEN, FETCH or CLOSE
abbrev pub is_of_cursor : Statement → Bool
is_of_cursor (asks.DeclareCursor x) = true
is_of_cursor (asks.OpenCursor x) = true
is_of_cursor (asks.Fetch x) = true
is_of_cursor (asks.CloseCursor x) = true
is_of_cursor _ = false

-- whether it is DECLARE
abbrev pub is_declare : Statement → Bool
is_declare (asks.DeclareCursor x) = true
is_declare _ = false

-- whether it is FETCH
abbrev pub is_fetch : Statement → Bool
is_fetch (asks.Fetch x) = true
is_fetch _ = false

-- whether it is COMMIT, ROLLBACK or SET TRANSACTION
abbrev pub is_of_transaction : Statement → Bool
is_of_transaction (asks.Commit work) = true
is_of_transaction (asks.Rollback work) = true
is_of_transaction (asks.SetTransaction mode) = true
is_of_transaction _ = false

-- the text is a FETCH
abbrev pub IsFetchText : Bytes → Type 0
IsFetchText text = (name : Name) × IsRead text (asks.Fetch name)

-- the text is a query
abbrev pub IsQueryText : Bytes → Type 0
IsQueryText text = (x : OrderedQuery) × IsRead text (asks.Query x)

abbrev pub IsOfKind : Kind → Statement → Type 0
IsOfKind kind.Query x = (query : OrderedQuery) × (x ≡ asks.Query query)
IsOfKind kind.Change x = is_change x ≡ true
IsOfKind kind.Commit x = (work : Bool) × (x ≡ asks.Commit work)
IsOfKind kind.Rollback x = (work : Bool) × (x ≡ asks.Rollback work)
IsOfKind (kind.SetTransaction mode) x = x ≡ asks.SetTransaction mode
IsOfKind kind.Cursor x = is_of_cursor x ≡ true
IsOfKind kind.Explain x = (query : OrderedQuery) × (x ≡ asks.Explain query)
