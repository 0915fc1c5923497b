-- Which forms are built so far: a statement with any other is refused as not supported, before its
-- names, types and limits are looked at. Our own choice.
use Rattle.std.specs.Prelude.{Bool, true, false}
use Rattle.ast.specs.declared.statement.Statement.{Statement}
use Rattle.ast.specs.declared.statement.Statement.TheVariants as statement

-- all but those of cursors, whose queries are asked as queries
abbrev pub is_built : Statement → Bool
is_built (statement.DeclareCursor cursor) = false
is_built (statement.OpenCursor name) = false
is_built (statement.Fetch name) = false
is_built (statement.CloseCursor name) = false
is_built other = true
