-- What a session may be asked.
use Rattle.std.specs.Prelude.{ℕ, Bool, true, false, List}
use Rattle.sqlval.specs.Value.{Row}
use Rattle.lexer.specs.Token.{Bytes}
use Rattle.denote.specs.Database.{Name}

-- The statement in a text. The query in a text, whose cursor has no name: to open it, so many of
-- its next rows, to close it. The INSERT of these rows into the table of this name. All but the
-- first are our own choice.
pub data Asked : Type 0 where
  Text : (text : Bytes) → Asked
  Query : (text : Bytes) → Asked
  Rows : (count : ℕ) → Asked
  Close : Asked
  Insert : (table : Name) → (rows : List Row) → Asked

-- Whether callers that share an engine ask it: they ask texts, and queries in turns.
abbrev pub is_shared : Asked → Bool
is_shared (Asked.Text text) = true
is_shared (Asked.Query text) = true
is_shared (Asked.Rows count) = true
is_shared Asked.Close = true
is_shared (Asked.Insert table rows) = false
