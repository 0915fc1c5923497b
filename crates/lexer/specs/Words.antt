-- The reserved words: those of SQL-92, 5.2, that the language uses now or keeps for later; EXPLAIN,
-- INDEX and SAVEPOINT are our own.
use Rattle.std.specs.Prelude.{ℕ, Bool, false, true, ◌&&◌, List, [], ◌∷◌, codes, Option, Some, None, if◌then◌else◌}
use Rattle.std.specs.Cmp.Lexicographic.{slice_cmp}
use Rattle.std.specs.List.{list_all}
use Rattle.std.specs.Ordering.{is_lt, nat_cmp}
use Rattle.std.specs.Str.{bytes_eq}
use denote.Enum.Bare.{sameb}
use Rattle.lexer.specs.contracts.words.Word as word_contract
use Rattle.lexer.specs.contracts.words.Support as support
use Rattle.lexer.specs.declared.words.Support.TheVariants.{Now, Later}
use Rattle.lexer.specs.declared.words.Support.{Support}
use Rattle.lexer.specs.declared.words.Word.{Word}
use Rattle.lexer.specs.declared.words.Word.TheVariants as word

-- a line of the table: a text, its word, and whether the forms that use it are built
abbrev pub Entry : Type 0
Entry = List ℕ × Word × Support

-- Each reserved word with its spelling, and whether it is in use. Whoever builds new forms changes
-- `Later` to `Now` on the lines of their words, here and in the table of the code, which the prover
-- finds to be this one
abbrev pub vocabulary : List Entry
vocabulary =
    (codes "ALL", word.All, Now)
    ∷ (codes "ALTER", word.Alter, Later)
    ∷ (codes "AND", word.And, Now)
    ∷ (codes "ANY", word.Any, Later)
    ∷ (codes "AS", word.As, Now)
    ∷ (codes "ASC", word.Asc, Now)
    ∷ (codes "ASSERTION", word.Assertion, Later)
    ∷ (codes "AVG", word.Avg, Now)
    ∷ (codes "BETWEEN", word.Between, Now)
    ∷ (codes "BY", word.By, Now)
    ∷ (codes "CASCADE", word.Cascade, Later)
    ∷ (codes "CASE", word.Case, Later)
    ∷ (codes "CAST", word.Cast, Later)
    ∷ (codes "CHAR", word.Char, Later)
    ∷ (codes "CHARACTER", word.Character, Now)
    ∷ (codes "CHECK", word.Check, Now)
    ∷ (codes "CLOSE", word.Close, Now)
    ∷ (codes "COALESCE", word.Coalesce, Later)
    ∷ (codes "COLLATE", word.Collate, Later)
    ∷ (codes "COMMIT", word.Commit, Now)
    ∷ (codes "CONSTRAINT", word.Constraint, Now)
    ∷ (codes "CORRESPONDING", word.Corresponding, Later)
    ∷ (codes "COUNT", word.Count, Now)
    ∷ (codes "CREATE", word.Create, Now)
    ∷ (codes "CROSS", word.Cross, Now)
    ∷ (codes "CURRENT", word.Current, Later)
    ∷ (codes "CURSOR", word.Cursor, Now)
    ∷ (codes "DATE", word.Date, Later)
    ∷ (codes "DECIMAL", word.Decimal, Later)
    ∷ (codes "DECLARE", word.Declare, Now)
    ∷ (codes "DEFAULT", word.Default, Later)
    ∷ (codes "DELETE", word.Delete, Now)
    ∷ (codes "DESC", word.Desc, Now)
    ∷ (codes "DISTINCT", word.Distinct, Now)
    ∷ (codes "DOMAIN", word.Domain, Later)
    ∷ (codes "DROP", word.Drop, Now)
    ∷ (codes "ESCAPE", word.Escape, Later)
    ∷ (codes "EXCEPT", word.Except, Now)
    ∷ (codes "EXISTS", word.Exists, Now)
    ∷ (codes "EXPLAIN", word.Explain, Now)
    ∷ (codes "FALSE", word.False, Now)
    ∷ (codes "FETCH", word.Fetch, Now)
    ∷ (codes "FLOAT", word.Float, Later)
    ∷ (codes "FOR", word.For, Now)
    ∷ (codes "FOREIGN", word.Foreign, Now)
    ∷ (codes "FROM", word.From, Now)
    ∷ (codes "FULL", word.Full, Later)
    ∷ (codes "GRANT", word.Grant, Later)
    ∷ (codes "GROUP", word.Group, Now)
    ∷ (codes "HAVING", word.Having, Now)
    ∷ (codes "IN", word.In, Now)
    ∷ (codes "INDEX", word.Index, Now)
    ∷ (codes "INNER", word.Inner, Now)
    ∷ (codes "INSERT", word.Insert, Now)
    ∷ (codes "INT", word.Int, Now)
    ∷ (codes "INTEGER", word.Integer, Now)
    ∷ (codes "INTERSECT", word.Intersect, Now)
    ∷ (codes "INTERVAL", word.Interval, Later)
    ∷ (codes "INTO", word.Into, Now)
    ∷ (codes "IS", word.Is, Now)
    ∷ (codes "ISOLATION", word.Isolation, Later)
    ∷ (codes "JOIN", word.Join, Now)
    ∷ (codes "KEY", word.Key, Now)
    ∷ (codes "LEFT", word.Left, Now)
    ∷ (codes "LIKE", word.Like, Now)
    ∷ (codes "MAX", word.Max, Now)
    ∷ (codes "MIN", word.Min, Now)
    ∷ (codes "NATURAL", word.Natural, Later)
    ∷ (codes "NOT", word.Not, Now)
    ∷ (codes "NULL", word.Null, Now)
    ∷ (codes "NULLIF", word.Nullif, Later)
    ∷ (codes "NUMERIC", word.Numeric, Later)
    ∷ (codes "ON", word.On, Now)
    ∷ (codes "ONLY", word.Only, Now)
    ∷ (codes "OPEN", word.Open, Now)
    ∷ (codes "OR", word.Or, Now)
    ∷ (codes "ORDER", word.Order, Now)
    ∷ (codes "OUTER", word.Outer, Now)
    ∷ (codes "PRIMARY", word.Primary, Now)
    ∷ (codes "READ", word.Read, Now)
    ∷ (codes "REAL", word.Real, Later)
    ∷ (codes "REFERENCES", word.References, Now)
    ∷ (codes "RESTRICT", word.Restrict, Later)
    ∷ (codes "REVOKE", word.Revoke, Later)
    ∷ (codes "RIGHT", word.Right, Later)
    ∷ (codes "ROLLBACK", word.Rollback, Now)
    ∷ (codes "SAVEPOINT", word.Savepoint, Later)
    ∷ (codes "SCHEMA", word.Schema, Later)
    ∷ (codes "SCROLL", word.Scroll, Later)
    ∷ (codes "SELECT", word.Select, Now)
    ∷ (codes "SET", word.Set, Now)
    ∷ (codes "SMALLINT", word.Smallint, Later)
    ∷ (codes "SOME", word.Some, Later)
    ∷ (codes "SUM", word.Sum, Now)
    ∷ (codes "TABLE", word.Table, Now)
    ∷ (codes "TIME", word.Time, Later)
    ∷ (codes "TIMESTAMP", word.Timestamp, Later)
    ∷ (codes "TRANSACTION", word.Transaction, Now)
    ∷ (codes "TRUE", word.True, Now)
    ∷ (codes "UNION", word.Union, Now)
    ∷ (codes "UNIQUE", word.Unique, Now)
    ∷ (codes "UNKNOWN", word.Unknown, Now)
    ∷ (codes "UPDATE", word.Update, Now)
    ∷ (codes "USING", word.Using, Later)
    ∷ (codes "VALUES", word.Values, Now)
    ∷ (codes "VARCHAR", word.Varchar, Now)
    ∷ (codes "VARYING", word.Varying, Now)
    ∷ (codes "VIEW", word.View, Later)
    ∷ (codes "WHERE", word.Where, Now)
    ∷ (codes "WORK", word.Work, Now)
    ∷ (codes "WRITE", word.Write, Now)
    ∷ []

abbrev pub is_word : Word → Word → Bool
is_word = sameb word_contract.the_type

-- the word on the first line with this text
abbrev pub word_with : List Entry → List ℕ → Option Word
word_with [] text = None
word_with (entry ∷ entries) text = if bytes_eq entry.0 text then Some entry.1 else word_with entries text

-- whether the text of each line stands before those of all later ones, byte by byte
abbrev pub are_rising : List Entry → Bool
are_rising [] = true
are_rising (entry ∷ entries) = list_all (λ later. is_lt (slice_cmp nat_cmp entry.0 later.0)) entries && are_rising entries

-- the text on the first line with this word
abbrev pub text_with : List Entry → Word → List ℕ
text_with [] w = []
text_with (entry ∷ entries) w = if is_word entry.1 w then entry.0 else text_with entries w

-- whether the first line with this word says that its forms are built
abbrev pub supports : List Entry → Word → Bool
supports [] w = false
supports (entry ∷ entries) w = if is_word entry.1 w then sameb support.the_type entry.2 Now else supports entries w

-- the reserved word that has this text
unfoldable pub reserved : List ℕ → Option Word
reserved = word_with vocabulary

-- the text of a reserved word
unfoldable pub word_text : Word → List ℕ
word_text = text_with vocabulary

-- whether the forms that use a reserved word are built
unfoldable pub is_supported : Word → Bool
is_supported = supports vocabulary
