-- Which calls give a version to the store.
use Rattle.std.specs.Prelude.{◌≡◌, Bool, true}
use Rattle.lexer.specs.Token.{Bytes}
use Rattle.ast.specs.declared.statement.Statement.{Statement}
use Rattle.ast.specs.declared.statement.Statement.TheVariants as asks
use Rattle.statement_definitions.specs.Reading.{IsRead}

-- a COMMIT, of the session that writes
abbrev pub IsCommitOfWriter : Statement → Bool → Type 0
IsCommitOfWriter x is_writer = (work : Bool) × (x ≡ asks.Commit work) × (is_writer ≡ true)

-- the text is read as that
abbrev pub CommitsAsWriter : Bytes → Bool → Type 0
CommitsAsWriter text is_writer = (work : Bool) × IsRead text (asks.Commit work) × (is_writer ≡ true)
