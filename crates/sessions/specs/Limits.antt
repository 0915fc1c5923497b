-- Which calls may be refused by a limit of what the store counts: its pages, private pages, kept
-- page images.
use Rattle.std.specs.Prelude.{◌≡◌, ℕ, true}
use Rattle.lexer.specs.Token.{Bytes}
use Rattle.ast.specs.declared.statement.Statement.{Statement}
use Rattle.ast.specs.declared.statement.Statement.TheVariants as asks
use Rattle.statement_definitions.specs.Reading.{IsRead}
use Rattle.store.specs.Errors.{CommittingReaches}
use Rattle.store.specs.declared.error.StoreLimit.{StoreLimit}
use Rattle.sessions.specs.Kinds.{is_change}

-- a COMMIT where the store's commit reaches the limit, or a change; no other statement
abbrev pub StatementReaches : (StoreLimit → Type 0) → ℕ → Statement → StoreLimit → Type 0
StatementReaches counted commits (asks.Commit work) which = CommittingReaches counted commits which
StatementReaches counted commits x which = is_change x ≡ true

-- the text is read as such a statement
abbrev pub CallReaches : (StoreLimit → Type 0) → ℕ → Bytes → StoreLimit → Type 0
CallReaches counted commits text which = (x : Statement) × IsRead text x × StatementReaches counted commits x which
