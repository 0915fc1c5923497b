-- A statement that is none of a cursor's, or not DECLARE.
use Rattle.std.proofs.Common.{◌≡◌, true, false, refl}
use Rattle.ast.specs.declared.statement.DeclareCursor.{DeclareCursor}
use Rattle.ast.specs.declared.statement.Statement.{Statement}
use Rattle.ast.specs.declared.statement.Statement.TheVariants as asks
use Rattle.ast.specs.declared.statement.OrderedQuery.{OrderedQuery}
use Rattle.denote.specs.Database.{Name}
use Rattle.session_definitions.specs.Calls.{is_query}
use Rattle.sessions.specs.Kinds.{is_declare, is_of_cursor}

pub no_declare : (x : Statement) → ((cursor : DeclareCursor) → x ≡ asks.DeclareCursor cursor → ⊥) → is_declare x ≡ false
no_declare (asks.DeclareCursor cursor) never = absurd (never cursor refl)
no_declare _ never = refl

pub no_cursor : (x : Statement) → ((name : Name) → x ≡ asks.OpenCursor name → ⊥) → ((name : Name) → x ≡ asks.Fetch name → ⊥)
    → ((name : Name) → x ≡ asks.CloseCursor name → ⊥) → is_of_cursor x ≡ true → is_declare x ≡ false → ⊥
no_cursor (asks.DeclareCursor cursor) opens fetches closes of declares = cc
no_cursor (asks.OpenCursor name) opens fetches closes of declares = opens name refl
no_cursor (asks.Fetch name) opens fetches closes of declares = fetches name refl
no_cursor (asks.CloseCursor name) opens fetches closes of declares = closes name refl
no_cursor _ opens fetches closes of declares = cc

pub no_query : (x : Statement) → ((query : OrderedQuery) → x ≡ asks.Query query → ⊥) → is_query x ≡ false
no_query (asks.Query query) never = absurd (never query refl)
no_query _ never = refl
