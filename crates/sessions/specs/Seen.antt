-- What a statement of a session sees.
use Rattle.std.specs.Prelude.{ℕ, Option}
use Rattle.denote.specs.Database.{Database}
use Rattle.store.specs.Contents.{database_of}
use Rattle.store.specs.Stored.{Stored, begun}
use Rattle.store.specs.View.{seen_by}
use Rattle.transactions.specs.Shown.{view_in}

-- the database of the transaction in which a statement of the session runs, its own or one that
-- begins now
abbrev pub seen_in : Stored → Option ℕ → ℕ → Database
seen_in st writer s = database_of (seen_by (begun st s) (view_in writer s))
