-- The limits of what a store counts that a change reaches.
use Rattle.std.specs.Prelude.{◌≡◌, ◌⊎◌, ◌+◌, ◌^◌, ◌<◌, List, length}
use Rattle.std.specs.FinMap.{get}
use Rattle.sqlval.specs.declared.schema.Schema.{Schema}
use Rattle.sqlval.specs.Value.{Row}
use Rattle.typing.specs.Check.{IsCheckReading}
use Rattle.typing.specs.declared.statement.Change.{Change}
use Rattle.typing.specs.declared.statement.Change.TheVariants.{Insert, Update}
use Rattle.typing.specs.declared.statement.Insert as typed
use Rattle.denote.specs.Database.{CheckReading, IsGood}
use Rattle.denote.specs.SchemaOf.{IsSchemaOf}
use Rattle.store.specs.declared.error.StoreLimit.{StoreLimit}
use Rattle.store.specs.declared.error.StoreLimit.TheVariants as limit
use Rattle.store.specs.Contents.{Contents, Entry, database_of, next_number}
use Rattle.store.specs.Errors.{ChangingReaches}
use Rattle.store.specs.Indexes.{entries_of}
use Rattle.table_changes.specs.Given.{AreGiven}
use Rattle.update_delete.specs.Reached.{IsNumberedOut, ReplacingReaches}

-- These rows are given for an INSERT, as far as is known of a store that holds this: they are where
-- the store is sound, its schema is the one that is ready, and its database is good.
abbrev pub MayBeGiven : Type 0 → Schema → Contents → typed.Insert → List Row → Type 0
MayBeGiven sound schema c insert rows = (reading : CheckReading) → IsCheckReading reading → sound
    → IsSchemaOf schema (database_of c) → IsGood reading (database_of c) → AreGiven reading (database_of c) insert rows

-- some such rows would get numbers past the greatest, which is 2^63 - 1
pub record AreNumberedOut (given : List Row → Type 0) (entries : List Entry) : Type 0 where
  pub rows : List Row
  pub are_given : given rows
  pub past : 2 ^ 63 < next_number entries + length rows

-- What the store counts; of an INSERT also row numbers, by the rows that are given for it; and of
-- an UPDATE, which puts rows in the place of others, where its table has none left.
abbrev pub ChangeReaches : (StoreLimit → Type 0) → Type 0 → Schema → Contents → Change → StoreLimit → Type 0
ChangeReaches counted sound schema c (Insert insert) =
    λ which. ChangingReaches counted which
    ⊎ ((which ≡ limit.Pages) × AreNumberedOut (MayBeGiven sound schema c insert) (entries_of (get c insert.table)))
ChangeReaches counted sound schema c (Update update) = ReplacingReaches counted (sound
    → IsNumberedOut (get c update.table))
ChangeReaches counted sound schema c change = ChangingReaches counted
