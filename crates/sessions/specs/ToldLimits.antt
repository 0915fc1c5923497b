-- Over which counts a change tells a limit of what the store counts, and which store counts so.
use Rattle.std.specs.Prelude.{◌≡◌, ◌⊎◌, ℕ, ◌+◌, ◌^◌, ◌<◌, List, length, Ok, Some}
use Rattle.std.specs.FinMap.{get}
use Rattle.refusals.specs.declared.refusal.Refusal.{Refusal}
use Rattle.sqlval.specs.declared.schema.Schema.{Schema}
use Rattle.sqlval.specs.Value.{Row}
use Rattle.ast.specs.declared.statement.Statement.{Statement}
use Rattle.typing.specs.declared.statement.Change.{Change}
use Rattle.typing.specs.declared.statement.Change.TheVariants as change_of
use Rattle.typing.specs.declared.statement.Insert.{Insert}
use Rattle.typing.specs.declared.statement.Typed.{Typed}
use Rattle.typing.specs.declared.statement.Typed.TheVariants as does
use Rattle.typing.specs.Known.{known}
use Rattle.typing.specs.Statement.{answered_found}
use Rattle.denote.specs.Change.{inserted_rows}
use Rattle.denote.specs.Database.{CheckReading, Database, IsGood, Name, Table, checks_of, rows_in}
use Rattle.denote.specs.SchemaOf.{IsSchemaOf}
use Rattle.session_definitions.specs.InsertedRows.{insert_of_rows}
use Rattle.session_definitions.specs.Rules.{Rules, AreRules}
use Rattle.store.specs.declared.error.StoreLimit.{StoreLimit}
use Rattle.store.specs.declared.error.StoreLimit.TheVariants as limit
use Rattle.store.specs.Contents.{Contents, database_of, next_number}
use Rattle.store.specs.Errors.{ChangingReaches}
use Rattle.store.specs.Going.{Going}
use Rattle.store.specs.Indexes.{entries_of}
use Rattle.store.specs.Stored.{Found, Stored}

-- the INSERT stores so many rows in its table, none of which faults (ISO/IEC 9075:1992, 13.8)
pub record StoresRows (reading : CheckReading) (db : Database) (i : Insert) (count : ℕ) : Type 0 where
  pub table : Table
  pub there : get db i.table ≡ Some table
  pub meant : List Row
  pub given : inserted_rows (checks_of reading i.table table) (rows_in db) table i.columns i.source ≡ Ok meant
  pub counted : length meant ≡ count

-- Some of its rows would get a number past the greatest, which is 2^63 - 1. How many it stores is
-- known where the store is sound, the schema is one of its database, and this is good.
pub record PassesNumbers (sound : Type 0) (schema : Schema) (c : Contents) (i : Insert) : Type 0 where
  pub count : ℕ
  pub stores : (rules : Rules) → AreRules rules → sound → IsSchemaOf schema (database_of c)
      → IsGood rules.check (database_of c) → StoresRows rules.check (database_of c) i count
  pub past : 2 ^ 63 < next_number (entries_of (get c i.table)) + count

-- A change tells a limit that the store counts as reached; an INSERT `pages` also where numbers of
-- rows end, and an UPDATE where its table has none left for another row.
abbrev pub ChangeTells : (StoreLimit → Type 0) → Type 0 → Schema → Contents → Change → StoreLimit → Type 0
ChangeTells counted sound schema c (change_of.Insert insert) which = ChangingReaches counted which
    ⊎ ((which ≡ limit.Pages) × PassesNumbers sound schema c insert)
ChangeTells counted sound schema c (change_of.Update update) which = ChangingReaches counted which
    ⊎ ((which ≡ limit.Pages) × (sound → 2 ^ 63 < next_number (entries_of (get c update.table)) + 1))
ChangeTells counted sound schema c change which = ChangingReaches counted which

-- the change that was typed tells it
abbrev pub TypedTells : (StoreLimit → Type 0) → Type 0 → Schema → Contents → Typed → StoreLimit → Type 0
TypedTells counted sound schema c typed which =
    (change : Change) × (typed ≡ does.Change change) × ChangeTells counted sound schema c change which

-- so does the INSERT of rows that are given, which fit their table
abbrev pub RowsTell : (StoreLimit → Type 0) → Type 0 → Schema → Contents → Name → List Row → StoreLimit → Type 0
RowsTell counted sound schema c name rows which =
    (insert : Insert) × (insert_of_rows (known schema) name rows ≡ Ok insert)
    × ChangeTells counted sound schema c (change_of.Insert insert) which

-- the statement stands for a change that tells it, over a schema of the database
pub record StatementTells (counted : StoreLimit → Type 0) (sound : Type 0) (c : Contents) (x : Statement) (which : StoreLimit) : Type 0 where
  pub schema : Schema
  pub of_database : sound → IsSchemaOf schema (database_of c)
  pub change : Change
  pub found : answered_found x schema ≡ Ok (does.Change change)
  pub tells : ChangeTells counted sound schema c change which

-- likewise of rows that are given
pub record GivenTell (counted : StoreLimit → Type 0) (sound : Type 0) (c : Contents) (name : Name) (rows : List Row) (which : StoreLimit) : Type 0 where
  pub schema : Schema
  pub of_database : sound → IsSchemaOf schema (database_of c)
  pub tells : RowsTell counted sound schema c name rows which

-- A store on the way says so of the refusal: the call came to it by a change at most, and only took
-- back behind it that the session began. So it is the one that the call leaves, where the session
-- was in a transaction.
pub record IsSaidBetween {S : Type 0} (goes_on : S → S → Going → Type 0) (active : Type 0) (old new : S)
    (says_so : S → Refusal → Type 0) (refusal : Refusal) : Type 0 where
  pub middle : S
  pub before : goes_on old middle Going.changes
  pub behind : goes_on middle new Going.keeps
  pub at_end : active → middle ≡ new
  pub said : says_so middle refusal

-- the session is in a transaction
abbrev pub IsActive : Stored → ℕ → Type 0
IsActive st s = (f : Found) × (get st.readers s ≡ Some f)
