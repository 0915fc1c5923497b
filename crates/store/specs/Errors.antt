-- When a store may refuse a call.
use Rattle.std.specs.Prelude.{◌≡◌, ◌⊎◌, ℕ, ◌+◌, ◌-◌, ◌^◌, ◌<◌, ◌≤◌, min, List, [], ◌∷◌, length, Contains, Option, Some, None}
use Rattle.sqlval.specs.CodedLength.{row_length, key_length}
use Rattle.sqlval.specs.Matching.{key_of}
use Rattle.sqlval.specs.Value.{Row}
use Rattle.denote.specs.Database.{IndexDeclaration}
use Rattle.store.specs.declared.error.StoreError.{StoreError}
use Rattle.store.specs.declared.error.StoreError.TheVariants.{Memory, Device, Damaged, Exceeded}
use Rattle.store.specs.declared.error.StoreLimit.{StoreLimit}
use Rattle.store.specs.declared.error.StoreLimit.TheVariants as limit
use Rattle.store.specs.Contents.{StoredTable, next_number}
use Rattle.store.specs.Indexes.{entries_of}

-- a count of 64 bits rose, or stays at its greatest
abbrev pub HasRisen : ℕ → ℕ → Type 0
HasRisen old new = min (old + 1) (2 ^ 64 - 1) ≤ new

-- For want of memory at any time; for the device only where its count of refused calls rose; as
-- damaged only where the store is not sound; and by a limit only where it is reached.
abbrev pub MayFail : Type 0 → ℕ → ℕ → (StoreLimit → Type 0) → StoreError → Type 0
MayFail sound old new reached Memory = Unit {0}
MayFail sound old new reached Device = HasRisen old new
MayFail sound old new reached Damaged = sound → ⊥
MayFail sound old new reached (Exceeded which) = reached which

-- The count of answers "damaged" rises with such an answer, and with no other.
abbrev pub Tells : StoreError → ℕ → ℕ → Type 0
Tells Memory old new = new ≡ old
Tells Device old new = new ≡ old
Tells Damaged old new = HasRisen old new
Tells (Exceeded which) old new = new ≡ old

-- by no limit
abbrev pub Never : StoreLimit → Type 0
Never which = ⊥

-- ---- the limits

-- a row whose code takes more than 1,000 bytes
pub record HasLongRow (rows : List Row) : Type 0 where
  pub row : Row
  pub one : Contains rows row
  pub long : 1000 < row_length row

-- a row whose key in one of these indexes takes more than 600 bytes with its number
pub record HasLongKey (indexes : List IndexDeclaration) (rows : List Row) : Type 0 where
  pub row : Row
  pub index : IndexDeclaration
  pub one : Contains rows row
  pub among : Contains indexes index
  pub long : 600 < key_length (key_of index.columns row) + 8

abbrev pub indexes_of : Option StoredTable → List IndexDeclaration
indexes_of None = []
indexes_of (Some t) = t.indexes

-- Storing rows in a table reaches a limit: that of rows and keys, those that the store counts, and
-- that of row numbers, which end at 2^63 - 1.
abbrev pub StoringReaches : (StoreLimit → Type 0) → Option StoredTable → List Row → StoreLimit → Type 0
StoringReaches counted table rows limit.Record = HasLongRow rows
StoringReaches counted table rows limit.Key = HasLongKey (indexes_of table) rows
StoringReaches counted table rows limit.Pages = counted limit.Pages
    ⊎ (2 ^ 63 < next_number (entries_of table) + length rows)
StoringReaches counted table rows limit.Private = counted limit.Private
StoringReaches counted table rows limit.Kept = ⊥

-- so does making an index of a table's rows
abbrev pub IndexingReaches : (StoreLimit → Type 0) → List Row → IndexDeclaration → StoreLimit → Type 0
IndexingReaches counted rows index limit.Record = ⊥
IndexingReaches counted rows index limit.Key = HasLongKey (index ∷ []) rows
IndexingReaches counted rows index limit.Pages = counted limit.Pages
IndexingReaches counted rows index limit.Private = counted limit.Private
IndexingReaches counted rows index limit.Kept = ⊥

-- and a change that stores no row
abbrev pub ChangingReaches : (StoreLimit → Type 0) → StoreLimit → Type 0
ChangingReaches counted limit.Record = ⊥
ChangingReaches counted limit.Key = ⊥
ChangingReaches counted limit.Pages = counted limit.Pages
ChangingReaches counted limit.Private = counted limit.Private
ChangingReaches counted limit.Kept = ⊥

-- A commit reaches the limit of old pages that are kept, or the greatest number of commits. It
-- takes no page.
abbrev pub CommittingReaches : (StoreLimit → Type 0) → ℕ → StoreLimit → Type 0
CommittingReaches counted commits limit.Record = ⊥
CommittingReaches counted commits limit.Key = ⊥
CommittingReaches counted commits limit.Pages = 2 ^ 64 ≤ commits + 1
CommittingReaches counted commits limit.Private = ⊥
CommittingReaches counted commits limit.Kept = counted limit.Kept
