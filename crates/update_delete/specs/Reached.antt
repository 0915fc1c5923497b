-- The limits of what a store counts that changes of rows reach.
use Rattle.std.specs.Prelude.{◌≡◌, ◌≢◌, ◌⊎◌, ◌+◌, ◌^◌, ◌<◌, List, [], Option}
use Rattle.store.specs.declared.error.StoreLimit.{StoreLimit}
use Rattle.store.specs.declared.error.StoreLimit.TheVariants as limit
use Rattle.store.specs.Contents.{StoredTable, next_number}
use Rattle.store.specs.Errors.{ChangingReaches}
use Rattle.store.specs.Indexes.{entries_of}
use Rattle.update_delete.specs.declared.change.RowChange.{RowChange}
use Rattle.update_delete.specs.RowChanges.{rows_new}

-- one more row of the table would have a number past the greatest, which is 2^63 - 1
abbrev pub IsNumberedOut : Option StoredTable → Type 0
IsNumberedOut table = 2 ^ 63 < next_number (entries_of table) + 1

-- where rows are put in the place of others: what the store counts, and the greatest row number,
-- which a store may miss for each row that it is given
abbrev pub ReplacingReaches : (StoreLimit → Type 0) → Type 0 → StoreLimit → Type 0
ReplacingReaches counted numbered_out which = ChangingReaches counted which ⊎ ((which ≡ limit.Pages) × numbered_out)

-- where changes of rows are made: that number only by one that puts a row in the place of another
abbrev pub MakingReaches : (StoreLimit → Type 0) → List RowChange → Type 0 → StoreLimit → Type 0
MakingReaches counted changes numbered_out = ReplacingReaches counted ((rows_new changes ≢ []) × numbered_out)
