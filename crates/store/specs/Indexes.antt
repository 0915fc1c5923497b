-- What an index finds. Indexes are our own choice, and so is the order in which they give rows: by
-- the values of their columns, null lowest, and then by row number.
use Rattle.std.specs.Prelude.{ℕ, Bool, true, ◌&&◌, List, [], filter, slice_get, slice_index_or, nat_lt, take, Option, Some, None}
use Rattle.std.specs.Option.{option_map}
use Rattle.std.specs.Ordering.{nat_cmp, ordering_then, is_gt}
use Rattle.std.specs.declared.cmp.Ordering.{Ordering}
use Rattle.std.specs.declared.ops.Bound.{Bound}
use Rattle.std.specs.declared.ops.Bound.TheVariants.{Included, Excluded, Unbounded}
use Rattle.std.specs.Cmp.Lexicographic.{slice_cmp}
use Rattle.sqlval.specs.declared.truth.Truth.TheVariants.{True}
use Rattle.sqlval.specs.declared.comparison.CompOp.TheVariants.{Less, Greater, LessOrEqual, GreaterOrEqual}
use Rattle.sqlval.specs.declared.value.Value.{Value}
use Rattle.sqlval.specs.declared.value.Value.TheVariants.{Null}
use Rattle.sqlval.specs.Comparison.{comparison, value_order}
use Rattle.sqlval.specs.Matching.{key_of, matches}
use Rattle.sqlval.specs.Truth.{same_truth}
use Rattle.sqlval.specs.Value.{Row}
use Rattle.store.specs.Contents.{Entry, StoredTable}
use Rattle.store.specs.Sorted.{sorted_by}

-- the entries of a table, none where there is no table
abbrev pub entries_of : Option StoredTable → List Entry
entries_of None = []
entries_of (Some t) = t.entries

-- ---- by row number

abbrev pub is_after : Option ℕ → ℕ → Bool
is_after None number = true
is_after (Some after) number = nat_lt after number

-- the first entry above a number, or the first of all
abbrev pub entry_after : Option ℕ → List Entry → Option Entry
entry_after after found = slice_get (filter (λ (e : Entry). is_after after e.0) found) 0

-- ---- by an index

-- the columns of the index at a place of a table
abbrev pub columns_at : Option StoredTable → ℕ → Option (List ℕ)
columns_at None place = None
columns_at (Some t) place = option_map (λ index. index.columns) (slice_get t.indexes place)

-- the entries whose columns equal a key, none null; none where there is no index
abbrev pub matching : Option (List ℕ) → List Value → List Entry → List Entry
matching None key found = []
matching (Some columns) key found = filter (λ (e : Entry). matches columns key e.1) found

abbrev pub sought : Option StoredTable → ℕ → List Value → List Entry
sought table place key = matching (columns_at table place) key (entries_of table)

-- by the values of some columns, one after another
abbrev pub by_columns : List ℕ → Entry → Entry → Ordering
by_columns columns a b = slice_cmp value_order (key_of columns a.1) (key_of columns b.1)

-- the entries as an index gives them: those that tie stay in the order of their numbers
abbrev pub in_order : Option (List ℕ) → List Entry → List Entry
in_order None found = []
in_order (Some columns) found = sorted_by (by_columns columns) found

abbrev pub walked : Option StoredTable → ℕ → List Entry
walked table place = in_order (columns_at table place) (entries_of table)

-- whether a value meets a lower bound, or an upper one: null meets none
abbrev pub is_above : Bound Value → Value → Bool
is_above Unbounded x = true
is_above (Included low) x = same_truth (comparison GreaterOrEqual x low) True
is_above (Excluded low) x = same_truth (comparison Greater x low) True

abbrev pub is_below : Bound Value → Value → Bool
is_below Unbounded x = true
is_below (Included high) x = same_truth (comparison LessOrEqual x high) True
is_below (Excluded high) x = same_truth (comparison Less x high) True

-- the first value of a key
abbrev pub first_of : List Value → Value
first_of key = slice_index_or key 0 Null

abbrev pub is_within : Bound Value → Bound Value → Value → Bool
is_within low high x = is_above low x && is_below high x

abbrev pub first_within : Bound Value → Bound Value → Option (List ℕ) → List Entry → List Entry
first_within low high None found = []
first_within low high (Some columns) found = filter (λ (e : Entry). is_within low high (first_of (key_of columns e.1))) found

-- the entries whose first column of the index is within bounds, in the order of the index
abbrev pub ranged : Option StoredTable → ℕ → Bound Value → Bound Value → List Entry
ranged table place low high = first_within low high (columns_at table place) (walked table place)

-- a place in an index: a key, and a row number
abbrev pub Position : Type 0
Position = List Value × ℕ

abbrev pub is_beyond : Option Position → List Value → ℕ → Bool
is_beyond None key number = true
is_beyond (Some after) key number = is_gt (ordering_then (slice_cmp value_order key after.0) (nat_cmp number after.1))

abbrev pub beyond : Option Position → Option (List ℕ) → List Entry → List Entry
beyond after None found = []
beyond after (Some columns) found = filter (λ (e : Entry). is_beyond after (key_of columns e.1) e.0) found

-- the first entry of an index above a place, or the first of all
abbrev pub next_entry : Option StoredTable → ℕ → Option Position → Option Entry
next_entry table place after = slice_get (beyond after (columns_at table place) (walked table place)) 0

-- ---- blocks: at most so many behind a place, in the same order

-- of entries in the order of their numbers
abbrev pub some_after : Option ℕ → ℕ → List Entry → List Entry
some_after after most found = take most (filter (λ (e : Entry). is_after after e.0) found)

abbrev pub some_sought : Option StoredTable → ℕ → List Value → Option ℕ → ℕ → List Entry
some_sought table place key after most = some_after after most (sought table place key)

-- of entries in the order of an index; without bounds, of a walk of it
abbrev pub some_ranged : Option StoredTable → ℕ → Bound Value → Bound Value → Option Position → ℕ → List Entry
some_ranged table place low high after most = take most (beyond after (columns_at table place) (ranged table place low high))
