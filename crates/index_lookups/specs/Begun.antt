-- Where a walk along an index begins, and what it gives. Our own choice.
use Rattle.std.specs.Prelude.{◌≡◌, ◌⊎◌, ℕ, true, false, List, [], ◌∷◌, filter, slice_get, take, Option}
use Rattle.std.specs.Option.{option_map}
use Rattle.std.specs.declared.ops.Bound.{Bound}
use Rattle.std.specs.declared.ops.Bound.TheVariants.{Included, Excluded, Unbounded}
use Rattle.sqlval.specs.declared.value.Value.{Value}
use Rattle.sqlval.specs.Matching.{key_of}
use Rattle.store.specs.declared.rows.NumberedRow.{NumberedRow}
use Rattle.store.specs.Contents as stored
use Rattle.store.specs.Indexes.{Position, first_of, is_within, is_beyond}
use Rattle.store.specs.View.{entry_of}
use Rattle.sqlrecord.specs.Storable.{AllStorable}
use Rattle.sqlrecord.specs.Key.{key_code}
use Rattle.btree_read.specs.Nodes.{precedes}
use Rattle.tablestore.specs.Held.{IsKept}
use Rattle.index_trees.specs.Indexed.{index_entry}
use Rattle.index_lookups.specs.declared.sought.Sought.{Sought}
use Rattle.index_lookups.specs.Sought.{is_wanted}
use Rattle.index_lookups.specs.Walked.{walk_of}

-- no row whose entry stands before a code is sought
abbrev pub MaySkip : Sought → List ℕ → List ℕ → Type 0
MaySkip sought columns code = (e : stored.Entry) → IsKept e → precedes (index_entry columns e).key code ≡ true
    → is_wanted sought columns e ≡ false

-- no row whose entry stands at a code, or before it, is sought
abbrev pub MayPass : Sought → List ℕ → List ℕ → Type 0
MayPass sought columns code = (e : stored.Entry) → IsKept e → precedes code (index_entry columns e).key ≡ false
    → is_wanted sought columns e ≡ false

-- the beginning of an index, or the code of a key
abbrev pub IsStart : List Value → List ℕ → Type 0
IsStart key code = (code ≡ []) ⊎ ((code ≡ key_code key) × AllStorable key)

-- the beginning, or the code of a lower bound
abbrev pub StartsBelow : Bound Value → List ℕ → Type 0
StartsBelow Unbounded code = code ≡ []
StartsBelow (Included low) code = IsStart (low ∷ []) code
StartsBelow (Excluded low) code = IsStart (low ∷ []) code

-- the rows within bounds, as an index over these columns gives them
abbrev pub rows_within : Bound Value → Bound Value → List ℕ → List stored.Entry → List stored.Entry
rows_within low high columns rows = filter (λ (e : stored.Entry). is_within low high (first_of (key_of columns e.1))) (walk_of columns rows)

-- at most so many of them, those behind a place
abbrev pub block_within : Bound Value → Bound Value → List ℕ → List stored.Entry → Option Position → ℕ
    → List stored.Entry
block_within low high columns rows after most = take most (filter (λ (e : stored.Entry). is_beyond after (key_of columns e.1) e.0) (rows_within low high columns rows))

-- the first row beyond a place
abbrev pub IsNextRow : List ℕ → List stored.Entry → Option Position → Option NumberedRow → Type 0
IsNextRow columns rows after found = option_map entry_of found ≡ slice_get (filter (λ (e : stored.Entry). is_beyond after (key_of columns e.1) e.0) (walk_of columns rows)) 0

-- the first row whose entry stands behind a code
abbrev pub IsRowBehind : List ℕ → List stored.Entry → List ℕ → Option NumberedRow → Type 0
IsRowBehind columns rows code found = option_map entry_of found ≡ slice_get (filter (λ (e : stored.Entry). precedes code (index_entry columns e).key) (walk_of columns rows)) 0
