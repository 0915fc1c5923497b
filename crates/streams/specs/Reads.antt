-- How many rows of stored tables a plan has still to read, where it reads each of them once.
use Rattle.std.specs.Prelude.{◌≡◌, ◌≤◌, ℕ, ◌+◌, Bool, true, false, ◌&&◌, List, filter, length, Option, Some, None, Result, IfOk}
use Rattle.sqlval.specs.declared.value.Value.{Value}
use Rattle.sqlval.specs.Matching.{matches}
use Rattle.sqlval.specs.Value.{Row}
use Rattle.algebra.specs.declared.tree.Bound.{Bound}
use Rattle.algebra.specs.declared.tree.Condition.{Condition-F}
use Rattle.algebra.specs.declared.tree.Expression.{Expression-F}
use Rattle.algebra.specs.declared.tree.SetFunction.{SetFunction-F}
use Rattle.algebra.specs.declared.tree.Tree.{Tree, Tree-F, fold-Tree, out-Tree}
use Rattle.store.specs.declared.error.StoreError.{StoreError}
use Rattle.store.specs.Contents.{Entry}
use Rattle.store.specs.Indexes.{Position, beyond}
use Rattle.store.specs.View.{position_of}
use Rattle.places.specs.declared.place.Place.{Place, Place-F, fold-Place}
use Rattle.places.specs.Indexes.{index_place}
use Rattle.places.specs.Joins.{Node}
use Rattle.places.specs.Left.{Entries, entries_within}
use Rattle.places.specs.Views.{ByKeys, by_keys, is_whole, last_number, last_position}
use Rattle.streams.specs.declared.step.Step.{Step}
use Rattle.streams.specs.Numbers.{after_number}

-- ---- which plans read each of their tables once

-- a node with the answers of its parts in their places
abbrev pub Once : ((A B C D : Type 0) → Type 0) → Type 0
Once T = T Bool Bool Bool Bool

abbrev pub once_in_condition : Once Condition-F → Bool
once_in_condition condition = true

abbrev pub once_in_expression : Once Expression-F → Bool
once_in_expression expression = true

abbrev pub once_in_function : Once SetFunction-F → Bool
once_in_function function = true

-- a join that reads its right side anew for each left row does not
abbrev pub once_at : Once Tree-F → Bool
once_at (Tree-F.Scan table) = true
once_at (Tree-F.Filter condition tree) = tree
once_at (Tree-F.Group columns functions rows) = rows
once_at (Tree-F.Project items tree) = tree
once_at (Tree-F.Distinct tree) = tree
once_at (Tree-F.Set op left right) = left && right
once_at (Tree-F.Sort keys tree) = tree
once_at (Tree-F.Seek table columns key) = true
once_at (Tree-F.Range table columns low high) = true
once_at (Tree-F.HashJoin on left right left_places right_places) = left && right
once_at (Tree-F.Member operand is_negated members rows) = members && rows
once_at _ = false

unfoldable pub reads_once : Tree → Bool
reads_once = fold-Tree _ _ _ _ once_in_condition once_in_expression once_in_function once_at

-- ---- how many rows

-- of a `Seek` those that match, where an index over its columns is known; else all are looked at
abbrev pub entries_sought : Option ℕ → List ℕ → List Value → List Entry → List Entry
entries_sought None columns key found = found
entries_sought (Some index) columns key found = filter (λ (e : Entry). matches columns key e.1) found

-- and of a `Range` those within it
abbrev pub entries_ranged : Option ℕ → List ℕ → Option Bound → Option Bound → List Entry → List Entry
entries_ranged None columns low high found = found
entries_ranged (Some index) columns low high found = entries_within columns low high found

-- a node with the counts of its parts in their places
abbrev pub Counts : ((A B C D : Type 0) → Type 0) → Type 0
Counts T = T ℕ ℕ ℕ ℕ

abbrev pub count_of_condition : Counts Condition-F → ℕ
count_of_condition condition = 0

abbrev pub count_of_expression : Counts Expression-F → ℕ
count_of_expression expression = 0

abbrev pub count_of_function : Counts SetFunction-F → ℕ
count_of_function function = 0

module _ (entries : Entries) where
  abbrev pub count_at : Counts Tree-F → ℕ
  count_at (Tree-F.Scan table) = length (entries table.name)
  count_at (Tree-F.Filter condition tree) = tree
  count_at (Tree-F.Group columns functions rows) = rows
  count_at (Tree-F.Project items tree) = tree
  count_at (Tree-F.Distinct tree) = tree
  count_at (Tree-F.Product left right) = left + right
  count_at (Tree-F.Inner on left right) = left + right
  count_at (Tree-F.Left on left right width) = left + right
  count_at (Tree-F.Half on left right) = left + right
  count_at (Tree-F.OppositeHalf on left right) = left + right
  count_at (Tree-F.Set op left right) = left + right
  count_at (Tree-F.Sort keys tree) = tree
  count_at (Tree-F.Seek table columns key) =
      length (entries_sought (index_place table columns) columns key (entries table.name))
  count_at (Tree-F.Range table columns low high) =
      length (entries_ranged (index_place table columns) columns low high (entries table.name))
  count_at (Tree-F.HashJoin on left right left_places right_places) = left + right
  count_at (Tree-F.Member operand is_negated members rows) = members + rows
  count_at _ = 0

  -- of a plan that was not begun, if each side of a join is read once
  unfoldable pub to_begin : Tree → ℕ
  to_begin = fold-Tree _ _ _ _ count_of_condition count_of_expression count_of_function count_at

  -- and at a place, node by node
  abbrev pub read_after : ℕ → Tree → Node → ℕ
  read_after number tree (Tree-F.Scan table) = length (after_number (Some number) (entries table.name))
  read_after number tree (Tree-F.Seek table columns key) =
      length (after_number (Some number)
      (entries_sought (index_place table columns) columns key (entries table.name)))
  read_after number tree _ = to_begin tree

  abbrev pub read_beyond : Position → Tree → Node → ℕ
  read_beyond position tree (Tree-F.Range table columns low high) =
      length (beyond (Some position) (Some columns)
      (entries_ranged (index_place table columns) columns low high (entries table.name)))
  read_beyond position tree _ = to_begin tree

  abbrev pub read_through : (Tree → ℕ) → Tree → Node → ℕ
  read_through below tree (Tree-F.Filter condition rows) = below rows
  read_through below tree (Tree-F.Project items rows) = below rows
  read_through below tree _ = to_begin tree

  abbrev pub read_among : (Tree → ℕ) → Tree → Node → ℕ
  read_among below tree (Tree-F.Member operand is_negated members rows) = below rows
  read_among below tree _ = to_begin tree

  abbrev pub read_seen : (Tree → ℕ) → Tree → Node → ℕ
  read_seen below tree (Tree-F.Distinct rows) = below rows
  read_seen below tree _ = to_begin tree

  abbrev pub read_keyed : (Tree → ℕ) → Tree → Node → ℕ
  read_keyed left tree (Tree-F.HashJoin on l r left_places right_places) = left l
  read_keyed left tree _ = to_begin tree

  abbrev pub read_at : Place-F (Tree → ℕ) → Tree → Node → ℕ
  read_at (Place-F.After number) tree node = read_after number tree node
  read_at (Place-F.Through below) tree node = read_through below tree node
  read_at (Place-F.Among members below) tree node = read_among below tree node
  read_at (Place-F.Seen given below) tree node = read_seen below tree node
  read_at (Place-F.Keyed left ahead row matched tried side) tree node = read_keyed left tree node
  read_at (Place-F.Beyond position) tree node = read_beyond (position_of position) tree node
  read_at (Place-F.Kept rows fault) tree node = 0
  read_at (Place-F.Ended fault) tree node = 0
  read_at _ tree node = to_begin tree

  abbrev pub read_step : Place-F (Tree → ℕ) → Tree → ℕ
  read_step place tree = read_at place tree (out-Tree tree)

  -- how many rows a plan reads yet, if it reads each of its tables once
  unfoldable pub to_read : Place → Tree → ℕ
  to_read = fold-Place _ read_step

-- ---- what a step reads: `count` rows were read when it ended, and no more than `limit` are read in all

abbrev pub RowsRead : Entries → Tree → ℕ → ℕ → Result (List Row) StoreError → Place → Type 0
RowsRead entries tree count limit rows place = IfOk rows (λ _. count + to_read entries place tree ≤ limit)

abbrev pub StepReads : Entries → Tree → ℕ → ℕ → Result Step StoreError → Type 0
StepReads entries tree count limit step = IfOk step (λ made. count + to_read entries made.place tree ≤ limit)

-- what a tree reads that is read in the order of numbers, or of an index
abbrev pub IsReadByNumber : Entries → Tree → List Entry → Type 0
IsReadByNumber shown tree entries = (place : Place) → is_whole place ≡ false
    → to_read shown place tree ≡ length (after_number (last_number place) entries)

abbrev pub IsReadInIndex : Entries → Tree → List ℕ → List Entry → Type 0
IsReadInIndex shown tree columns entries = (place : Place) → is_whole place ≡ false
    → to_read shown place tree ≡ length (beyond (last_position place) (Some columns) entries)

-- and a join that keeps its right rows by keys, once they are kept: no more than its left side
abbrev pub IsReadByKeys : Entries → Tree → Tree → Type 0
IsReadByKeys entries tree rows = (place : Place) (at : ByKeys) → is_whole place ≡ false → by_keys place ≡ Some at
    → to_read entries place tree ≡ to_read entries at.left rows
