-- What is left of the list of a plan at a place of it.
use Rattle.std.specs.Prelude.{ℕ, Bool, not, List, [], ◌++◌, map, filter, drop, Option, Some, None}
use Rattle.std.specs.List.{list_any}
use Rattle.std.specs.Option.{option_to_list}
use Rattle.std.specs.Vec.Iter.{into_iter_items}
use Rattle.sqlval.specs.Matching.{key_of, rows_matching}
use Rattle.sqlval.specs.Value.{Row}
use Rattle.algebra.specs.declared.tree.Bound.{Bound}
use Rattle.algebra.specs.declared.tree.Tree.{Tree, Tree-F, out-Tree}
use Rattle.algebra.specs.declared.tree.Tree.TheVariants as t
use Rattle.algebra.specs.Bounds.{is_within}
use Rattle.algebra.specs.Joined.{is_member, matching}
use Rattle.algebra.specs.Listing.{first_only, listed_rows, onwards, row_by_row, tree_listing, truth_listing, value_listing, whole_first}
use Rattle.denote.specs.declared.fault.Fault.{Fault}
use Rattle.denote.specs.Bag.{are_alike, distinct}
use Rattle.denote.specs.From.{kept_row}
use Rattle.denote.specs.Meaning.{Tables}
use Rattle.denote.specs.Outcome.{Outcome}
use Rattle.denote.specs.Select.{shown_row}
use Rattle.store.specs.Contents.{Entry, rows_of}
use Rattle.store.specs.Indexes.{Position, beyond, entries_of, in_order, is_after}
use Rattle.store.specs.View.{Shown, position_of, table_named}
use Rattle.places.specs.declared.place.KeyedRows.{KeyedRows}
use Rattle.places.specs.declared.place.Members.{Members}
use Rattle.places.specs.declared.place.Place.{Place, Place-F, fold-Place}
use Rattle.places.specs.Joins.{Join, Node, joined_from, joined_on, kept_for, nested, true_pairs}

-- the rows of tables with their numbers, by the names
abbrev pub Entries : Type 0
Entries = List ℕ → List Entry

abbrev pub entries_in : Shown → Entries
entries_in shown name = entries_of (table_named shown name)

-- without the numbers, as listings look at them
abbrev pub rows_by : Entries → Tables
rows_by entries name = rows_of (entries name)

-- rows that were given, and then what is left
abbrev pub before : List Row → Outcome → Outcome
before rows rest = record { rows = rows ++ rest.rows; faults = rest.faults }

-- no row, and the fault that ended the list
abbrev pub no_more : Option Fault → Outcome
no_more fault = record { rows = []; faults = option_to_list fault }

-- ---- nodes that read one table

-- the rows above a number, or all
abbrev pub rows_after : Entries → List ℕ → Option ℕ → List Row
rows_after entries name after = rows_of (filter (λ (e : Entry). is_after after e.0) (entries name))

-- the entries in a range, in the order of an index: ties by their numbers
abbrev pub entries_within : List ℕ → Option Bound → Option Bound → List Entry → List Entry
entries_within columns low high found =
    in_order (Some columns) (filter (λ (e : Entry). is_within columns low high e.1) found)

-- the rows in a range beyond a place in the index, or all
abbrev pub rows_beyond : List ℕ → Option Bound → Option Bound → Option Position → List Entry → List Row
rows_beyond columns low high after found = rows_of (beyond after (Some columns) (entries_within columns low high found))

-- ---- nodes that keep rows

-- of rows that are to come the first of each alike ones, but those that are like rows that were
-- given
abbrev pub unseen : List Row → List Row → List Row
unseen seen rows = filter (λ row. not (list_any (λ other. are_alike other row) seen)) (distinct rows)

-- the members that IN looks for
abbrev pub members_listed : Members → Outcome
members_listed members = record { rows = members.rows; faults = option_to_list members.fault }

-- ---- node by node: a place that is none of a node is its beginning

module _ (entries : Entries) where
  abbrev pub left_after : ℕ → Tree → Node → Outcome
  left_after number tree (Tree-F.Scan table) = listed_rows (rows_after entries table.name (Some number))
  left_after number tree (Tree-F.Seek table columns key) =
      listed_rows (rows_matching columns key (rows_after entries table.name (Some number)))
  left_after number tree _ = tree_listing (rows_by entries) tree []

  abbrev pub left_beyond : Position → Tree → Node → Outcome
  left_beyond position tree (Tree-F.Range table columns low high) =
      listed_rows (rows_beyond columns low high (Some position) (entries table.name))
  left_beyond position tree _ = tree_listing (rows_by entries) tree []

  abbrev pub left_through : (Tree → Outcome) → Tree → Node → Outcome
  left_through below tree (Tree-F.Filter condition rows) =
      onwards (below rows) (row_by_row (kept_row (truth_listing (rows_by entries) condition) []))
  left_through below tree (Tree-F.Project items rows) =
      onwards (below rows) (row_by_row (shown_row (map (value_listing (rows_by entries)) items) []))
  left_through below tree _ = tree_listing (rows_by entries) tree []

  abbrev pub left_among : Members → (Tree → Outcome) → Tree → Node → Outcome
  left_among members below tree (Tree-F.Member operand is_negated others rows) =
      onwards (below rows) (row_by_row
      (kept_row (is_member (value_listing (rows_by entries) operand) is_negated (members_listed members)) []))
  left_among members below tree _ = tree_listing (rows_by entries) tree []

  abbrev pub left_seen : List Row → (Tree → Outcome) → Tree → Node → Outcome
  left_seen seen below tree (Tree-F.Distinct rows) =
      record { rows = unseen seen (below rows).rows; faults = first_only (below rows).faults }
  left_seen seen below tree _ = tree_listing (rows_by entries) tree []

  -- the right rows of a join, all of them for each left row
  abbrev pub right_rows : Join → Row → List Row
  right_rows join row = (tree_listing (rows_by entries) join.right []).rows

  -- the join from its first left row on, unless its right side ends by a fault
  abbrev pub left_testing : (Tree → Outcome) → Tree → Option Join → Outcome
  left_testing right tree None = tree_listing (rows_by entries) tree []
  left_testing right tree (Some join) =
      whole_first (right join.right)
      (λ _. joined_from join.pairing (right_rows join) (tree_listing (rows_by entries) join.left []))

  abbrev pub left_nested : (Tree → Outcome) → List Row → Option Row → Bool → (Tree → Outcome) → Tree → Option Join
      → Outcome
  left_nested left ahead row matched right tree None = tree_listing (rows_by entries) tree []
  left_nested left ahead row matched right tree (Some join) =
      joined_on join.pairing (right_rows join) row matched (λ _. (right join.right).rows)
      (before ahead (left join.left))

  -- the right side of a row of an `IndexLoop` is a `Seek` of its key
  abbrev pub left_pairs : (Tree → Outcome) → List Row → Option Row → Bool → (Tree → Outcome) → Tree → Node → Outcome
  left_pairs left ahead row matched right tree (Tree-F.IndexLoop on rows places table columns) =
      joined_on (true_pairs (truth_listing (rows_by entries) on)) (matching places columns (rows_by entries table.name))
      row matched
      (λ one. (right (t.Seek table columns (key_of places one))).rows) (before ahead (left rows))
  left_pairs left ahead row matched right tree node = left_nested left ahead row matched right tree
      (nested (rows_by entries) node)

  abbrev pub left_by_keys : (Tree → Outcome) → List Row → Option Row → Bool → ℕ → KeyedRows → Tree → Option Join
      → Outcome
  left_by_keys left ahead row matched tried side tree None = tree_listing (rows_by entries) tree []
  left_by_keys left ahead row matched tried side tree (Some join) =
      joined_on join.pairing (kept_for side) row matched (λ one. drop tried (kept_for side one))
      (before ahead (left join.left))

  -- the join that keeps its right rows by keys
  abbrev pub keyed : Node → Option Join
  keyed (Tree-F.HashJoin on left right left_places right_places) =
      Some (record { pairing = true_pairs (truth_listing (rows_by entries) on); left = left; right = right })
  keyed _ = None

  abbrev pub left_at : Place-F (Tree → Outcome) → Tree → Node → Outcome
  left_at Place-F.Start tree node = tree_listing (rows_by entries) tree []
  left_at (Place-F.After number) tree node = left_after number tree node
  left_at (Place-F.Beyond position) tree node = left_beyond (position_of position) tree node
  left_at (Place-F.Through below) tree node = left_through below tree node
  left_at (Place-F.Among members below) tree node = left_among members below tree node
  left_at (Place-F.Seen seen below) tree node = left_seen seen below tree node
  left_at (Place-F.Testing right) tree node = left_testing right tree (nested (rows_by entries) node)
  left_at (Place-F.Pairs left ahead row matched right) tree node =
      left_pairs left (into_iter_items ahead) row matched right tree node
  left_at (Place-F.Keyed left ahead row matched tried side) tree node =
      left_by_keys left (into_iter_items ahead) row matched tried side tree (keyed node)
  left_at (Place-F.Kept rows fault) tree node = record { rows = into_iter_items rows; faults = option_to_list fault }
  left_at (Place-F.Ended fault) tree node = no_more fault

  abbrev pub left_step : Place-F (Tree → Outcome) → Tree → Outcome
  left_step place tree = left_at place tree (out-Tree tree)

  -- what a plan has still to give
  unfoldable pub left : Place → Tree → Outcome
  left = fold-Place _ left_step
