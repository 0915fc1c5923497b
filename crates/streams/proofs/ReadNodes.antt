-- How many rows are still to be read, node by node.
use Rattle.std.proofs.Common.{◌≡◌, ◌≤◌, ◌+◌, refl, sym, ap, ◌∙◌, ℕ, Bool, true, false, ◌&&◌, List, Option, Some, None, Result, Ok, Err, IfOk, rules, length, arith}
use Rattle.std.specs.Option.{option_map}
use Rattle.std.specs.declared.vec.IntoIter.{IntoIter}
use Rattle.sqlval.specs.declared.value.Value.{Value}
use Rattle.sqlval.specs.Value.{Row}
use Rattle.typing.specs.declared.typed.OrderKey.{OrderKey}
use Rattle.typing.specs.declared.typed.SetOperation.{SetOperation}
use Rattle.algebra.specs.declared.tree.Bound.{Bound}
use Rattle.algebra.specs.declared.tree.Condition.{Condition}
use Rattle.algebra.specs.declared.tree.Expression.{Expression}
use Rattle.algebra.specs.declared.tree.Expression.{the_lemmas as tree_lemmas}
use Rattle.algebra.specs.declared.tree.SetFunction.{SetFunction}
use Rattle.algebra.specs.declared.tree.StoredTable.{StoredTable}
use Rattle.algebra.specs.declared.tree.Tree.{Tree, Tree-F, out-Tree}
use Rattle.algebra.specs.declared.tree.Tree.TheVariants as t
use Rattle.denote.specs.declared.fault.Fault.{Fault}
use Rattle.store.specs.Contents.{Entry}
use Rattle.store.specs.Indexes.{beyond}
use Rattle.places.specs.declared.place.Members.{Members}
use Rattle.places.specs.declared.place.Place.{Place, Place-F, out-Place, map-Place, fold_out-Place, the_lemmas}
use Rattle.places.specs.declared.place.Place.TheVariants as p
use Rattle.places.specs.Indexes.{index_place}
use Rattle.places.specs.Joins.{Node}
use Rattle.places.specs.Left.{Entries}
use Rattle.places.specs.Views.{ByKeys, Layer, above, above_in, asked, asked_above, asked_in, asked_over, below, below_in, by_keys, is_whole, keys_in, last_number, last_position, number_in, position_in, seen, seen_in, whole_in}
use Rattle.places.proofs.Begun.{all_after, all_beyond}
use Rattle.places.proofs.Layers.{asked_among, below_through, whole_among, whole_through}
use Rattle.places.proofs.Opened.{out_distinct, out_filter, out_group, out_hash_join, out_member, out_project, out_range, out_scan, out_seek, out_set, out_sort}
use Rattle.streams.specs.Numbers.{after_number}
use Rattle.streams.specs.Reads.{IsReadByKeys, IsReadByNumber, IsReadInIndex, entries_ranged, entries_sought, read_at, read_step, reads_once, to_begin, to_read}

-- ---- plans that read each of their tables once

pub once_scan : (table : StoredTable) → reads_once (t.Scan table) ≡ true
unfolding reads_once
once_scan table = search (rules, tree_lemmas)

pub once_filter : (condition : Condition) (rows : Tree) → reads_once (t.Filter condition rows) ≡ reads_once rows
unfolding reads_once
once_filter condition rows = search (rules, tree_lemmas)

pub once_project : (items : List Expression) (rows : Tree) → reads_once (t.Project items rows) ≡ reads_once rows
unfolding reads_once
once_project items rows = search (rules, tree_lemmas)

pub once_group : (columns : Option (List ℕ)) (functions : List SetFunction) (rows : Tree)
    → reads_once (t.Group columns functions rows) ≡ reads_once rows
unfolding reads_once
once_group columns functions rows = search (rules, tree_lemmas)

pub once_distinct : (rows : Tree) → reads_once (t.Distinct rows) ≡ reads_once rows
unfolding reads_once
once_distinct rows = search (rules, tree_lemmas)

pub once_sort : (keys : List OrderKey) (rows : Tree) → reads_once (t.Sort keys rows) ≡ reads_once rows
unfolding reads_once
once_sort keys rows = search (rules, tree_lemmas)

pub once_set : (op : SetOperation) (l r : Tree) → reads_once (t.Set op l r) ≡ (reads_once l && reads_once r)
unfolding reads_once
once_set op l r = search (rules, tree_lemmas)

pub once_hash : (on : Condition) (l r : Tree) (places columns : List ℕ)
    → reads_once (t.HashJoin on l r places columns) ≡ (reads_once l && reads_once r)
unfolding reads_once
once_hash on l r places columns = search (rules, tree_lemmas)

pub once_member : (operand : Expression) (is_negated : Bool) (members rows : Tree)
    → reads_once (t.Member operand is_negated members rows) ≡ (reads_once members && reads_once rows)
unfolding reads_once
once_member operand is_negated members rows = search (rules, tree_lemmas)

pub once_product : (l r : Tree) → reads_once (t.Product l r) ≡ false
unfolding reads_once
once_product l r = search (rules, tree_lemmas)

pub once_inner : (on : Condition) (l r : Tree) → reads_once (t.Inner on l r) ≡ false
unfolding reads_once
once_inner on l r = search (rules, tree_lemmas)

pub once_left : (on : Condition) (l r : Tree) (width : ℕ) → reads_once (t.Left on l r width) ≡ false
unfolding reads_once
once_left on l r width = search (rules, tree_lemmas)

pub once_half : (on : Condition) (l r : Tree) → reads_once (t.Half on l r) ≡ false
unfolding reads_once
once_half on l r = search (rules, tree_lemmas)

pub once_opposite : (on : Condition) (l r : Tree) → reads_once (t.OppositeHalf on l r) ≡ false
unfolding reads_once
once_opposite on l r = search (rules, tree_lemmas)

pub once_loop : (on : Condition) (l : Tree) (places : List ℕ) (table : StoredTable) (columns : List ℕ)
    → reads_once (t.IndexLoop on l places table columns) ≡ false
unfolding reads_once
once_loop on l places table columns = search (rules, tree_lemmas)

pub first_once : (a b : Bool) → (a && b) ≡ true → a ≡ true
first_once true b h = refl
first_once false b h = h

pub second_once : (a b : Bool) → (a && b) ≡ true → b ≡ true
second_once true b h = h
second_once false b h = absurd (cc)

module _ (entries : Entries) where
  -- ---- of a plan that was not begun

  pub begin_scan : (table : StoredTable) → to_begin entries (t.Scan table) ≡ length (entries table.name)
  unfolding to_begin
  begin_scan table = search (rules, tree_lemmas)

  pub begin_filter : (condition : Condition) (rows : Tree)
      → to_begin entries (t.Filter condition rows) ≡ to_begin entries rows
  unfolding to_begin
  begin_filter condition rows = search (rules, tree_lemmas)

  pub begin_project : (items : List Expression) (rows : Tree)
      → to_begin entries (t.Project items rows) ≡ to_begin entries rows
  unfolding to_begin
  begin_project items rows = search (rules, tree_lemmas)

  pub begin_group : (columns : Option (List ℕ)) (functions : List SetFunction) (rows : Tree)
      → to_begin entries (t.Group columns functions rows) ≡ to_begin entries rows
  unfolding to_begin
  begin_group columns functions rows = search (rules, tree_lemmas)

  pub begin_distinct : (rows : Tree) → to_begin entries (t.Distinct rows) ≡ to_begin entries rows
  unfolding to_begin
  begin_distinct rows = search (rules, tree_lemmas)

  pub begin_sort : (keys : List OrderKey) (rows : Tree) → to_begin entries (t.Sort keys rows) ≡ to_begin entries rows
  unfolding to_begin
  begin_sort keys rows = search (rules, tree_lemmas)

  pub begin_set : (op : SetOperation) (l r : Tree)
      → to_begin entries (t.Set op l r) ≡ to_begin entries l + to_begin entries r
  unfolding to_begin
  begin_set op l r = search (rules, tree_lemmas)

  pub begin_seek : (table : StoredTable) (columns : List ℕ) (key : List Value)
      → to_begin entries (t.Seek table columns key)
      ≡ length (entries_sought (index_place table columns) columns key (entries table.name))
  unfolding to_begin
  begin_seek table columns key = search (rules, tree_lemmas)

  pub begin_range : (table : StoredTable) (columns : List ℕ) (low high : Option Bound)
      → to_begin entries (t.Range table columns low high)
      ≡ length (entries_ranged (index_place table columns) columns low high (entries table.name))
  unfolding to_begin
  begin_range table columns low high = search (rules, tree_lemmas)

  pub begin_hash : (on : Condition) (l r : Tree) (places columns : List ℕ)
      → to_begin entries (t.HashJoin on l r places columns) ≡ to_begin entries l + to_begin entries r
  unfolding to_begin
  begin_hash on l r places columns = search (rules, tree_lemmas)

  pub begin_member : (operand : Expression) (is_negated : Bool) (members rows : Tree)
      → to_begin entries (t.Member operand is_negated members rows)
      ≡ to_begin entries members + to_begin entries rows
  unfolding to_begin
  begin_member operand is_negated members rows = search (rules, tree_lemmas)

  -- ---- at a place

  abbrev pub counted : Layer → Place-F (Tree → ℕ)
  counted y = map-Place _ _ (to_read entries) y

  read_opened : (place : Place) → to_read entries place ≡ read_step entries (counted (out-Place place))
  unfolding to_read
  read_opened place = fold_out-Place _ (read_step entries) place

  at_node : (place : Place) (tree : Tree) (node : Node) → out-Tree tree ≡ node
      → to_read entries place tree ≡ read_at entries (counted (out-Place place)) tree node
  at_node place tree node e = ap (λ f. f tree) (read_opened place)
      ∙ ap (λ n. read_at entries (counted (out-Place place)) tree n) e

  pub read_start : (tree : Tree) → to_read entries p.Start tree ≡ to_begin entries tree
  unfolding to_read
  read_start tree = search (rules, the_lemmas)

  pub read_ended : (fault : Option Fault) (tree : Tree) → to_read entries (p.Ended fault) tree ≡ 0
  unfolding to_read
  read_ended fault tree = search (rules, the_lemmas)

  pub read_kept : (rows : IntoIter Row _) (fault : Option Fault) (tree : Tree) → to_read entries (p.Kept rows fault) tree ≡ 0
  unfolding to_read
  read_kept rows fault tree = search (rules, the_lemmas)

  whole_at : (y : Layer) (tree : Tree) (node : Node) → whole_in y ≡ true → read_at entries (counted y) tree node ≡ 0
  whole_at (Place-F.Kept rows fault) tree node h = refl
  whole_at (Place-F.Ended fault) tree node h = refl
  whole_at _ tree node h = absurd (cc)

  pub read_whole : (place : Place) (tree : Tree) → is_whole place ≡ true → to_read entries place tree ≡ 0
  read_whole place tree h = at_node place tree (out-Tree tree) refl ∙ whole_at (out-Place place) tree (out-Tree tree) h

  scan_at : (y : Layer) (table : StoredTable) → whole_in y ≡ false
      → read_at entries (counted y) (t.Scan table) (Tree-F.Scan table)
      ≡ length (after_number (number_in y) (entries table.name))
  scan_at (Place-F.After number) table goes = refl
  scan_at (Place-F.Kept rows fault) table goes = absurd (cc)
  scan_at (Place-F.Ended fault) table goes = absurd (cc)
  scan_at _ table goes = begin_scan table ∙ ap (λ (es : List Entry). length es) (sym (all_after (entries table.name)))

  pub read_scan : (table : StoredTable) → IsReadByNumber entries (t.Scan table) (entries table.name)
  read_scan table place goes = at_node place (t.Scan table) (Tree-F.Scan table) (out_scan table)
      ∙ scan_at (out-Place place) table goes

  seek_at : (y : Layer) (table : StoredTable) (columns : List ℕ) (key : List Value) → whole_in y ≡ false
      → read_at entries (counted y) (t.Seek table columns key) (Tree-F.Seek table columns key)
      ≡ length (after_number (number_in y)
      (entries_sought (index_place table columns) columns key (entries table.name)))
  seek_at (Place-F.After number) table columns key goes = refl
  seek_at (Place-F.Kept rows fault) table columns key goes = absurd (cc)
  seek_at (Place-F.Ended fault) table columns key goes = absurd (cc)
  seek_at _ table columns key goes =
      begin_seek table columns key ∙ ap (λ (es : List Entry). length es)
      (sym (all_after (entries_sought (index_place table columns) columns key (entries table.name))))

  pub read_seek : (table : StoredTable) (columns : List ℕ) (key : List Value) (index : Option ℕ)
      → index_place table columns ≡ index
      → IsReadByNumber entries (t.Seek table columns key) (entries_sought index columns key (entries table.name))
  read_seek table columns key index is place goes =
      at_node place (t.Seek table columns key) (Tree-F.Seek table columns key) (out_seek table columns key)
      ∙ seek_at (out-Place place) table columns key goes
      ∙ ap (λ i. length (after_number (last_number place) (entries_sought i columns key (entries table.name)))) is

  range_at : (y : Layer) (table : StoredTable) (columns : List ℕ) (low high : Option Bound) → whole_in y ≡ false
      → read_at entries (counted y) (t.Range table columns low high) (Tree-F.Range table columns low high)
      ≡ length (beyond (position_in y) (Some columns)
      (entries_ranged (index_place table columns) columns low high (entries table.name)))
  range_at (Place-F.Beyond position) table columns low high goes = refl
  range_at (Place-F.Kept rows fault) table columns low high goes = absurd (cc)
  range_at (Place-F.Ended fault) table columns low high goes = absurd (cc)
  range_at _ table columns low high goes =
      begin_range table columns low high ∙ ap (λ (es : List Entry). length es)
      (sym (all_beyond columns (entries_ranged (index_place table columns) columns low high (entries table.name))))

  pub read_range : (table : StoredTable) (columns : List ℕ) (low high : Option Bound) (index : Option ℕ)
      → index_place table columns ≡ index
      → IsReadInIndex entries (t.Range table columns low high) columns
      (entries_ranged index columns low high (entries table.name))
  read_range table columns low high index is place goes =
      at_node place (t.Range table columns low high) (Tree-F.Range table columns low high)
      (out_range table columns low high)
      ∙ range_at (out-Place place) table columns low high goes
      ∙ ap (λ i. length (beyond (last_position place) (Some columns)
      (entries_ranged i columns low high (entries table.name)))) is

  filter_at : (y : Layer) (condition : Condition) (rows : Tree) → whole_in y ≡ false
      → read_at entries (counted y) (t.Filter condition rows) (Tree-F.Filter condition rows)
      ≡ to_read entries (below_in y) rows
  filter_at (Place-F.Through q) condition rows goes = refl
  filter_at (Place-F.Kept kept fault) condition rows goes = absurd (cc)
  filter_at (Place-F.Ended fault) condition rows goes = absurd (cc)
  filter_at _ condition rows goes = begin_filter condition rows ∙ sym (read_start rows)

  pub read_filter : (place : Place) (condition : Condition) (rows : Tree) → is_whole place ≡ false
      → to_read entries place (t.Filter condition rows) ≡ to_read entries (below place) rows
  read_filter place condition rows goes =
      at_node place (t.Filter condition rows) (Tree-F.Filter condition rows) (out_filter condition rows)
      ∙ filter_at (out-Place place) condition rows goes

  project_at : (y : Layer) (items : List Expression) (rows : Tree) → whole_in y ≡ false
      → read_at entries (counted y) (t.Project items rows) (Tree-F.Project items rows)
      ≡ to_read entries (below_in y) rows
  project_at (Place-F.Through q) items rows goes = refl
  project_at (Place-F.Kept kept fault) items rows goes = absurd (cc)
  project_at (Place-F.Ended fault) items rows goes = absurd (cc)
  project_at _ items rows goes = begin_project items rows ∙ sym (read_start rows)

  pub read_project : (place : Place) (items : List Expression) (rows : Tree) → is_whole place ≡ false
      → to_read entries place (t.Project items rows) ≡ to_read entries (below place) rows
  read_project place items rows goes =
      at_node place (t.Project items rows) (Tree-F.Project items rows) (out_project items rows)
      ∙ project_at (out-Place place) items rows goes

  distinct_at : (y : Layer) (rows : Tree) → whole_in y ≡ false
      → read_at entries (counted y) (t.Distinct rows) (Tree-F.Distinct rows) ≡ to_read entries ((seen_in y).1) rows
  distinct_at (Place-F.Seen given q) rows goes = refl
  distinct_at (Place-F.Kept kept fault) rows goes = absurd (cc)
  distinct_at (Place-F.Ended fault) rows goes = absurd (cc)
  distinct_at _ rows goes = begin_distinct rows ∙ sym (read_start rows)

  pub read_distinct : (place : Place) (rows : Tree) → is_whole place ≡ false
      → to_read entries place (t.Distinct rows) ≡ to_read entries ((seen place).1) rows
  read_distinct place rows goes = at_node place (t.Distinct rows) (Tree-F.Distinct rows) (out_distinct rows)
      ∙ distinct_at (out-Place place) rows goes

  sort_at : (y : Layer) (keys : List OrderKey) (rows : Tree) → whole_in y ≡ false
      → read_at entries (counted y) (t.Sort keys rows) (Tree-F.Sort keys rows) ≡ to_begin entries (t.Sort keys rows)
  sort_at (Place-F.Kept kept fault) keys rows goes = absurd (cc)
  sort_at (Place-F.Ended fault) keys rows goes = absurd (cc)
  sort_at _ keys rows goes = refl

  pub read_sort : (place : Place) (keys : List OrderKey) (rows : Tree) → is_whole place ≡ false
      → to_read entries place (t.Sort keys rows) ≡ to_read entries p.Start rows
  read_sort place keys rows goes = at_node place (t.Sort keys rows) (Tree-F.Sort keys rows) (out_sort keys rows)
      ∙ sort_at (out-Place place) keys rows goes ∙ begin_sort keys rows ∙ sym (read_start rows)

  group_at : (y : Layer) (columns : Option (List ℕ)) (functions : List SetFunction) (rows : Tree) → whole_in y ≡ false
      → read_at entries (counted y) (t.Group columns functions rows) (Tree-F.Group columns functions rows)
      ≡ to_begin entries (t.Group columns functions rows)
  group_at (Place-F.Kept kept fault) columns functions rows goes = absurd (cc)
  group_at (Place-F.Ended fault) columns functions rows goes = absurd (cc)
  group_at _ columns functions rows goes = refl

  pub read_group : (place : Place) (columns : Option (List ℕ)) (functions : List SetFunction) (rows : Tree)
      → is_whole place ≡ false
      → to_read entries place (t.Group columns functions rows) ≡ to_read entries p.Start rows
  read_group place columns functions rows goes =
      at_node place (t.Group columns functions rows) (Tree-F.Group columns functions rows)
      (out_group columns functions rows)
      ∙ group_at (out-Place place) columns functions rows goes
      ∙ begin_group columns functions rows ∙ sym (read_start rows)

  set_at : (y : Layer) (op : SetOperation) (l r : Tree) → whole_in y ≡ false
      → read_at entries (counted y) (t.Set op l r) (Tree-F.Set op l r) ≡ to_begin entries (t.Set op l r)
  set_at (Place-F.Kept kept fault) op l r goes = absurd (cc)
  set_at (Place-F.Ended fault) op l r goes = absurd (cc)
  set_at _ op l r goes = refl

  pub read_set : (place : Place) (op : SetOperation) (l r : Tree) → is_whole place ≡ false
      → to_read entries place (t.Set op l r) ≡ to_begin entries l + to_begin entries r
  read_set place op l r goes = at_node place (t.Set op l r) (Tree-F.Set op l r) (out_set op l r)
      ∙ set_at (out-Place place) op l r goes ∙ begin_set op l r

  -- ---- Member

  abbrev pub member_read : Tree → Tree → Option (Members × Place) → ℕ
  member_read members rows None = to_begin entries members + to_begin entries rows
  member_read members rows (Some known) = to_read entries known.1 rows

  member_at : (y : Layer) (operand : Expression) (is_negated : Bool) (members rows : Tree) → whole_in y ≡ false
      → read_at entries (counted y) (t.Member operand is_negated members rows)
      (Tree-F.Member operand is_negated members rows) ≡ member_read members rows (asked_in y)
  member_at (Place-F.Among known q) operand is_negated members rows goes = refl
  member_at (Place-F.Kept kept fault) operand is_negated members rows goes = absurd (cc)
  member_at (Place-F.Ended fault) operand is_negated members rows goes = absurd (cc)
  member_at _ operand is_negated members rows goes = begin_member operand is_negated members rows

  pub read_member : (place : Place) (operand : Expression) (is_negated : Bool) (members rows : Tree)
      → is_whole place ≡ false
      → to_read entries place (t.Member operand is_negated members rows) ≡ member_read members rows (asked place)
  read_member place operand is_negated members rows goes =
      at_node place (t.Member operand is_negated members rows) (Tree-F.Member operand is_negated members rows)
      (out_member operand is_negated members rows)
      ∙ member_at (out-Place place) operand is_negated members rows goes

  -- ---- HashJoin

  abbrev pub hash_read : Tree → Tree → Option Place → ℕ
  hash_read l r None = to_begin entries l + to_begin entries r
  hash_read l r (Some at) = to_read entries at l

  abbrev pub left_of : Option ByKeys → Option Place
  left_of = option_map (λ at. at.left)

  hash_at : (y : Layer) (on : Condition) (l r : Tree) (places columns : List ℕ) → whole_in y ≡ false
      → read_at entries (counted y) (t.HashJoin on l r places columns) (Tree-F.HashJoin on l r places columns)
      ≡ hash_read l r (left_of (keys_in y))
  hash_at (Place-F.Keyed lp ahead row matched tried side) on l r places columns goes = refl
  hash_at (Place-F.Kept kept fault) on l r places columns goes = absurd (cc)
  hash_at (Place-F.Ended fault) on l r places columns goes = absurd (cc)
  hash_at _ on l r places columns goes = begin_hash on l r places columns

  pub read_hash : (place : Place) (on : Condition) (l r : Tree) (places columns : List ℕ) → is_whole place ≡ false
      → to_read entries place (t.HashJoin on l r places columns) ≡ hash_read l r (left_of (by_keys place))
  read_hash place on l r places columns goes =
      at_node place (t.HashJoin on l r places columns) (Tree-F.HashJoin on l r places columns)
      (out_hash_join on l r places columns)
      ∙ hash_at (out-Place place) on l r places columns goes

  pub read_keys : (on : Condition) (l r : Tree) (places columns : List ℕ)
      → IsReadByKeys entries (t.HashJoin on l r places columns) l
  read_keys on l r places columns place at goes is =
      read_hash place on l r places columns goes ∙ ap (λ found. hash_read l r (left_of found)) is

  -- at a place that was made
  pub keys_read : {E : Type 0} (tree rows : Tree) → IsReadByKeys entries tree rows → (made : Result Place E) (at : ByKeys)
      → IfOk made (λ place. is_whole place ≡ false) → IfOk made (λ place. by_keys place ≡ Some at)
      → IfOk made (λ place. to_read entries place tree ≡ to_read entries at.left rows)
  keys_read tree rows is (Ok place) at goes kept = is place at goes kept
  keys_read tree rows is (Err error) at goes kept = tt

  -- ---- the places above: no more is read than below

  pub above_read : (inner : Place) (tree rows : Tree)
      → ((place : Place) → is_whole place ≡ false → to_read entries place tree ≡ to_read entries (below place) rows)
      → to_read entries (above inner) tree ≤ to_read entries inner rows
  above_read inner tree rows is = go (out-Place inner)
    where
      go : (y : Layer) → to_read entries (above_in y inner) tree ≤ to_read entries inner rows
      go (Place-F.Ended fault) = omega (arith, read_ended fault tree)
      go _ = omega (arith, is (p.Through inner) (whole_through inner) ∙ ap (λ q. to_read entries q rows) (below_through inner))

  pub asked_read : (members : Members) (inner : Place) (operand : Expression) (is_negated : Bool) (others rows : Tree)
      → to_read entries (asked_above members inner) (t.Member operand is_negated others rows)
      ≤ to_read entries inner rows
  asked_read members inner operand is_negated others rows = go (out-Place inner)
    where
      go : (y : Layer) → to_read entries (asked_over y members inner) (t.Member operand is_negated others rows)
          ≤ to_read entries inner rows
      go (Place-F.Ended fault) = omega (arith, read_ended fault (t.Member operand is_negated others rows))
      go _ = omega (
        arith,
        read_member (p.Among members inner) operand is_negated others rows (whole_among members inner)
            ∙ ap (member_read others rows) (asked_among members inner),
      )
