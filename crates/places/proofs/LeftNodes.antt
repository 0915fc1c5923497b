-- What is left at each place, node by node: what the node makes of what it takes from the place.
use Rattle.std.proofs.Common.{◌≡◌, refl, sym, ap, ◌∙◌, ℕ, Bool, false, List, [], map, Option, Some, None, rules}
use Rattle.sqlval.specs.declared.value.Value.{Value}
use Rattle.sqlval.specs.Matching.{rows_matching}
use Rattle.sqlval.specs.Value.{Row}
use Rattle.typing.specs.declared.typed.OrderKey.{OrderKey}
use Rattle.typing.specs.declared.typed.SetOperation.{SetOperation}
use Rattle.algebra.specs.declared.tree.Bound.{Bound}
use Rattle.algebra.specs.declared.tree.Condition.{Condition}
use Rattle.algebra.specs.declared.tree.Expression.{Expression}
use Rattle.algebra.specs.declared.tree.SetFunction.{SetFunction}
use Rattle.algebra.specs.declared.tree.StoredTable.{StoredTable}
use Rattle.algebra.specs.declared.tree.Tree.{Tree, Tree-F, out-Tree}
use Rattle.algebra.specs.declared.tree.Tree.TheVariants as t
use Rattle.algebra.specs.Joined.{is_member}
use Rattle.algebra.specs.Listing.{first_only, listed_rows, listing_step, onwards, row_by_row, tree_listing, truth_listing, value_listing}
use Rattle.algebra.proofs.Nodes.{tree_scan, tree_seek, tree_range, tree_filter, tree_project, tree_member, tree_distinct}
use Rattle.denote.specs.From.{kept_row}
use Rattle.denote.specs.Outcome.{Outcome}
use Rattle.denote.specs.Select.{shown_row}
use Rattle.store.specs.Contents.{rows_of}
use Rattle.places.specs.declared.place.Members.{Members}
use Rattle.places.specs.declared.place.Place.{Place, Place-F, out-Place, map-Place, fold_out-Place, the_lemmas}
use Rattle.places.specs.declared.place.Place.TheVariants as p
use Rattle.places.specs.Joins.{Node}
use Rattle.places.specs.Left.{Entries, left, left_at, left_step, members_listed, rows_after, rows_beyond, rows_by, unseen}
use Rattle.places.specs.Views.{Layer, asked, asked_in, below, below_in, is_whole, last_number, last_position, number_in, position_in, seen, seen_in, whole_in}
use Rattle.places.proofs.Begun.{all_after, none_seen, range_begins}
use Rattle.places.proofs.Opened.{out_distinct, out_filter, out_group, out_member, out_project, out_range, out_scan, out_seek, out_set, out_sort}

module _ (entries : Entries) where
  -- a place with what is left of its parts in their places
  abbrev pub meant : Layer → Place-F (Tree → Outcome)
  meant y = map-Place _ _ (left entries) y

  pub left_opened : (place : Place) → left entries place ≡ left_step entries (meant (out-Place place))
  unfolding left
  left_opened place = fold_out-Place _ (left_step entries) place

  pub at_node : (place : Place) (tree : Tree) (node : Node) → out-Tree tree ≡ node
      → left entries place tree ≡ left_at entries (meant (out-Place place)) tree node
  at_node place tree node e = ap (λ f. f tree) (left_opened place)
      ∙ ap (λ n. left_at entries (meant (out-Place place)) tree n) e

  pub left_start : (tree : Tree) → left entries p.Start tree ≡ tree_listing (rows_by entries) tree []
  unfolding left
  left_start tree = search (rules, the_lemmas)

  -- ---- Scan

  scan_at : (y : Layer) (table : StoredTable) → whole_in y ≡ false
      → left_at entries (meant y) (t.Scan table) (Tree-F.Scan table)
      ≡ listed_rows (rows_after entries table.name (number_in y))
  scan_at (Place-F.After number) table goes = refl
  scan_at (Place-F.Kept rows fault) table goes = absurd (cc)
  scan_at (Place-F.Ended fault) table goes = absurd (cc)
  scan_at _ table goes =
      ap (λ m. m []) (tree_scan (listing_step (rows_by entries)) table)
      ∙ ap (λ found. listed_rows (rows_of found)) (sym (all_after (entries table.name)))

  pub left_scan : (place : Place) (table : StoredTable) → is_whole place ≡ false
      → left entries place (t.Scan table) ≡ listed_rows (rows_after entries table.name (last_number place))
  left_scan place table goes = at_node place (t.Scan table) (Tree-F.Scan table) (out_scan table)
      ∙ scan_at (out-Place place) table goes

  -- ---- Seek

  seek_at : (y : Layer) (table : StoredTable) (columns : List ℕ) (key : List Value) → whole_in y ≡ false
      → left_at entries (meant y) (t.Seek table columns key) (Tree-F.Seek table columns key)
      ≡ listed_rows (rows_matching columns key (rows_after entries table.name (number_in y)))
  seek_at (Place-F.After number) table columns key goes = refl
  seek_at (Place-F.Kept rows fault) table columns key goes = absurd (cc)
  seek_at (Place-F.Ended fault) table columns key goes = absurd (cc)
  seek_at _ table columns key goes =
      ap (λ m. m []) (tree_seek (listing_step (rows_by entries)) table columns key)
      ∙ ap (λ found. listed_rows (rows_matching columns key (rows_of found))) (sym (all_after (entries table.name)))

  pub left_seek : (place : Place) (table : StoredTable) (columns : List ℕ) (key : List Value) → is_whole place ≡ false
      → left entries place (t.Seek table columns key)
      ≡ listed_rows (rows_matching columns key (rows_after entries table.name (last_number place)))
  left_seek place table columns key goes =
      at_node place (t.Seek table columns key) (Tree-F.Seek table columns key) (out_seek table columns key)
      ∙ seek_at (out-Place place) table columns key goes

  -- ---- Range

  range_at : (y : Layer) (table : StoredTable) (columns : List ℕ) (low high : Option Bound) → whole_in y ≡ false
      → left_at entries (meant y) (t.Range table columns low high) (Tree-F.Range table columns low high)
      ≡ listed_rows (rows_beyond columns low high (position_in y) (entries table.name))
  range_at (Place-F.Beyond position) table columns low high goes = refl
  range_at (Place-F.Kept rows fault) table columns low high goes = absurd (cc)
  range_at (Place-F.Ended fault) table columns low high goes = absurd (cc)
  range_at _ table columns low high goes =
      ap (λ m. m []) (tree_range (listing_step (rows_by entries)) table columns low high)
      ∙ ap listed_rows (range_begins columns low high (entries table.name))

  pub left_range : (place : Place) (table : StoredTable) (columns : List ℕ) (low high : Option Bound)
      → is_whole place ≡ false
      → left entries place (t.Range table columns low high)
      ≡ listed_rows (rows_beyond columns low high (last_position place) (entries table.name))
  left_range place table columns low high goes =
      at_node place (t.Range table columns low high) (Tree-F.Range table columns low high)
      (out_range table columns low high)
      ∙ range_at (out-Place place) table columns low high goes

  -- ---- Filter

  abbrev kept_on : Condition → List Row → Outcome
  kept_on condition = row_by_row (kept_row (truth_listing (rows_by entries) condition) [])

  filter_at : (y : Layer) (condition : Condition) (rows : Tree) → whole_in y ≡ false
      → left_at entries (meant y) (t.Filter condition rows) (Tree-F.Filter condition rows)
      ≡ onwards (left entries (below_in y) rows) (kept_on condition)
  filter_at (Place-F.Through q) condition rows goes = refl
  filter_at (Place-F.Kept kept fault) condition rows goes = absurd (cc)
  filter_at (Place-F.Ended fault) condition rows goes = absurd (cc)
  filter_at _ condition rows goes =
      ap (λ m. m []) (tree_filter (listing_step (rows_by entries)) condition rows)
      ∙ ap (λ o. onwards o (kept_on condition)) (sym (left_start rows))

  pub left_filter : (place : Place) (condition : Condition) (rows : Tree) → is_whole place ≡ false
      → left entries place (t.Filter condition rows)
      ≡ onwards (left entries (below place) rows) (row_by_row (kept_row (truth_listing (rows_by entries) condition) []))
  left_filter place condition rows goes =
      at_node place (t.Filter condition rows) (Tree-F.Filter condition rows) (out_filter condition rows)
      ∙ filter_at (out-Place place) condition rows goes

  -- ---- Project

  abbrev shown_by : List Expression → List Row → Outcome
  shown_by items = row_by_row (shown_row (map (value_listing (rows_by entries)) items) [])

  project_at : (y : Layer) (items : List Expression) (rows : Tree) → whole_in y ≡ false
      → left_at entries (meant y) (t.Project items rows) (Tree-F.Project items rows)
      ≡ onwards (left entries (below_in y) rows) (shown_by items)
  project_at (Place-F.Through q) items rows goes = refl
  project_at (Place-F.Kept kept fault) items rows goes = absurd (cc)
  project_at (Place-F.Ended fault) items rows goes = absurd (cc)
  project_at _ items rows goes =
      ap (λ m. m []) (tree_project (listing_step (rows_by entries)) items rows)
      ∙ ap (λ o. onwards o (shown_by items)) (sym (left_start rows))

  pub left_project : (place : Place) (items : List Expression) (rows : Tree) → is_whole place ≡ false
      → left entries place (t.Project items rows)
      ≡ onwards (left entries (below place) rows)
      (row_by_row (shown_row (map (value_listing (rows_by entries)) items) []))
  left_project place items rows goes =
      at_node place (t.Project items rows) (Tree-F.Project items rows) (out_project items rows)
      ∙ project_at (out-Place place) items rows goes

  -- ---- Member

  abbrev members_kept : Expression → Bool → Outcome → List Row → Outcome
  members_kept operand is_negated members =
      row_by_row (kept_row (is_member (value_listing (rows_by entries) operand) is_negated members) [])

  abbrev pub member_left : Expression → Bool → Tree → Tree → Option (Members × Place) → Outcome
  member_left operand is_negated members rows None =
      onwards (tree_listing (rows_by entries) rows [])
      (members_kept operand is_negated (tree_listing (rows_by entries) members []))
  member_left operand is_negated members rows (Some known) = onwards (left entries known.1 rows)
      (members_kept operand is_negated (members_listed known.0))

  member_at : (y : Layer) (operand : Expression) (is_negated : Bool) (members rows : Tree) → whole_in y ≡ false
      → left_at entries (meant y) (t.Member operand is_negated members rows)
      (Tree-F.Member operand is_negated members rows)
      ≡ member_left operand is_negated members rows (asked_in y)
  member_at (Place-F.Among known q) operand is_negated members rows goes = refl
  member_at (Place-F.Kept kept fault) operand is_negated members rows goes = absurd (cc)
  member_at (Place-F.Ended fault) operand is_negated members rows goes = absurd (cc)
  member_at _ operand is_negated members rows goes =
      ap (λ m. m []) (tree_member (listing_step (rows_by entries)) operand is_negated members rows)

  -- before the members are known, and with what they are
  pub left_member : (place : Place) (operand : Expression) (is_negated : Bool) (members rows : Tree)
      → is_whole place ≡ false
      → left entries place (t.Member operand is_negated members rows) ≡ member_left operand is_negated members rows
      (asked place)
  left_member place operand is_negated members rows goes =
      at_node place (t.Member operand is_negated members rows) (Tree-F.Member operand is_negated members rows)
      (out_member operand is_negated members rows)
      ∙ member_at (out-Place place) operand is_negated members rows goes

  -- ---- Distinct

  abbrev pub distinct_left : Tree → List Row × Place → Outcome
  distinct_left rows at = record {
    rows = unseen at.0 (left entries at.1 rows).rows;
    faults =
        first_only (left entries at.1 rows).faults;
  }

  distinct_at : (y : Layer) (rows : Tree) → whole_in y ≡ false
      → left_at entries (meant y) (t.Distinct rows) (Tree-F.Distinct rows) ≡ distinct_left rows (seen_in y)
  distinct_at (Place-F.Seen given q) rows goes = refl
  distinct_at (Place-F.Kept kept fault) rows goes = absurd (cc)
  distinct_at (Place-F.Ended fault) rows goes = absurd (cc)
  distinct_at _ rows goes =
      ap (λ m. m []) (tree_distinct (listing_step (rows_by entries)) rows)
      ∙ ap (λ zs. record { rows = zs; faults = first_only (tree_listing (rows_by entries) rows []).faults })
      (none_seen (tree_listing (rows_by entries) rows []).rows)
      ∙ ap (λ (o : Outcome). record { rows = unseen [] o.rows; faults = first_only o.faults }) (sym (left_start rows))

  pub left_distinct : (place : Place) (rows : Tree) → is_whole place ≡ false
      → left entries place (t.Distinct rows) ≡ distinct_left rows (seen place)
  left_distinct place rows goes = at_node place (t.Distinct rows) (Tree-F.Distinct rows) (out_distinct rows)
      ∙ distinct_at (out-Place place) rows goes

  -- ---- what takes its parts whole

  sort_at : (y : Layer) (keys : List OrderKey) (rows : Tree) → whole_in y ≡ false
      → left_at entries (meant y) (t.Sort keys rows) (Tree-F.Sort keys rows) ≡ tree_listing (rows_by entries)
      (t.Sort keys rows) []
  sort_at (Place-F.Kept kept fault) keys rows goes = absurd (cc)
  sort_at (Place-F.Ended fault) keys rows goes = absurd (cc)
  sort_at _ keys rows goes = refl

  pub left_sort : (place : Place) (keys : List OrderKey) (rows : Tree) → is_whole place ≡ false
      → left entries place (t.Sort keys rows) ≡ tree_listing (rows_by entries) (t.Sort keys rows) []
  left_sort place keys rows goes = at_node place (t.Sort keys rows) (Tree-F.Sort keys rows) (out_sort keys rows)
      ∙ sort_at (out-Place place) keys rows goes

  group_at : (y : Layer) (columns : Option (List ℕ)) (functions : List SetFunction) (rows : Tree) → whole_in y ≡ false
      → left_at entries (meant y) (t.Group columns functions rows) (Tree-F.Group columns functions rows)
      ≡ tree_listing (rows_by entries) (t.Group columns functions rows) []
  group_at (Place-F.Kept kept fault) columns functions rows goes = absurd (cc)
  group_at (Place-F.Ended fault) columns functions rows goes = absurd (cc)
  group_at _ columns functions rows goes = refl

  pub left_group : (place : Place) (columns : Option (List ℕ)) (functions : List SetFunction) (rows : Tree)
      → is_whole place ≡ false
      → left entries place (t.Group columns functions rows) ≡ tree_listing (rows_by entries)
      (t.Group columns functions rows) []
  left_group place columns functions rows goes =
      at_node place (t.Group columns functions rows) (Tree-F.Group columns functions rows)
      (out_group columns functions rows)
      ∙ group_at (out-Place place) columns functions rows goes

  set_at : (y : Layer) (op : SetOperation) (l r : Tree) → whole_in y ≡ false
      → left_at entries (meant y) (t.Set op l r) (Tree-F.Set op l r) ≡ tree_listing (rows_by entries) (t.Set op l r) []
  set_at (Place-F.Kept kept fault) op l r goes = absurd (cc)
  set_at (Place-F.Ended fault) op l r goes = absurd (cc)
  set_at _ op l r goes = refl

  pub left_set : (place : Place) (op : SetOperation) (l r : Tree) → is_whole place ≡ false
      → left entries place (t.Set op l r) ≡ tree_listing (rows_by entries) (t.Set op l r) []
  left_set place op l r goes = at_node place (t.Set op l r) (Tree-F.Set op l r) (out_set op l r)
      ∙ set_at (out-Place place) op l r goes
