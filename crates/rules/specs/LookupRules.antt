-- Rules that look rows up by an index: Q8 and Q9.
use Rattle.std.specs.Prelude.{ℕ, List, [], ◌∷◌, Option, Some, None}
use Rattle.std.specs.Option.{option_map, option_or}
use Rattle.algebra.specs.declared.tree.Bound.{Bound}
use Rattle.algebra.specs.declared.tree.Condition.{Condition}
use Rattle.algebra.specs.declared.tree.StoredTable.{StoredTable}
use Rattle.algebra.specs.declared.tree.Tree.{Tree, Tree-F, out-Tree}
use Rattle.algebra.specs.declared.tree.Tree.TheVariants as t
use Rattle.key_lookups.specs.Sought.{key_sought}
use Rattle.rules.specs.Bounds.{low_among, high_among}
use Rattle.rules.specs.Conjuncts.{conjuncts, quiet}
use Rattle.rules.specs.Indexes.{key_first}
use Rattle.rules.specs.Nodes.{Node, given, first_found, at_filter}

-- what is made of a filter of a whole table
abbrev pub at_scan : (Condition → StoredTable → Option Tree) → Condition → Node Tree-F → Option Tree
at_scan make condition (Tree-F.Scan table) = make condition table
at_scan make condition _ = None

abbrev pub at_table : (Condition → StoredTable → Option Tree) → Tree → Option Tree
at_table make tree = at_filter (λ condition rows. at_scan make condition (out-Tree rows)) (out-Tree tree)

-- ---- Q8: equalities become a seek

-- A condition that may raise asks for no key. The whole condition stays above what is found.
abbrev pub seek_by : Condition → StoredTable → List ℕ → Option Tree
seek_by condition table columns =
    option_map (λ key. t.Filter condition (t.Seek table columns key)) (key_sought columns condition)

abbrev pub filter_to_seek : Tree → Option Tree
filter_to_seek = at_table (λ condition table. first_found (seek_by condition table) (key_first table))

-- ---- Q9: bounds become a range

abbrev pub between_both : Condition → StoredTable → List ℕ → Option Bound → Option Bound → Option Tree
between_both condition table columns (Some low) (Some high) =
    Some (t.Filter condition (t.Range table columns (Some low) (Some high)))
between_both condition table columns _ _ = None

abbrev pub beyond_one : Condition → StoredTable → List ℕ → Option Bound → Option Bound → Option Tree
beyond_one condition table columns None None = None
beyond_one condition table columns low high = Some (t.Filter condition (t.Range table columns low high))

-- by the bounds of the first column
abbrev pub range_by : (Condition → StoredTable → List ℕ → Option Bound → Option Bound → Option Tree)
    → Condition → StoredTable → List ℕ → Option Tree
range_by make condition table [] = None
range_by make condition table (column ∷ columns) = make condition table (column ∷ columns)
    (low_among column (conjuncts condition)) (high_among column (conjuncts condition))

-- by an index with both bounds before one with a single bound
abbrev pub filter_to_range : Tree → Option Tree
filter_to_range = at_table (λ condition table. given (quiet condition)
    (option_or (first_found (range_by between_both condition table) (key_first table))
    (first_found (range_by beyond_one condition table) (key_first table))))
