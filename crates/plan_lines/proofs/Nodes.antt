-- The line of each node, and those of what stands below it.
use Rattle.std.proofs.Common.{◌≡◌, ℕ, Bool, List, [], ◌∷◌, ◌++◌, codes, Option, rules}
use Rattle.sqlval.specs.declared.value.Value.{Value}
use Rattle.typing.specs.declared.typed.OrderKey.{OrderKey}
use Rattle.typing.specs.declared.typed.SetOperation.{SetOperation}
use Rattle.algebra.specs.declared.tree.Bound.{Bound}
use Rattle.algebra.specs.declared.tree.Condition.{Condition}
use Rattle.algebra.specs.declared.tree.Expression.{Expression, the_lemmas}
use Rattle.algebra.specs.declared.tree.SetFunction.{SetFunction}
use Rattle.algebra.specs.declared.tree.StoredTable.{StoredTable}
use Rattle.algebra.specs.declared.tree.Tree.{Tree}
use Rattle.algebra.specs.declared.tree.Tree.TheVariants as t
use Rattle.plan_lines.specs.Lines.{indented, plan_lines, with_table}
use Rattle.plan_lines.specs.Margin.{root_line}

pub line_scan : (table : StoredTable) → root_line (t.Scan table) ≡ with_table (codes "Scan") table
unfolding root_line
line_scan table = search (rules, the_lemmas)

pub line_filter : (condition : Condition) (rows : Tree) → root_line (t.Filter condition rows) ≡ codes "Filter"
unfolding root_line
line_filter condition rows = search (rules, the_lemmas)

pub line_product : (l r : Tree) → root_line (t.Product l r) ≡ codes "Product"
unfolding root_line
line_product l r = search (rules, the_lemmas)

pub line_inner : (on : Condition) (l r : Tree) → root_line (t.Inner on l r) ≡ codes "Inner"
unfolding root_line
line_inner on l r = search (rules, the_lemmas)

pub line_left : (on : Condition) (l r : Tree) (width : ℕ) → root_line (t.Left on l r width) ≡ codes "Left"
unfolding root_line
line_left on l r width = search (rules, the_lemmas)

pub line_half : (on : Condition) (l r : Tree) → root_line (t.Half on l r) ≡ codes "Half"
unfolding root_line
line_half on l r = search (rules, the_lemmas)

pub line_opposite : (on : Condition) (l r : Tree) → root_line (t.OppositeHalf on l r) ≡ codes "HalfNot"
unfolding root_line
line_opposite on l r = search (rules, the_lemmas)

pub line_group : (columns : Option (List ℕ)) (functions : List SetFunction) (rows : Tree) → root_line (t.Group columns functions rows) ≡ codes "Group"
unfolding root_line
line_group columns functions rows = search (rules, the_lemmas)

pub line_project : (items : List Expression) (rows : Tree) → root_line (t.Project items rows) ≡ codes "Project"
unfolding root_line
line_project items rows = search (rules, the_lemmas)

pub line_distinct : (rows : Tree) → root_line (t.Distinct rows) ≡ codes "Distinct"
unfolding root_line
line_distinct rows = search (rules, the_lemmas)

pub line_set : (op : SetOperation) (l r : Tree) → root_line (t.Set op l r) ≡ codes "Set"
unfolding root_line
line_set op l r = search (rules, the_lemmas)

pub line_sort : (keys : List OrderKey) (rows : Tree) → root_line (t.Sort keys rows) ≡ codes "Sort"
unfolding root_line
line_sort keys rows = search (rules, the_lemmas)

pub line_seek : (table : StoredTable) (columns : List ℕ) (key : List Value) → root_line (t.Seek table columns key) ≡ with_table (codes "Seek") table
unfolding root_line
line_seek table columns key = search (rules, the_lemmas)

pub line_range : (table : StoredTable) (columns : List ℕ) (low high : Option Bound) → root_line (t.Range table columns low high) ≡ with_table (codes "Range") table
unfolding root_line
line_range table columns low high = search (rules, the_lemmas)

pub line_loop : (on : Condition) (l : Tree) (places : List ℕ) (table : StoredTable) (columns : List ℕ) → root_line (t.IndexLoop on l places table columns) ≡ with_table (codes "IndexLoop") table
unfolding root_line
line_loop on l places table columns = search (rules, the_lemmas)

pub line_hash : (on : Condition) (l r : Tree) (places columns : List ℕ) → root_line (t.HashJoin on l r places columns) ≡ codes "HashJoin"
unfolding root_line
line_hash on l r places columns = search (rules, the_lemmas)

pub line_member : (operand : Expression) (is_negated : Bool) (members rows : Tree) → root_line (t.Member operand is_negated members rows) ≡ codes "Member"
unfolding root_line
line_member operand is_negated members rows = search (rules, the_lemmas)

pub ruleset line_nodes = (line_scan, line_filter, line_product, line_inner, line_left, line_half, line_opposite, line_group, line_project, line_distinct, line_set, line_sort, line_seek, line_range, line_loop, line_hash, line_member)

pub lines_scan : (table : StoredTable)
    → plan_lines (t.Scan table) ≡ root_line (t.Scan table) ∷ indented ([])
unfolding root_line plan_lines
lines_scan table = search (rules, the_lemmas)

pub lines_filter : (condition : Condition) (rows : Tree)
    → plan_lines (t.Filter condition rows) ≡ root_line (t.Filter condition rows) ∷ indented (plan_lines rows)
unfolding root_line plan_lines
lines_filter condition rows = search (rules, the_lemmas)

pub lines_product : (l r : Tree)
    → plan_lines (t.Product l r) ≡ root_line (t.Product l r) ∷ indented (plan_lines l ++ plan_lines r)
unfolding root_line plan_lines
lines_product l r = search (rules, the_lemmas)

pub lines_inner : (on : Condition) (l r : Tree)
    → plan_lines (t.Inner on l r) ≡ root_line (t.Inner on l r) ∷ indented (plan_lines l ++ plan_lines r)
unfolding root_line plan_lines
lines_inner on l r = search (rules, the_lemmas)

pub lines_left : (on : Condition) (l r : Tree) (width : ℕ)
    → plan_lines (t.Left on l r width) ≡ root_line (t.Left on l r width) ∷ indented (plan_lines l ++ plan_lines r)
unfolding root_line plan_lines
lines_left on l r width = search (rules, the_lemmas)

pub lines_half : (on : Condition) (l r : Tree)
    → plan_lines (t.Half on l r) ≡ root_line (t.Half on l r) ∷ indented (plan_lines l ++ plan_lines r)
unfolding root_line plan_lines
lines_half on l r = search (rules, the_lemmas)

pub lines_opposite : (on : Condition) (l r : Tree)
    → plan_lines (t.OppositeHalf on l r) ≡ root_line (t.OppositeHalf on l r) ∷ indented (plan_lines l ++ plan_lines r)
unfolding root_line plan_lines
lines_opposite on l r = search (rules, the_lemmas)

pub lines_group : (columns : Option (List ℕ)) (functions : List SetFunction) (rows : Tree)
    → plan_lines (t.Group columns functions rows) ≡ root_line (t.Group columns functions rows) ∷ indented (plan_lines rows)
unfolding root_line plan_lines
lines_group columns functions rows = search (rules, the_lemmas)

pub lines_project : (items : List Expression) (rows : Tree)
    → plan_lines (t.Project items rows) ≡ root_line (t.Project items rows) ∷ indented (plan_lines rows)
unfolding root_line plan_lines
lines_project items rows = search (rules, the_lemmas)

pub lines_distinct : (rows : Tree)
    → plan_lines (t.Distinct rows) ≡ root_line (t.Distinct rows) ∷ indented (plan_lines rows)
unfolding root_line plan_lines
lines_distinct rows = search (rules, the_lemmas)

pub lines_set : (op : SetOperation) (l r : Tree)
    → plan_lines (t.Set op l r) ≡ root_line (t.Set op l r) ∷ indented (plan_lines l ++ plan_lines r)
unfolding root_line plan_lines
lines_set op l r = search (rules, the_lemmas)

pub lines_sort : (keys : List OrderKey) (rows : Tree)
    → plan_lines (t.Sort keys rows) ≡ root_line (t.Sort keys rows) ∷ indented (plan_lines rows)
unfolding root_line plan_lines
lines_sort keys rows = search (rules, the_lemmas)

pub lines_seek : (table : StoredTable) (columns : List ℕ) (key : List Value)
    → plan_lines (t.Seek table columns key) ≡ root_line (t.Seek table columns key) ∷ indented ([])
unfolding root_line plan_lines
lines_seek table columns key = search (rules, the_lemmas)

pub lines_range : (table : StoredTable) (columns : List ℕ) (low high : Option Bound)
    → plan_lines (t.Range table columns low high) ≡ root_line (t.Range table columns low high) ∷ indented ([])
unfolding root_line plan_lines
lines_range table columns low high = search (rules, the_lemmas)

pub lines_loop : (on : Condition) (l : Tree) (places : List ℕ) (table : StoredTable) (columns : List ℕ)
    → plan_lines (t.IndexLoop on l places table columns) ≡ root_line (t.IndexLoop on l places table columns) ∷ indented (plan_lines l)
unfolding root_line plan_lines
lines_loop on l places table columns = search (rules, the_lemmas)

pub lines_hash : (on : Condition) (l r : Tree) (places columns : List ℕ)
    → plan_lines (t.HashJoin on l r places columns) ≡ root_line (t.HashJoin on l r places columns) ∷ indented (plan_lines l ++ plan_lines r)
unfolding root_line plan_lines
lines_hash on l r places columns = search (rules, the_lemmas)

pub lines_member : (operand : Expression) (is_negated : Bool) (members rows : Tree)
    → plan_lines (t.Member operand is_negated members rows) ≡ root_line (t.Member operand is_negated members rows) ∷ indented (plan_lines rows ++ plan_lines members)
unfolding root_line plan_lines
lines_member operand is_negated members rows = search (rules, the_lemmas)

pub ruleset plan_nodes = (lines_scan, lines_filter, lines_product, lines_inner, lines_left, lines_half, lines_opposite, lines_group, lines_project, lines_distinct, lines_set, lines_sort, lines_seek, lines_range, lines_loop, lines_hash, lines_member)
