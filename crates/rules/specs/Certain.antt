-- Where a rule is sure to be used, and what stands there afterwards.
use Rattle.std.specs.Prelude.{◌≡◌, ℕ, ◌+◌, nat_lt, Bool, true, false, List, [], ◌∷◌, map, Option, Some, None, Contains, slice_get}
use Rattle.std.specs.Prelude.{◌⊎◌}
use Rattle.std.specs.List.{list_all}
use Rattle.algebra.specs.Raising.{is_plain}
use Rattle.algebra.specs.declared.tree.Bound.{Bound}
use Rattle.algebra.specs.declared.tree.Condition.TheVariants as c
use Rattle.algebra.specs.declared.tree.Condition.{Condition}
use Rattle.algebra.specs.declared.tree.Expression.TheVariants as e
use Rattle.algebra.specs.declared.tree.Expression.{Expression}
use Rattle.algebra.specs.declared.tree.StoredTable.{StoredTable}
use Rattle.algebra.specs.declared.tree.Tree.TheVariants as t
use Rattle.algebra.specs.declared.tree.Tree.{Tree, Tree-F, out-Tree}
use Rattle.closed_trees.specs.Outside.{depths_in_tree}
use Rattle.rules.specs.declared.rule.Rule.TheVariants as by
use Rattle.rules.specs.declared.rule.Rule.{Rule}
use Rattle.rules.specs.Applied.{applied}
use Rattle.rules.specs.Columns.{Place, names_only, in_left, in_right, in_half}
use Rattle.rules.specs.Conjuncts.{conjuncts}
use Rattle.rules.specs.Nodes.{Node}
use Rattle.rules.specs.Paths.{node_at}
use Rattle.rules.specs.Width.{width_of_tree}
use Rattle.sqlval.specs.declared.comparison.CompOp.TheVariants as comparing
use Rattle.sqlval.specs.declared.comparison.CompOp.{CompOp}
use Rattle.sqlval.specs.declared.value.Value.{Value}
use Rattle.typing.specs.declared.typed.OrderKey.{OrderKey}

-- ---- words

-- one of the conjuncts of a condition
abbrev pub IsConjunct : Condition → Condition → Type 0
IsConjunct condition conjunct = Contains (conjuncts condition) conjunct

-- a column of the row itself
abbrev pub own : ℕ → Expression
own place = e.Column 0 place

-- a comparison of two operands, whichever comes first
abbrev pub Compares : CompOp → Expression → Expression → Condition → Type 0
Compares op one other condition = (condition ≡ c.Compare op one other) ⊎ (condition ≡ c.Compare op other one)

-- a condition with a conjunct that compares these
pub record HasComparison (condition : Condition) (op : CompOp) (one other : Expression) : Type 0 where
  pub conjunct : Condition
  pub among : IsConjunct condition conjunct
  pub compares : Compares op one other conjunct

-- the conditions that a node has itself
abbrev pub own_conditions : Node Tree-F → List Condition
own_conditions (Tree-F.Filter condition rows) = condition ∷ []
own_conditions (Tree-F.Inner on left right) = on ∷ []
own_conditions (Tree-F.Left on left right width) = on ∷ []
own_conditions (Tree-F.Half on left right) = on ∷ []
own_conditions (Tree-F.OppositeHalf on left right) = on ∷ []
own_conditions (Tree-F.IndexLoop on left places table columns) = on ∷ []
own_conditions (Tree-F.HashJoin on left right left_places right_places) = on ∷ []
own_conditions _ = []

-- all conditions of a tree are plain, whatever the path to their node
abbrev pub AllPlain : Tree → Type 0
AllPlain tree = (path : List ℕ) (node : Tree) → node_at path tree ≡ Some node
    → list_all is_plain (own_conditions (out-Tree node)) ≡ true

-- ---- where each rule is sure to be used

-- Q1: an AND whose conjuncts behind the first are plain
pub record CanSplit (node : Tree) : Type 0 where
  pub first : Condition
  pub second : Condition
  pub rest : List Condition
  pub rows : Tree
  pub is : node ≡ t.Filter (c.And (first ∷ (second ∷ rest))) rows
  pub plain : list_all is_plain (second ∷ rest) ≡ true

-- Q2: above a product, naming columns of one side alone, where all conditions of the tree are plain
pub record CanGoBelow (tree node : Tree) : Type 0 where
  pub condition : Condition
  pub left : Tree
  pub right : Tree
  pub w : ℕ
  pub is : node ≡ t.Filter condition (t.Product left right)
  pub wide : width_of_tree left ≡ Some w
  pub conjunct : Condition
  pub among : IsConjunct condition conjunct
  pub side : (names_only (in_left w) condition ≡ true) ⊎ (names_only (in_right w) condition ≡ true)
  pub plain : AllPlain tree

-- Q3: above a left join, naming left columns alone, where all conditions of the tree are plain
pub record CanGoLeft (tree node : Tree) : Type 0 where
  pub condition : Condition
  pub on : Condition
  pub left : Tree
  pub right : Tree
  pub width : ℕ
  pub w : ℕ
  pub is : node ≡ t.Filter condition (t.Left on left right width)
  pub wide : width_of_tree left ≡ Some w
  pub conjunct : Condition
  pub among : IsConjunct condition conjunct
  pub side : names_only (in_left w) condition ≡ true
  pub plain : AllPlain tree

-- Q4: a plain ON with a conjunct that names right columns alone
pub record CanGoRight (node : Tree) : Type 0 where
  pub on : Condition
  pub left : Tree
  pub right : Tree
  pub width : ℕ
  pub w : ℕ
  pub is : node ≡ t.Left on left right width
  pub wide : width_of_tree left ≡ Some w
  pub plain : is_plain on ≡ true
  pub conjunct : Condition
  pub among : IsConjunct on conjunct
  pub side : names_only (in_right w) conjunct ≡ true

-- Q5: a filter above a product
pub record CanJoin (node : Tree) : Type 0 where
  pub condition : Condition
  pub left : Tree
  pub right : Tree
  pub is : node ≡ t.Filter condition (t.Product left right)

-- Q7: a plain filter above a left join, with a conjunct that compares a right column with a literal
pub record CanLosePadding (node : Tree) : Type 0 where
  pub condition : Condition
  pub on : Condition
  pub left : Tree
  pub right : Tree
  pub width : ℕ
  pub w : ℕ
  pub is : node ≡ t.Filter condition (t.Left on left right width)
  pub wide : width_of_tree left ≡ Some w
  pub plain : is_plain condition ≡ true
  pub place : ℕ
  pub past : nat_lt place w ≡ false
  pub literal : Value
  pub op : CompOp
  pub compares : HasComparison condition op (own place) (e.Constant literal)

-- Q8: a plain filter of a table that equates each column of an index with a literal
pub record CanSeek (node : Tree) : Type 0 where
  pub condition : Condition
  pub table : StoredTable
  pub columns : List ℕ
  pub is : node ≡ t.Filter condition (t.Scan table)
  pub plain : is_plain condition ≡ true
  pub index : Contains table.indexes columns
  pub equates : (column : ℕ) → Contains columns column
      → (literal : Value) × HasComparison condition comparing.Equal (own column) (e.Constant literal)

-- an operator that sets a bound
abbrev pub sets_bound : CompOp → Bool
sets_bound comparing.Less = true
sets_bound comparing.LessOrEqual = true
sets_bound comparing.Greater = true
sets_bound comparing.GreaterOrEqual = true
sets_bound _ = false

-- Q9: a plain filter of a table that bounds an index's first column by a literal
pub record CanRange (node : Tree) : Type 0 where
  pub condition : Condition
  pub table : StoredTable
  pub column : ℕ
  pub columns : List ℕ
  pub is : node ≡ t.Filter condition (t.Scan table)
  pub plain : is_plain condition ≡ true
  pub index : Contains table.indexes (column ∷ columns)
  pub op : CompOp
  pub bounds : sets_bound op ≡ true
  pub literal : Value
  pub compares : HasComparison condition op (own column) (e.Constant literal)

-- Q10: a plain inner join that equates a left and a right column
pub record CanHash (node : Tree) : Type 0 where
  pub on : Condition
  pub left : Tree
  pub right : Tree
  pub w : ℕ
  pub is : node ≡ t.Inner on left right
  pub wide : width_of_tree left ≡ Some w
  pub plain : is_plain on ≡ true
  pub place : ℕ
  pub column : ℕ
  pub within : nat_lt place w ≡ true
  pub equates : HasComparison on comparing.Equal (own place) (own (w + column))

-- Q11: a plain inner join with a table that equates each column of an index with a left column
pub record CanLoop (node : Tree) : Type 0 where
  pub on : Condition
  pub left : Tree
  pub table : StoredTable
  pub w : ℕ
  pub columns : List ℕ
  pub is : node ≡ t.Inner on left (t.Scan table)
  pub wide : width_of_tree left ≡ Some w
  pub plain : is_plain on ≡ true
  pub index : Contains table.indexes columns
  pub equates : (column : ℕ) → Contains columns column
      → (place : ℕ) × (nat_lt place w ≡ true) × HasComparison on comparing.Equal (own place) (own (w + column))

-- Q12: DISTINCT of items of a table that has a primary key, all columns of it among the items
pub record CanDropDistinct (node : Tree) : Type 0 where
  pub items : List Expression
  pub table : StoredTable
  pub columns : List ℕ
  pub is : node ≡ t.Distinct (t.Project items (t.Scan table))
  pub key : table.key ≡ Some columns
  pub there : (column : ℕ) → Contains columns column → Contains items (own column)

-- EXISTS of a subquery, or NOT EXISTS
abbrev pub exists_as : Bool → Tree → Condition
exists_as true query = c.Exists query
exists_as false query = c.Not (c.Exists query)

-- Q13: EXISTS alone, of columns of a table at a plain condition, which names only columns of the
-- row outside that it has
pub record CanHalve (node : Tree) : Type 0 where
  pub wanted : Bool
  pub columns : List Place
  pub condition : Condition
  pub table : StoredTable
  pub left : Tree
  pub w : ℕ
  pub is : node ≡ t.Filter (exists_as wanted (t.Project (map (λ column. e.Column column.0 column.1) columns)
      (t.Filter condition (t.Scan table)))) left
  pub wide : width_of_tree left ≡ Some w
  pub plain : is_plain condition ≡ true
  pub names : names_only (in_half w) condition ≡ true

-- IN a subquery, or NOT IN
abbrev pub in_as : Bool → Expression → Tree → Condition
in_as false operand members = c.InQuery operand members
in_as true operand members = c.Not (c.InQuery operand members)

-- Q14: IN alone, whose subquery names no column outside itself
pub record CanBeMember (node : Tree) : Type 0 where
  pub is_negated : Bool
  pub operand : Expression
  pub members : Tree
  pub rows : Tree
  pub is : node ≡ t.Filter (in_as is_negated operand members) rows
  pub closed : depths_in_tree members ≡ []

-- Q15: a sort of columns of a table, none of them twice, whose keys are all ascending and in order
-- the
-- columns of an index
pub record CanGoInOrder (node : Tree) : Type 0 where
  pub keys : List OrderKey
  pub places : List ℕ
  pub table : StoredTable
  pub columns : List ℕ
  pub is : node ≡ t.Sort keys (t.Project (map own places) (t.Scan table))
  pub once : (i j column : ℕ) → slice_get places i ≡ Some column → slice_get places j ≡ Some column → i ≡ j
  pub index : Contains table.indexes columns
  pub ascend : map (λ key. key.descending) keys ≡ map (λ column. false) columns
  pub order : map (λ key. slice_get places key.place) keys ≡ map (λ column. Some column) columns

-- Q16: an AND whose first conjunct is plain
pub record CanTryFirst (node : Tree) : Type 0 where
  pub first : Condition
  pub second : Condition
  pub rest : List Condition
  pub rows : Tree
  pub is : node ≡ t.Filter (c.And (first ∷ (second ∷ rest))) rows
  pub plain : is_plain first ≡ true

-- Q6 is sure to be used nowhere.
abbrev pub Certain : Rule → Tree → Tree → Type 0
Certain by.SplitFilter tree node = CanSplit node
Certain by.FilterBelowProduct tree node = CanGoBelow tree node
Certain by.FilterLeftOfLeftJoin tree node = CanGoLeft tree node
Certain by.OnIntoRightSide tree node = CanGoRight node
Certain by.ProductToInner tree node = CanJoin node
Certain by.RegroupInner tree node = ⊥
Certain by.LeftToInner tree node = CanLosePadding node
Certain by.FilterToSeek tree node = CanSeek node
Certain by.FilterToRange tree node = CanRange node
Certain by.InnerToHashJoin tree node = CanHash node
Certain by.InnerToIndexLoop tree node = CanLoop node
Certain by.DropDistinct tree node = CanDropDistinct node
Certain by.ExistsToHalf tree node = CanHalve node
Certain by.InToMember tree node = CanBeMember node
Certain by.SortToRange tree node = CanGoInOrder node
Certain by.PreFilter tree node = CanTryFirst node

-- ---- what stands there afterwards

-- a filter
abbrev pub IsFilter : Tree → Type 0
IsFilter there = (condition : Condition) × (rows : Tree) × (there ≡ t.Filter condition rows)

-- Of the node that was there and the one that is: the word of the new node, over the parts that say
-- what was done.
abbrev pub Shape : Rule → Tree → Tree → Type 0
Shape by.SplitFilter node there =
    (above : Condition) × (below : Condition) × (rows : Tree) × (there ≡ t.Filter above (t.Filter below rows))
Shape by.FilterBelowProduct node there =
    (left : Tree) × (right : Tree) × (there ≡ t.Product left right) × (IsFilter left ⊎ IsFilter right)
Shape by.FilterLeftOfLeftJoin node there =
    (on : Condition) × (left : Tree) × (right : Tree) × (width : ℕ) × (there ≡ t.Left on left right width)
    × IsFilter left
Shape by.OnIntoRightSide node there =
    (on : Condition) × (left : Tree) × (right : Tree) × (width : ℕ) × (there ≡ t.Left on left right width)
    × IsFilter right
Shape by.ProductToInner node there = (on : Condition) × (left : Tree) × (right : Tree) × (there ≡ t.Inner on left right)
Shape by.RegroupInner node there = ⊥
Shape by.LeftToInner node there = (condition : Condition) × (on : Condition) × (left : Tree) × (right : Tree)
    × (there ≡ t.Filter condition (t.Inner on left right))
Shape by.FilterToSeek node there = (condition : Condition) × (table : StoredTable) × (columns : List ℕ)
    × (key : List Value) × (there ≡ t.Filter condition (t.Seek table columns key)) × (is_plain condition ≡ true)
Shape by.FilterToRange node there = (condition : Condition) × (table : StoredTable) × (columns : List ℕ)
    × (low : Option Bound) × (high : Option Bound) × (there ≡ t.Filter condition (t.Range table columns low high))
    × (is_plain condition ≡ true)
Shape by.InnerToHashJoin node there = (on : Condition) × (left : Tree) × (right : Tree) × (places : List ℕ)
    × (columns : List ℕ) × (there ≡ t.HashJoin on left right places columns) × (node ≡ t.Inner on left right)
Shape by.InnerToIndexLoop node there = (on : Condition) × (left : Tree) × (places : List ℕ) × (table : StoredTable)
    × (columns : List ℕ) × (there ≡ t.IndexLoop on left places table columns) × (node ≡ t.Inner on left (t.Scan table))
Shape by.DropDistinct node there = (items : List Expression) × (rows : Tree) × (there ≡ t.Project items rows)
Shape by.ExistsToHalf node there = (on : Condition) × (left : Tree) × (right : Tree)
    × ((there ≡ t.Half on left right) ⊎ (there ≡ t.OppositeHalf on left right))
Shape by.InToMember node there = (operand : Expression) × (is_negated : Bool) × (members : Tree) × (rows : Tree)
    × (there ≡ t.Member operand is_negated members rows)
Shape by.SortToRange node there = (places : List ℕ) × (table : StoredTable) × (columns : List ℕ)
    × (there ≡ t.Project (map own places) (t.Range table columns None None))
Shape by.PreFilter node there = (condition : Condition) × (before : Condition) × (rows : Tree)
    × (there ≡ t.Filter condition (t.Filter before rows)) × (node ≡ t.Filter condition rows)

-- a tree comes back, with the node that is told at the end of the path
pub record Certainly (rule : Rule) (path : List ℕ) (tree node : Tree) : Type 0 where
  pub new : Tree
  pub made : applied rule path tree ≡ Some new
  pub there : Tree
  pub at : node_at path new ≡ Some there
  pub shape : Shape rule node there
