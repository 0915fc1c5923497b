-- When a tree may stand in the place of another.
use Rattle.std.specs.Prelude.{◌≡◌, ℕ, List, [], ◌∷◌, ◌++◌, map, length, Some, false, Contains}
use Rattle.sqlval.specs.Matching.{key_of}
use Rattle.sqlval.specs.Value.{Row}
use Rattle.algebra.specs.declared.tree.Condition.{Condition}
use Rattle.algebra.specs.declared.tree.Expression.{Expression}
use Rattle.algebra.specs.declared.tree.SetFunction.{SetFunction}
use Rattle.algebra.specs.declared.tree.StoredTable.{StoredTable}
use Rattle.algebra.specs.declared.tree.Tree.{Tree}
use Rattle.std.specs.FinMap.{get}
use Rattle.algebra.specs.Described.{primary_key}
use Rattle.algebra.specs.Meaning.{function_of, function_by}
use Rattle.algebra.specs.OrderKeys.{column_of, order_keys}
use Rattle.algebra.specs.TreeOutcome.{outcome_step, tree_outcome, tree_truth, tree_value}
use Rattle.denote.specs.Bag.{are_alike}
use Rattle.denote.specs.Database.{Database, IndexDeclaration, Table}
use Rattle.denote.specs.Meaning.{Tables}
use Rattle.operator_laws.specs.Same.{Every, Agree, AgreeOnRows, AgreeOnGroups}
use Rattle.rules.specs.Stored.{StoredTables, stored_in_condition, stored_in_expression, stored_in_function, stored_in_tree}

-- ---- tables that are as a tree knows them

-- no two rows are alike
abbrev pub Apart : List Row → Type 0
Apart [] = Unit {0}
Apart (row ∷ rows) = Every (λ other. are_alike row other ≡ false) rows × Apart rows

-- a table's rows are as wide as is known, and no two have the same key
pub record HasTable (tables : Tables) (table : StoredTable) : Type 0 where
  pub width : Every (λ row. length row ≡ table.width) (tables table.name)
  pub key : (columns : List ℕ) → table.key ≡ Some columns → Apart (map (key_of columns) (tables table.name))

abbrev pub HasAll : Tables → StoredTables → Type 0
HasAll tables stored = (table : StoredTable) → Contains stored table → HasTable tables table

-- the tables have what a tree's nodes know of them
abbrev pub Fits : Tables → Tree → Type 0
Fits tables tree = HasAll tables (stored_in_tree tree)

-- a database has a table as a tree knows it
pub record Has (db : Database) (known : StoredTable) : Type 0 where
  pub table : Table
  pub found : get db known.name ≡ Some table
  pub width : length table.columns ≡ known.width
  pub key : primary_key table.constraints ≡ known.key
  pub indexes : map (λ (index : IndexDeclaration). index.columns) table.indexes ≡ known.indexes

-- ---- sameness

-- ys begin with xs
pub record Begins {X : Type 0} (xs ys : List X) : Type 0 where
  pub more : List X
  pub is : ys ≡ xs ++ more

-- the same rows and faults in whatever rows outside, and order keys that those of the old one begin
pub record IsSameTree (tables : Tables) (new old : Tree) : Type 0 where
  pub outcome : AgreeOnRows (tree_outcome tables new) (tree_outcome tables old)
  pub keys : Begins (order_keys old) (order_keys new)

-- each of these is one of those
abbrev pub AreAmong : {X : Type 0} → List X → List X → Type 0
AreAmong {X} xs ys = (x : X) → Contains xs x → Contains ys x

-- a tree that may stand for another, over whatever tables fit it; these fit the new tree too
pub record Keeps (new old : Tree) : Type 0 where
  pub same : (tables : Tables) → Fits tables old → AgreeOnRows (tree_outcome tables new) (tree_outcome tables old)
  pub keys : Begins (order_keys old) (order_keys new)
  pub stored : AreAmong (stored_in_tree new) (stored_in_tree old)

pub record KeepsCondition (new old : Condition) : Type 0 where
  pub same : (tables : Tables) → HasAll tables (stored_in_condition old)
      → Agree (tree_truth tables new) (tree_truth tables old)
  pub stored : AreAmong (stored_in_condition new) (stored_in_condition old)

pub record KeepsExpression (new old : Expression) : Type 0 where
  pub same : (tables : Tables) → HasAll tables (stored_in_expression old)
      → Agree (tree_value tables new) (tree_value tables old)
  pub column : column_of new ≡ column_of old
  pub stored : AreAmong (stored_in_expression new) (stored_in_expression old)

pub record KeepsFunction (new old : SetFunction) : Type 0 where
  pub same : (tables : Tables) → HasAll tables (stored_in_function old)
      → AgreeOnGroups (function_of (function_by (outcome_step tables) new))
      (function_of (function_by (outcome_step tables) old))
  pub stored : AreAmong (stored_in_function new) (stored_in_function old)
