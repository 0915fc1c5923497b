-- How many rows a plan takes from the store: the tables that are taken whole, each once, and what
-- is looked up by indexes on the way to the root.
use Rattle.std.specs.Prelude.{ℕ, ◌+◌, List, [], ◌∷◌, ◌++◌, flat_map, length, Option, Some, None}
use Rattle.sqlval.specs.Matching.{rows_matching}
use Rattle.algebra.specs.declared.tree.Expression.{Expression-F}
use Rattle.algebra.specs.declared.tree.Condition.{Condition-F}
use Rattle.algebra.specs.declared.tree.SetFunction.{SetFunction-F}
use Rattle.algebra.specs.declared.tree.Tree.{Tree, Tree-F, fold-Tree}
use Rattle.algebra.specs.Bounds.{rows_within}
use Rattle.denote.specs.Meaning.{Tables}

abbrev pub Names : Type 0
Names = List (List ℕ)

abbrev pub plus : Option ℕ → Option ℕ → Option ℕ
plus (Some m) (Some n) = Some (m + n)
plus _ _ = None

-- `all`: each table named. `whole`: those that are taken whole. `found`: how many rows are looked
-- up; none where that depends on other rows.
pub record Reads : Type 0 where
  pub all : Names
  pub whole : Names
  pub found : Option ℕ

abbrev pub ReadsLayer : ((A B C D : Type 0) → Type 0) → Type 0
ReadsLayer T = T Names Names Names Reads

abbrev pub every_name : List Names → Names
every_name = flat_map (λ names. names)

-- subqueries are carried out over whole tables
abbrev pub reads_expression : ReadsLayer Expression-F → Names
reads_expression (Expression-F.Constant x) = []
reads_expression (Expression-F.Column depth place) = []
reads_expression (Expression-F.Calculation first others) = first ++ flat_map (λ other. other.1) others
reads_expression (Expression-F.Concatenation first others) = first ++ every_name others
reads_expression (Expression-F.Negation operand) = operand
reads_expression (Expression-F.Scalar tree) = tree.all

abbrev pub reads_condition : ReadsLayer Condition-F → Names
reads_condition (Condition-F.Or operands) = every_name operands
reads_condition (Condition-F.And operands) = every_name operands
reads_condition (Condition-F.Not operand) = operand
reads_condition (Condition-F.IsTruth operand truth) = operand
reads_condition (Condition-F.Compare op a b) = a ++ b
reads_condition (Condition-F.Between operand low high) = operand ++ (low ++ high)
reads_condition (Condition-F.InList operand values) = operand
reads_condition (Condition-F.InQuery operand tree) = operand ++ tree.all
reads_condition (Condition-F.Like operand pattern) = operand ++ pattern
reads_condition (Condition-F.IsNull operand) = operand
reads_condition (Condition-F.Exists tree) = tree.all

abbrev pub reads_function : ReadsLayer SetFunction-F → Names
reads_function SetFunction-F.CountRows = []
reads_function (SetFunction-F.Over function is_distinct argument) = argument

-- a part that is evaluated at rows of a tree
abbrev pub reads_over : Names → Reads → Reads
reads_over names r = record { all = names ++ r.all; whole = names ++ r.whole; found = r.found }

abbrev pub reads_both : Reads → Reads → Reads
reads_both l r = record { all = l.all ++ r.all; whole = l.whole ++ r.whole; found = plus l.found r.found }

abbrev pub looked_up : List ℕ → ℕ → Reads
looked_up name n = record { all = name ∷ []; whole = []; found = Some n }

module _ (tables : Tables) where
  abbrev pub reads_step : ReadsLayer Tree-F → Reads
  reads_step (Tree-F.Scan table) = record { all = table.name ∷ []; whole = table.name ∷ []; found = Some 0 }
  reads_step (Tree-F.Filter condition tree) = reads_over condition tree
  reads_step (Tree-F.Product left right) = reads_both left right
  reads_step (Tree-F.Inner on left right) = reads_over on (reads_both left right)
  reads_step (Tree-F.Left on left right width) = reads_over on (reads_both left right)
  reads_step (Tree-F.Half on left right) = reads_over on (reads_both left right)
  reads_step (Tree-F.OppositeHalf on left right) = reads_over on (reads_both left right)
  reads_step (Tree-F.Group columns functions rows) = reads_over (every_name functions) rows
  reads_step (Tree-F.Project items tree) = reads_over (every_name items) tree
  reads_step (Tree-F.Distinct tree) = tree
  reads_step (Tree-F.Set op left right) = reads_both left right
  reads_step (Tree-F.Sort keys tree) = tree
  reads_step (Tree-F.Seek table columns key) =
      looked_up table.name (length (rows_matching columns key (tables table.name)))
  reads_step (Tree-F.Range table columns low high) =
      looked_up table.name (length (rows_within columns low high (tables table.name)))
  reads_step (Tree-F.IndexLoop on left places table columns) =
      reads_over on (record { all = left.all ++ table.name ∷ []; whole = left.whole; found = None })
  reads_step (Tree-F.HashJoin on left right left_places right_places) = reads_over on (reads_both left right)
  reads_step (Tree-F.Member operand is_negated members rows) = reads_over operand (reads_both rows members)

  unfoldable pub reads_of : Tree → Reads
  reads_of = fold-Tree _ _ _ _ reads_condition reads_expression reads_function reads_step
