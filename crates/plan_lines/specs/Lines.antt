-- The lines of an EXPLAIN: one for each step by which a tree was rewritten, and one for each
-- operator of the plan. All of this is our own choice.
use Rattle.std.specs.Prelude.{ℕ, List, [], ◌∷◌, ◌++◌, map, flat_map, take, codes, decimal}
use Rattle.algebra.specs.declared.tree.StoredTable.{StoredTable}
use Rattle.algebra.specs.declared.tree.Condition.{Condition-F}
use Rattle.algebra.specs.declared.tree.Expression.{Expression-F}
use Rattle.algebra.specs.declared.tree.SetFunction.{SetFunction-F}
use Rattle.algebra.specs.declared.tree.Tree.{Tree, Tree-F, fold-Tree}
use Rattle.rules.specs.declared.rule.Rule.{Rule}
use Rattle.rules.specs.declared.rule.Rule.TheVariants as by
use Rattle.rules.specs.declared.rule.Step.{Step}

-- a line is a list of characters
abbrev pub Lines : Type 0
Lines = List (List ℕ)

-- what is shown of a line: its first 1,000 characters
abbrev pub shown : List ℕ → List ℕ
shown line = take 1000 line

-- ---- steps

abbrev pub rule_word : Rule → List ℕ
rule_word by.SplitFilter = codes "Q1"
rule_word by.FilterBelowProduct = codes "Q2"
rule_word by.FilterLeftOfLeftJoin = codes "Q3"
rule_word by.OnIntoRightSide = codes "Q4"
rule_word by.ProductToInner = codes "Q5"
rule_word by.RegroupInner = codes "Q6"
rule_word by.LeftToInner = codes "Q7"
rule_word by.FilterToSeek = codes "Q8"
rule_word by.FilterToRange = codes "Q9"
rule_word by.InnerToHashJoin = codes "Q10"
rule_word by.InnerToIndexLoop = codes "Q11"
rule_word by.DropDistinct = codes "Q12"
rule_word by.ExistsToHalf = codes "Q13"
rule_word by.InToMember = codes "Q14"
rule_word by.SortToRange = codes "Q15"
rule_word by.PreFilter = codes "Q16"

-- behind a point
abbrev pub next_place : ℕ → List ℕ
next_place place = codes "." ++ decimal place

-- the places of a path from the root, with points between them; for the root itself a point
abbrev pub path_word : List ℕ → List ℕ
path_word [] = codes "."
path_word (place ∷ places) = decimal place ++ flat_map next_place places

-- the rule, and where it was used
abbrev pub step_line : Step → List ℕ
step_line step = rule_word step.rule ++ (codes " " ++ path_word step.path.places)

abbrev pub step_lines : List Step → Lines
step_lines steps = map step_line steps

-- ---- the plan

-- a node with lines in the place of each part
abbrev pub Printed : ((A B C D : Type 0) → Type 0) → Type 0
Printed T = T Lines Lines Lines Lines

-- a word and the name of a table
abbrev pub with_table : List ℕ → StoredTable → List ℕ
with_table word table = word ++ (codes " " ++ table.name)

-- the line of a node itself, whatever its parts are
abbrev pub node_line : {A B C D : Type 0} → Tree-F A B C D → List ℕ
node_line (Tree-F.Scan table) = with_table (codes "Scan") table
node_line (Tree-F.Filter condition rows) = codes "Filter"
node_line (Tree-F.Product left right) = codes "Product"
node_line (Tree-F.Inner on left right) = codes "Inner"
node_line (Tree-F.Left on left right width) = codes "Left"
node_line (Tree-F.Half on left right) = codes "Half"
node_line (Tree-F.OppositeHalf on left right) = codes "HalfNot"
node_line (Tree-F.Group columns functions rows) = codes "Group"
node_line (Tree-F.Project items rows) = codes "Project"
node_line (Tree-F.Distinct rows) = codes "Distinct"
node_line (Tree-F.Set op left right) = codes "Set"
node_line (Tree-F.Sort keys rows) = codes "Sort"
node_line (Tree-F.Seek table columns key) = with_table (codes "Seek") table
node_line (Tree-F.Range table columns low high) = with_table (codes "Range") table
node_line (Tree-F.IndexLoop on left places table columns) = with_table (codes "IndexLoop") table
node_line (Tree-F.HashJoin on left right left_places right_places) = codes "HashJoin"
node_line (Tree-F.Member operand is_negated members rows) = codes "Member"

-- the lines of its children, in the order of paths: what stands in its conditions and items has
-- none
abbrev pub lines_below : Printed Tree-F → Lines
lines_below (Tree-F.Scan table) = []
lines_below (Tree-F.Filter condition rows) = rows
lines_below (Tree-F.Product left right) = left ++ right
lines_below (Tree-F.Inner on left right) = left ++ right
lines_below (Tree-F.Left on left right width) = left ++ right
lines_below (Tree-F.Half on left right) = left ++ right
lines_below (Tree-F.OppositeHalf on left right) = left ++ right
lines_below (Tree-F.Group columns functions rows) = rows
lines_below (Tree-F.Project items rows) = rows
lines_below (Tree-F.Distinct rows) = rows
lines_below (Tree-F.Set op left right) = left ++ right
lines_below (Tree-F.Sort keys rows) = rows
lines_below (Tree-F.Seek table columns key) = []
lines_below (Tree-F.Range table columns low high) = []
lines_below (Tree-F.IndexLoop on left places table columns) = left
lines_below (Tree-F.HashJoin on left right left_places right_places) = left ++ right
lines_below (Tree-F.Member operand is_negated members rows) = rows ++ members

-- two spaces further to the right
abbrev pub indented : Lines → Lines
indented lines = map (λ line. codes "  " ++ line) lines

-- a node, and then its children, indented
abbrev pub lines_of_node : Printed Tree-F → Lines
lines_of_node node = node_line node ∷ indented (lines_below node)

abbrev pub of_condition : Printed Condition-F → Lines
of_condition node = []

abbrev pub of_expression : Printed Expression-F → Lines
of_expression node = []

abbrev pub of_function : Printed SetFunction-F → Lines
of_function node = []

unfoldable pub plan_lines : Tree → Lines
plan_lines = fold-Tree _ _ _ _ of_condition of_expression of_function lines_of_node

-- ---- both

-- the steps in their order, and then the plan
abbrev pub explained : List Step → Tree → Lines
explained steps plan = map shown (step_lines steps ++ plan_lines plan)
