-- The set functions of a SELECT's text (ISO/IEC 9075:1992, 6.5 and 7.9).
use Rattle.std.specs.Prelude.{◌≡◌, Bool, true, false, not, List, [], ◌∷◌, ◌++◌}
use Rattle.ast.specs.declared.tree.Primary.{Primary, Primary-F, out-Primary}
use Rattle.ast.specs.declared.tree.Query.{Query}
use Rattle.ast.specs.declared.tree.Select.{Select, out-Select}
use Rattle.ast.specs.Layers.{PrimaryLayer}
use Rattle.ast.specs.Parts.{Node, parts, selected_parts, written}
use Rattle.ast.specs.Parts as node

abbrev pub is_set_function : PrimaryLayer → Bool
is_set_function Primary-F.CountRows = true
is_set_function (Primary-F.Aggregate function quantifier argument) = true
is_set_function _ = false

-- whether set functions are looked for in the parts of a node: in those of items, conditions and
-- expressions, and not in the argument of a set function
abbrev pub is_looked_into : Node → Bool
is_looked_into (node.select_item x) = true
is_looked_into (node.condition x) = true
is_looked_into (node.conjunction x) = true
is_looked_into (node.negation x) = true
is_looked_into (node.test x) = true
is_looked_into (node.predicate x) = true
is_looked_into (node.expression x) = true
is_looked_into (node.term x) = true
is_looked_into (node.factor x) = true
is_looked_into (node.primary x) = not (is_set_function (out-Primary x))
is_looked_into _ = false

-- These set functions stand in these nodes, in the order of the text. Those of queries inside are
-- left out.
pub data Lists : List Node → List Primary → Type 0 where
  none : Lists [] []
  one : (x : Primary) (nodes : List Node) (found : List Primary) → is_set_function (out-Primary x) ≡ true
      → Lists nodes found → Lists (node.primary x ∷ nodes) (x ∷ found)
  passed : (x : Query) (nodes : List Node) (found : List Primary) → Lists nodes found
      → Lists (node.query x ∷ nodes) found
  parted : (x : Node) (nodes : List Node) (found : List Primary) → is_looked_into x ≡ true
      → Lists (parts x ++ nodes) found → Lists (x ∷ nodes) found

-- what sees the groups of a SELECT: its select list, and then HAVING
abbrev pub shown_nodes : Select → List Node
shown_nodes tree = selected_parts (out-Select tree).items ++ written node.condition (out-Select tree).having
