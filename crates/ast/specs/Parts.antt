-- The parts of a statement, and what stands inside it at any depth.
use Rattle.std.specs.Prelude.{List, [], ◌∷◌, ◌++◌, map, flat_map, Option, Some, None}
use Rattle.std.specs.List.{Contains}
use Rattle.ast.specs.declared.statement.ColumnRule.{ColumnRule}
use Rattle.ast.specs.declared.statement.ColumnRule.TheVariants as column_rule
use Rattle.ast.specs.declared.statement.InsertRows.{InsertRows}
use Rattle.ast.specs.declared.statement.InsertRows.TheVariants as rows
use Rattle.ast.specs.declared.statement.Statement.{Statement}
use Rattle.ast.specs.declared.statement.Statement.TheVariants as of_statement
use Rattle.ast.specs.declared.statement.StoredSource.{StoredSource}
use Rattle.ast.specs.declared.statement.StoredSource.TheVariants as stored
use Rattle.ast.specs.declared.statement.TableElement.{TableElement}
use Rattle.ast.specs.declared.statement.TableElement.TheVariants as element
use Rattle.ast.specs.declared.statement.TableRule.{TableRule}
use Rattle.ast.specs.declared.statement.TableRule.TheVariants as table_rule
use Rattle.ast.specs.declared.tree.Addend.{Addend, out-Addend}
use Rattle.ast.specs.declared.tree.Condition.{Condition, out-Condition}
use Rattle.ast.specs.declared.tree.Conjunction.{Conjunction, out-Conjunction}
use Rattle.ast.specs.declared.tree.Expression.{Expression, out-Expression}
use Rattle.ast.specs.declared.tree.Factor.{Factor, out-Factor}
use Rattle.ast.specs.declared.tree.Join.{Join, Join-F, out-Join}
use Rattle.ast.specs.declared.tree.Negation.{Negation, out-Negation}
use Rattle.ast.specs.declared.tree.Operand.{Operand, Operand-F, out-Operand}
use Rattle.ast.specs.declared.tree.Predicate.{Predicate, Predicate-F, out-Predicate}
use Rattle.ast.specs.declared.tree.Primary.{Primary, Primary-F, out-Primary}
use Rattle.ast.specs.declared.tree.Query.{Query, out-Query}
use Rattle.ast.specs.declared.tree.Select.{Select, out-Select}
use Rattle.ast.specs.declared.tree.SelectItem.{SelectItem, out-SelectItem}
use Rattle.ast.specs.declared.tree.TableReference.{TableReference, out-TableReference}
use Rattle.ast.specs.declared.tree.TableSource.{TableSource, TableSource-F, out-TableSource}
use Rattle.ast.specs.declared.tree.Term.{Term, out-Term}
use Rattle.ast.specs.declared.tree.Test.{Test, out-Test}
use Rattle.ast.specs.Layers.{JoinLayer, OperandLayer, PredicateLayer, PrimaryLayer, TableSourceLayer}

-- a statement, or a tree that may stand in one
pub data Node : Type 0 where
  statement : Statement → Node
  query : Query → Node
  addend : Addend → Node
  operand : Operand → Node
  select : Select → Node
  select_item : SelectItem → Node
  table_reference : TableReference → Node
  join : Join → Node
  table_source : TableSource → Node
  condition : Condition → Node
  conjunction : Conjunction → Node
  negation : Negation → Node
  test : Test → Node
  predicate : Predicate → Node
  expression : Expression → Node
  term : Term → Node
  factor : Factor → Node
  primary : Primary → Node

-- the node of what may be left out, where it is written
abbrev pub written : {A : Type 0} → (A → Node) → Option A → List Node
written node None = []
written node (Some x) = node x ∷ []

-- ---- the parts of a node: the nodes in its fields and in the lists there

abbrev pub primary_parts : PrimaryLayer → List Node
primary_parts (Primary-F.Aggregate function quantifier x) = expression x ∷ []
primary_parts (Primary-F.Parenthesized x) = expression x ∷ []
primary_parts (Primary-F.Subquery x) = query x ∷ []
primary_parts _ = []

abbrev pub predicate_parts : PredicateLayer → List Node
predicate_parts (Predicate-F.Nested x) = condition x ∷ []
predicate_parts (Predicate-F.Compare x op y) = expression x ∷ expression y ∷ []
predicate_parts (Predicate-F.Between x not low high) = expression x ∷ expression low ∷ expression high ∷ []
predicate_parts (Predicate-F.InList x not list) = expression x ∷ []
predicate_parts (Predicate-F.InQuery x not y) = expression x ∷ query y ∷ []
predicate_parts (Predicate-F.Like x not pattern) = expression x ∷ expression pattern ∷ []
predicate_parts (Predicate-F.IsNull x not) = expression x ∷ []
predicate_parts (Predicate-F.Exists x) = query x ∷ []

abbrev pub table_source_parts : TableSourceLayer → List Node
table_source_parts (TableSource-F.Table name alias) = []
table_source_parts (TableSource-F.Derived x alias) = query x ∷ []

abbrev pub join_parts : JoinLayer → List Node
join_parts (Join-F.Cross x) = table_source x ∷ []
join_parts (Join-F.Inner inner_written x on) = table_source x ∷ condition on ∷ []
join_parts (Join-F.Left outer_written x on) = table_source x ∷ condition on ∷ []

abbrev pub operand_parts : OperandLayer → List Node
operand_parts (Operand-F.Select x) = select x ∷ []
operand_parts (Operand-F.Grouped x) = query x ∷ []

abbrev pub selected_parts : Option (List SelectItem) → List Node
selected_parts None = []
selected_parts (Some xs) = map select_item xs

abbrev pub column_rule_parts : ColumnRule → List Node
column_rule_parts (column_rule.Check x) = condition x ∷ []
column_rule_parts _ = []

abbrev pub table_rule_parts : TableRule → List Node
table_rule_parts (table_rule.Check x) = condition x ∷ []
table_rule_parts _ = []

abbrev pub element_parts : TableElement → List Node
element_parts (element.Column x) = flat_map (λ constraint. column_rule_parts constraint.rule) x.constraints
element_parts (element.Constraint x) = table_rule_parts x.rule

abbrev pub source_parts : StoredSource → List Node
source_parts (stored.Value x) = expression x ∷ []
source_parts stored.Null = []

abbrev pub rows_parts : InsertRows → List Node
rows_parts (rows.Values xs) = flat_map (λ row. flat_map source_parts row) xs
rows_parts (rows.Query x) = query x ∷ []

abbrev pub statement_parts : Statement → List Node
statement_parts (of_statement.Query x) = query x.query ∷ []
statement_parts (of_statement.Explain x) = query x.query ∷ []
statement_parts (of_statement.CreateTable x) = flat_map element_parts x.elements
statement_parts (of_statement.Insert x) = rows_parts x.rows
statement_parts (of_statement.Update x) = flat_map (λ assignment. source_parts assignment.source) x.assignments ++ written condition x.filter
statement_parts (of_statement.Delete x) = written condition x.filter
statement_parts (of_statement.DeclareCursor x) = query x.query.query ∷ []
statement_parts _ = []

abbrev pub parts : Node → List Node
parts (statement x) = statement_parts x
parts (query x) = addend (out-Query x).first ∷ map (λ other. addend other.1) (out-Query x).others
parts (addend x) = operand (out-Addend x).first ∷ map (λ other. operand other.1) (out-Addend x).others
parts (operand x) = operand_parts (out-Operand x)
parts (select x) =
    selected_parts (out-Select x).items ++ (map table_reference (out-Select x).from ++ (written condition (out-Select x).filter ++ written condition (out-Select x).having))
parts (select_item x) = expression (out-SelectItem x).value ∷ []
parts (table_reference x) = table_source (out-TableReference x).first ∷ map join (out-TableReference x).joins
parts (join x) = join_parts (out-Join x)
parts (table_source x) = table_source_parts (out-TableSource x)
parts (condition x) = conjunction (out-Condition x).first ∷ map conjunction (out-Condition x).others
parts (conjunction x) = negation (out-Conjunction x).first ∷ map negation (out-Conjunction x).others
parts (negation x) = test (out-Negation x).test ∷ []
parts (test x) = predicate (out-Test x).predicate ∷ []
parts (predicate x) = predicate_parts (out-Predicate x)
parts (expression x) = term (out-Expression x).first ∷ map (λ other. term other.1) (out-Expression x).others
parts (term x) = factor (out-Term x).first ∷ map (λ other. factor other.1) (out-Term x).others
parts (factor x) = primary (out-Factor x).primary ∷ []
parts (primary x) = primary_parts (out-Primary x)

-- y stands inside x: it is x, or stands inside a part of x.
pub data Inside (y : Node) : Node → Type 0 where
  itself : Inside y y
  deeper : {x part : Node} → Contains (parts x) part → Inside y part → Inside y x

-- The condition stands in the statement: after WHERE, HAVING or ON, in a CHECK or in parentheses,
-- in subqueries too.
abbrev pub StandsIn : Condition → Statement → Type 0
StandsIn x y = Inside (condition x) (statement y)
