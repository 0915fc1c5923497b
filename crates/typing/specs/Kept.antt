-- What is kept of the CHECKs of a text.
use Rattle.std.specs.Prelude.{◌≡◌, ℕ, List, [], ◌∷◌, ◌++◌, map, flat_map, Option, Ok}
use Rattle.std.specs.List.{All}
use Rattle.sqlval.specs.declared.schema.Constraint.{Constraint}
use Rattle.sqlval.specs.declared.schema.Rule.{Rule}
use Rattle.sqlval.specs.declared.schema.Rule.TheVariants as rule
use Rattle.lexer.specs.Printing.{HasKinds}
use Rattle.ast.specs.declared.statement.ColumnRule.{ColumnRule}
use Rattle.ast.specs.declared.statement.ColumnRule.TheVariants as column_rule
use Rattle.ast.specs.declared.statement.CreateTable.{CreateTable as Tree}
use Rattle.ast.specs.declared.statement.TableElement.{TableElement}
use Rattle.ast.specs.declared.statement.TableElement.TheVariants as element
use Rattle.ast.specs.declared.statement.TableRule.{TableRule}
use Rattle.ast.specs.declared.statement.TableRule.TheVariants as table_rule
use Rattle.ast.specs.declared.tree.Condition.{Condition}
use Rattle.ast.specs.Grammar.{nested_at}
use Rattle.ast.specs.Notation.{Tokens}
use Rattle.typing.specs.declared.statement.CreateTable.{CreateTable}
use Rattle.typing.specs.declared.typed.Condition.{Condition as Typed}
use Rattle.typing.specs.Check.{ReadsCheck, check_found}
use Rattle.typing.specs.Printed.{printed}
use Rattle.typing.specs.Table.{frame_of}

-- The text has some tokens, and then tokens that begin with a condition that has the tree `x`, as
-- in a CHECK.
pub record IsConditionIn (limit : Option ℕ) (x : Condition) (text : List ℕ) : Type 0 where
  pub before : Tokens
  pub from : Tokens
  pub rest : Tokens
  pub depth : ℕ
  pub spelled : HasKinds text (before ++ from)
  pub condition : (nested_at limit depth).condition from x rest

-- ---- CREATE TABLE

abbrev pub column_checks : ColumnRule → List Condition
column_checks (column_rule.Check x) = x ∷ []
column_checks _ = []

abbrev pub table_checks : TableRule → List Condition
table_checks (table_rule.Check x) = x ∷ []
table_checks _ = []

abbrev pub element_checks : TableElement → List Condition
element_checks (element.Column x) = flat_map (λ c. column_checks c.rule) x.constraints
element_checks (element.Constraint x) = table_checks x.rule

-- the conditions of its CHECKs, in the order of the text
abbrev pub checks_of : List TableElement → List Condition
checks_of elements = flat_map element_checks elements

abbrev pub text_in : Rule → List (List ℕ)
text_in (rule.Check text) = text ∷ []
text_in _ = []

-- the texts of CHECKs that these constraints keep
abbrev pub kept_texts : List Constraint → List (List ℕ)
kept_texts constraints = flat_map (λ c. text_in c.rule) constraints

-- A CHECK is found to be a condition of the table's rows, and its text stands for that.
pub record IsKept (table : CreateTable) (x : Condition) : Type 0 where
  pub condition : Typed
  pub found : check_found (frame_of table.name table.columns) x ≡ Ok condition
  pub reads : ReadsCheck table.name table.columns (printed x) condition

-- The table keeps the texts of the CHECKs that are written, in their order, and each stands for
-- what its CHECK is found to be.
pub record AreChecksKept (tree : Tree) (table : CreateTable) : Type 0 where
  pub texts : kept_texts table.constraints ≡ map printed (checks_of tree.elements)
  pub each : All (IsKept table) (checks_of tree.elements)
