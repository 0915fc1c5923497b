-- One level of a tree, as its `out-` function opens it: what each part that is a tree of this cycle
-- stands for.
use Rattle.ast.specs.declared.tree.Join.{Join, Join-F}
use Rattle.ast.specs.declared.tree.Operand.{Operand, Operand-F}
use Rattle.ast.specs.declared.tree.Predicate.{Predicate, Predicate-F}
use Rattle.ast.specs.declared.tree.Primary.{Primary, Primary-F}
use Rattle.ast.specs.declared.tree.TableSource.{TableSource, TableSource-F}
use Rattle.ast.specs.declared.tree.Addend.{Addend}
use Rattle.ast.specs.declared.tree.Condition.{Condition}
use Rattle.ast.specs.declared.tree.Conjunction.{Conjunction}
use Rattle.ast.specs.declared.tree.Expression.{Expression}
use Rattle.ast.specs.declared.tree.Factor.{Factor}
use Rattle.ast.specs.declared.tree.Negation.{Negation}
use Rattle.ast.specs.declared.tree.Query.{Query}
use Rattle.ast.specs.declared.tree.Select.{Select}
use Rattle.ast.specs.declared.tree.SelectItem.{SelectItem}
use Rattle.ast.specs.declared.tree.TableReference.{TableReference}
use Rattle.ast.specs.declared.tree.Term.{Term}
use Rattle.ast.specs.declared.tree.Test.{Test}

abbrev pub JoinLayer : Type 0
JoinLayer = Join-F Join Operand Predicate Primary TableSource Addend Condition Conjunction Expression Factor Negation Query Select SelectItem TableReference Term Test

abbrev pub OperandLayer : Type 0
OperandLayer = Operand-F Join Operand Predicate Primary TableSource Addend Condition Conjunction Expression Factor Negation Query Select SelectItem TableReference Term Test

abbrev pub PredicateLayer : Type 0
PredicateLayer = Predicate-F Join Operand Predicate Primary TableSource Addend Condition Conjunction Expression Factor Negation Query Select SelectItem TableReference Term Test

abbrev pub PrimaryLayer : Type 0
PrimaryLayer = Primary-F Join Operand Predicate Primary TableSource Addend Condition Conjunction Expression Factor Negation Query Select SelectItem TableReference Term Test

abbrev pub TableSourceLayer : Type 0
TableSourceLayer = TableSource-F Join Operand Predicate Primary TableSource Addend Condition Conjunction Expression Factor Negation Query Select SelectItem TableReference Term Test
