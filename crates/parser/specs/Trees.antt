-- Whether tokens have a tree, where a chain has no more operands than the limit, if there is one.
use Rattle.std.specs.Prelude.{ℕ, Option}
use Rattle.ast.specs.declared.statement.Statement.{Statement}
use Rattle.ast.specs.declared.tree.Condition.{Condition}
use Rattle.ast.specs.Notation.{Tokens}
use Rattle.ast.specs.Grammar.{IsText, IsConditionText}

abbrev pub HasStatement : Option ℕ → Tokens → Type 0
HasStatement limit ts = (x : Statement) × IsText limit ts x

abbrev pub HasCondition : Option ℕ → Tokens → Type 0
HasCondition limit ts = (x : Condition) × IsConditionText limit ts x
