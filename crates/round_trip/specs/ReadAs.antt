-- What a printed text is read as.
use Rattle.std.specs.Prelude.{Some}
use Rattle.lexer.specs.Printing.{HasKinds}
use Rattle.lexer.specs.Token.{Bytes}
use Rattle.ast.specs.declared.statement.Statement.{Statement}
use Rattle.ast.specs.declared.tree.Condition.{Condition}
use Rattle.ast.specs.Grammar.{IsText, IsConditionText}
use Rattle.ast.specs.Nesting.{IsNestedWithin}
use Rattle.ast.specs.Notation.{Tokens}

-- The text has tokens which are this statement, within the limits.
pub record IsReadAs (text : Bytes) (x : Statement) : Type 0 where
  pub kinds : Tokens
  pub has : HasKinds text kinds
  pub tree : IsText (Some 64) kinds x
  pub nested : IsNestedWithin 64 kinds

-- The text has tokens which are this condition, within the limits.
pub record IsReadAsCondition (text : Bytes) (x : Condition) : Type 0 where
  pub kinds : Tokens
  pub has : HasKinds text kinds
  pub tree : IsConditionText (Some 64) kinds x
  pub nested : IsNestedWithin 64 kinds
