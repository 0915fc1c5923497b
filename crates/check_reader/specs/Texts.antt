-- The tree of a text.
use Rattle.std.specs.Prelude.{ℕ, List, Some}
use Rattle.lexer.specs.Printing.{HasKinds}
use Rattle.ast.specs.declared.tree.Condition.{Condition}
use Rattle.ast.specs.Grammar.{IsConditionText}
use Rattle.ast.specs.Notation.{Tokens}

-- the text has tokens that are a condition with this tree
pub record HasTree (text : List ℕ) (tree : Condition) : Type 0 where
  pub kinds : Tokens
  pub spelled : HasKinds text kinds
  pub parsed : IsConditionText (Some 64) kinds tree
