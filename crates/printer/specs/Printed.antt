-- The tokens and the text of a tree.
use Rattle.std.specs.Prelude.{◌≡◌, ℕ, [], ◌∷◌, ◌++◌, ◌⊎◌, Option}
use Rattle.lexer.specs.Printing.{HasKinds, text_of}
use Rattle.lexer.specs.Token.{Bytes}
use Rattle.ast.specs.declared.statement.Statement.{Statement}
use Rattle.ast.specs.declared.tree.Condition.{Condition}
use Rattle.ast.specs.Grammar.{nested_at, IsText, IsConditionText}
use Rattle.ast.specs.Notation.{Tokens}
use Rattle.ast.specs.Words.{SEMICOLON}

-- ---- statements

-- Whatever tokens are a text with the tree `x`, they are these, perhaps with a ; after them; and
-- where any are, these are too. The limit of chains is any.
pub record AreTokensOf (x : Statement) (kinds : Tokens) : Type 0 where
  pub only : (limit : Option ℕ) (ts : Tokens) → IsText limit ts x → (ts ≡ kinds) ⊎ (ts ≡ kinds ++ SEMICOLON ∷ [])
  pub again : (limit : Option ℕ) (ts : Tokens) → IsText limit ts x → IsText limit kinds x

-- The text of the tokens of `x`. Read again it has just these.
pub record IsTextOf (x : Statement) (text : Bytes) : Type 0 where
  pub kinds : Tokens
  pub are : AreTokensOf x kinds
  pub text_is : text ≡ text_of kinds
  pub again : HasKinds text kinds

-- ---- conditions

-- The tokens begin with a condition that has the tree `x`, and `rest` is left, as in a text in
-- which the condition stands.
pub record BeginsWithCondition (limit : Option ℕ) (ts : Tokens) (x : Condition) (rest : Tokens) : Type 0 where
  pub depth : ℕ
  pub condition : (nested_at limit depth).condition ts x rest

-- Whatever tokens begin with a condition that has the tree `x`, it is these; and where any do,
-- these alone are this condition.
pub record AreConditionTokensOf (x : Condition) (kinds : Tokens) : Type 0 where
  pub only : (limit : Option ℕ) (ts rest : Tokens) → BeginsWithCondition limit ts x rest → ts ≡ kinds ++ rest
  pub again : (limit : Option ℕ) (ts rest : Tokens) → BeginsWithCondition limit ts x rest
      → IsConditionText limit kinds x

-- The text of the tokens of the condition `x`. Read again it has just these.
pub record IsConditionTextOf (x : Condition) (text : Bytes) : Type 0 where
  pub kinds : Tokens
  pub are : AreConditionTokensOf x kinds
  pub text_is : text ≡ text_of kinds
  pub again : HasKinds text kinds
