-- The whole grammar: which tokens are a statement, or a condition, and what its tree is.
use Rattle.std.specs.Prelude.{◌≡◌, ℕ, zero, suc, [], ◌∷◌, ◌⊎◌, Option}
use Rattle.ast.specs.declared.statement.Statement.{Statement}
use Rattle.ast.specs.declared.tree.Condition.{Condition}
use Rattle.ast.specs.Expressions.{Nested, IsExpression, IsCondition}
use Rattle.ast.specs.Queries.{IsQuery}
use Rattle.ast.specs.Statements.{IsStatement}
use Rattle.ast.specs.Notation.{Tokens}
use Rattle.ast.specs.Words.{SEMICOLON}

-- the rules of expressions, conditions and queries in which parentheses stand less than so deep,
-- and chains are within the limit
abbrev pub nested_at : Option ℕ → ℕ → Nested
nested_at limit zero = record { expression = λ _ _ _. ⊥; condition = λ _ _ _. ⊥; query = λ _ _ _. ⊥ }
nested_at limit (suc depth) = record {
  expression = IsExpression limit (nested_at limit depth);
  condition = IsCondition limit (nested_at limit depth);
  query = IsQuery limit (nested_at limit depth);
}

-- The tokens are one statement, which has this tree, and perhaps a ; after it.
pub record IsText (limit : Option ℕ) (ts : Tokens) (x : Statement) : Type 0 where
  pub depth : ℕ
  pub rest : Tokens
  pub statement : IsStatement (nested_at limit depth) ts x rest
  pub end : (rest ≡ []) ⊎ (rest ≡ SEMICOLON ∷ [])

-- The tokens are one condition, which has this tree.
pub record IsConditionText (limit : Option ℕ) (ts : Tokens) (x : Condition) : Type 0 where
  pub depth : ℕ
  pub condition : (nested_at limit depth).condition ts x []
