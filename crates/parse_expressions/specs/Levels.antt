-- Reading by the number of levels of parentheses, and function values that read so.
use Rattle.std.specs.Prelude.{ℕ, zero, suc, Option, None, Result}
use Rattle.std.specs.declared.alloc.Global.{Global}
use Rattle.std.specs.Borrow.{Bor}
use Rattle.lexer.specs.declared.kinds.Token.{Token}
use Rattle.std.specs.Prelude.{List}
use Rattle.ast.specs.declared.tree.Condition.{Condition}
use Rattle.ast.specs.declared.tree.Expression.{Expression}
use Rattle.ast.specs.declared.tree.Query.{Query}
use Rattle.parse_terminals.specs.declared.error.ParseError.{ParseError}
use Rattle.parse_terminals.specs.Readers.{ReadsBy}
use Rattle.parse_expressions.specs.ReadExpressions.{Inner, expression, condition}
use Rattle.parse_expressions.specs.ReadQueries.{query}

-- with parentheses nested less than so deep
abbrev pub inner_at : Option ℕ → ℕ → Inner
inner_at limit zero = record { expression = λ _. None; condition = λ _. None; query = λ _. None }
inner_at limit (suc depth) = record {
  expression = expression limit (inner_at limit depth);
  condition = condition limit (inner_at limit depth);
  query = query limit (inner_at limit depth);
}

abbrev pub Pre : Type 1
Pre = Global → Option ℕ → ℕ → Bor (List Token) → Type 0

abbrev pub Post : Type 0 → Type 1
Post A = Global → Option ℕ → ℕ → Bor (List Token) → Result (A × Bor (List Token)) ParseError → Type 0

-- The three function values read what stands between so many levels of parentheses.
pub record Nests (limit : Option ℕ) (depth : ℕ) (expression_pre : Pre) (expression_post : Post Expression)
    (condition_pre : Pre) (condition_post : Post Condition) (query_pre : Pre) (query_post : Post Query) : Type 0 where
  pub expression_callable : (alloc : Global) (tokens : Bor (List Token)) → expression_pre alloc limit depth tokens
  pub expression_reads : (alloc : Global)
      → ReadsBy (expression_post alloc limit depth) (inner_at limit depth).expression
  pub condition_callable : (alloc : Global) (tokens : Bor (List Token)) → condition_pre alloc limit depth tokens
  pub condition_reads : (alloc : Global) → ReadsBy (condition_post alloc limit depth) (inner_at limit depth).condition
  pub query_callable : (alloc : Global) (tokens : Bor (List Token)) → query_pre alloc limit depth tokens
  pub query_reads : (alloc : Global) → ReadsBy (query_post alloc limit depth) (inner_at limit depth).query
