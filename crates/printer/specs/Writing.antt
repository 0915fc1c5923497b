-- What it is to put the tokens of a part of a tree at the end of a list.
use Rattle.std.specs.Prelude.{◌≡◌, ℕ, ◌∷◌, ◌++◌, Option}
use Rattle.lexer.specs.declared.kinds.Kind.{Kind}
use Rattle.ast.specs.Notation.{Tokens, Rule}
use Rattle.ast.specs.Expressions.{Nested}
use Rattle.ast.specs.Grammar.{nested_at}

-- a rule over the greatest number of operands in a chain, if there is one, and the rules of what
-- stands between parentheses
abbrev pub LimitedRule : Type 0 → Type 1
LimitedRule A = Option ℕ → Nested → Rule A

-- which tokens a part has, and which are left after it
abbrev pub Part : Type 1
Part = Option ℕ → Nested → Tokens → Tokens → Type 0

-- `new` is `old` with some tokens at its end. Whatever tokens are the part, they are just these;
-- and where any are the part, these are it too, whatever follows. The limit of chains and the depth
-- of nesting are any.
pub record Puts (part : Part) (old new : Tokens) : Type 0 where
  pub kinds : Tokens
  pub put : new ≡ old ++ kinds
  pub only : (limit : Option ℕ) (depth : ℕ) (ts rest : Tokens) → part limit (nested_at limit depth) ts rest
      → ts ≡ kinds ++ rest
  pub again : (limit : Option ℕ) (depth : ℕ) (ts rest after : Tokens) → part limit (nested_at limit depth) ts rest
      → part limit (nested_at limit depth) (kinds ++ after) after

-- The tokens of the tree `x` are put at the end.
abbrev pub Prints : {A : Type 0} → LimitedRule A → A → Tokens → Tokens → Type 0
Prints R x old new = Puts (λ limit inner ts rest. R limit inner ts x rest) old new

-- The tree `x` is written as this one token.
pub record IsWrittenAs {A : Type 0} (R : Rule A) (x : A) (kind : Kind) : Type 0 where
  pub only : (ts rest : Tokens) → R ts x rest → ts ≡ kind ∷ rest
  pub again : (rest : Tokens) → R (kind ∷ rest) x rest
