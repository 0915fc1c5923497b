-- How deep parentheses nest in a list of tokens. Our own limit.
use Rattle.std.specs.Prelude.{◌≡◌, ℕ, ◌+◌, ◌≤◌, [], ◌∷◌, ◌++◌}
use Rattle.lexer.specs.declared.kinds.Kind.{Kind}
use Rattle.lexer.specs.declared.kinds.Kind.TheVariants as kind
use Rattle.lexer.specs.declared.kinds.Symbol.TheVariants as s
use Rattle.ast.specs.Notation.{Tokens}

-- 1 for a left parenthesis
abbrev pub left_of : Kind → ℕ
left_of (kind.Symbol s.LeftParenthesis) = 1
left_of _ = 0

-- 1 for a right parenthesis
abbrev pub right_of : Kind → ℕ
right_of (kind.Symbol s.RightParenthesis) = 1
right_of _ = 0

-- how many left parentheses there are
abbrev pub lefts : Tokens → ℕ
lefts [] = 0
lefts (t ∷ ts) = left_of t + lefts ts

-- how many right parentheses there are
abbrev pub rights : Tokens → ℕ
rights [] = 0
rights (t ∷ ts) = right_of t + rights ts

-- In no front of the tokens do the left parentheses outnumber the right ones by more than the
-- limit.
abbrev pub IsNestedWithin : ℕ → Tokens → Type 0
IsNestedWithin limit ts = (front back : Tokens) → ts ≡ front ++ back → lefts front ≤ rights front + limit
