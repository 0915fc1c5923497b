-- How many more parentheses may be open at once, as it is counted from the front.
use Rattle.std.specs.Prelude.{ℕ, zero, suc, Bool, true, false, if◌then◌else◌, [], ◌∷◌}
use Rattle.lexer.specs.declared.kinds.Symbol.TheVariants as s
use Rattle.ast.specs.Notation.{Tokens}
use Rattle.parse_terminals.specs.Readers.{is_symbol}

-- what is one more level down, if one is left
abbrev pub below : ℕ → (ℕ → Bool) → Bool
below zero f = false
below (suc d) f = f d

-- in no front do the left parentheses outnumber the right ones by more than d
abbrev pub is_shallow : Tokens → ℕ → Bool
is_shallow [] d = true
is_shallow (t ∷ ts) d =
    if is_symbol s.LeftParenthesis t then below d (is_shallow ts)
    else (if is_symbol s.RightParenthesis t then is_shallow ts (suc d) else is_shallow ts d)
