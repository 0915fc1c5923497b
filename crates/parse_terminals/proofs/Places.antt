-- Tokens without their places are as many.
use Rattle.std.proofs.Common.{◌≡◌, suc, List, [], ◌∷◌, length, refl, ap}
use Rattle.lexer.specs.declared.kinds.Token.{Token}
use Rattle.parse_terminals.specs.Readers.{kinds}

pub length_kinds : (ts : List Token) → length (kinds ts) ≡ length ts
length_kinds [] = refl
length_kinds (t ∷ ts) = ap suc (length_kinds ts)
