use Rattle.std.proofs.Common.{◌≡◌, take, min, ◌∷◌}
use Rattle.lexer.specs.Token.{number_of}
use Rattle.lexer.proofs.numbers.value_of.Given as goal

abbrev pub invariant-loop-digit : goal.invariant-loop-digit
invariant-loop-digit l = l.value ≡ min (number_of (l.first ∷ take l.digit-index l.digits)) 9223372036854775808
