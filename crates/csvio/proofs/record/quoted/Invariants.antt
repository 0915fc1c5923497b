use Rattle.std.proofs.Common.{◌≡◌, ◌∷◌, ◌++◌, drop}
use Rattle.replies.specs.Printed.{quotes_doubled}
use Rattle.csvio.proofs.record.quoted.Given as goal

-- what stands there, and then what is left
abbrev pub invariant-loop-character : goal.invariant-loop-character
invariant-loop-character l = l.field.items ++ quotes_doubled (drop l.character-index l.text) ≡ 39 ∷ quotes_doubled l.text
