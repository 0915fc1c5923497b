use Rattle.std.proofs.Common.{ℕ, List, length, ◌++◌}
use Rattle.syntax_tests.specs.Escapes.{Spells}
use Rattle.syntax_tests.proofs.escapes.unescaped.Given as goal

-- whatever what is left stands for, the line stands for the bytes so far and that
abbrev pub invariant-loop-rest : goal.invariant-loop-rest
invariant-loop-rest l = (more : List ℕ) → Spells l.rest more → Spells l.fn.line (l.text.items ++ more)

abbrev pub decreases-loop-rest : goal.decreases-loop-rest
decreases-loop-rest l = length l.rest
