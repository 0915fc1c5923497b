use Rattle.std.proofs.Common.{◌≡◌, length}
use Rattle.lexer.specs.Support.{first_unsupported}
use Rattle.lexer.proofs.support.first_unsupported.Given as goal

abbrev pub invariant-loop-rest : goal.invariant-loop-rest
invariant-loop-rest l = first_unsupported l.rest ≡ first_unsupported l.fn.tokens

abbrev pub decreases-loop-rest : goal.decreases-loop-rest
decreases-loop-rest l = length l.rest
