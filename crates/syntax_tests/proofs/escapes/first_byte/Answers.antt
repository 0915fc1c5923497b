use Rattle.std.proofs.Common.{◌∷◌, rules}
use Rattle.syntax_tests.specs.Escapes.{plain, special}
use Rattle.syntax_tests.proofs.escapes.first_byte.Goals as goal

pub returns-then-first-eq92-clause-step : goal.returns-then-first-eq92-clause-step
returns-then-first-eq92-clause-step c = λ text left.
    rw c.if-first-eq92.true (special c.after_backslash.result.0 c.args.after.now c.after_backslash.result.1.now text c.after_backslash.ensures.means left)

pub returns-else-first-eq92-clause-step : goal.returns-else-first-eq92-clause-step
returns-else-first-eq92-clause-step c = λ text left. plain c.args.first c.args.after.now text c.if-first-eq92.false left
