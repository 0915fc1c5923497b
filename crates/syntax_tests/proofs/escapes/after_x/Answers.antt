use Rattle.syntax_tests.specs.Escapes.{no_digits}
use Rattle.syntax_tests.proofs.Lines.{digits_here}
use Rattle.syntax_tests.proofs.escapes.after_x.Goals as goal

pub returns-in_default-clause-means : goal.returns-in_default-clause-means
returns-in_default-clause-means c = no_digits c.args.after.now c.in_default.len_below

pub returns-in-len2-up-clause-means : goal.returns-in-len2-up-clause-means
returns-in-len2-up-clause-means c =
    digits_here c.args.after.now c.digit.result c.digit-in-len2-up.result c.in-len2-up.len_at_least c.digit.ensures.exact c.digit-in-len2-up.ensures.exact
