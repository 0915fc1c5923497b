use Rattle.syntax_tests.proofs.Lines.{nothing_here, sign_here}
use Rattle.syntax_tests.proofs.escapes.after_backslash.Goals as goal

pub returns-in-empty-clause-means : goal.returns-in-empty-clause-means
returns-in-empty-clause-means c = nothing_here c.args.after.now c.in-empty.len_below

pub returns-else-first-eq120-clause-means : goal.returns-else-first-eq120-clause-means
returns-else-first-eq120-clause-means c =
    sign_here c.args.after.now c.meaning.result c.in-len1-up.len_at_least c.if-first-eq120.false c.meaning.ensures
