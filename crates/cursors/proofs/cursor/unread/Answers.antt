use Rattle.cursors.proofs.Steps.{begins_unread}
use Rattle.std.proofs.Common.{refl}
use Rattle.cursors.proofs.cursor.unread.Goals as goal

pub returns-clause-begins : goal.returns-clause-begins
returns-clause-begins c = λ contents alone stands. begins_unread c.args.query.tree c.args.query.plan c.none_ahead.result contents c.none_ahead.ensures alone stands

pub returns-clause-tree : goal.returns-clause-tree
returns-clause-tree c = refl
