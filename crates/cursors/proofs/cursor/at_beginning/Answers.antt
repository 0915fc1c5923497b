use Rattle.std.proofs.Common.{refl}
use Rattle.cursors.proofs.Steps.{begins_whole}
use Rattle.cursors.proofs.cursor.at_beginning.Goals as goal

pub returns-clause-begins : goal.returns-clause-begins
returns-clause-begins c = λ contents is stands.
    begins_whole c.args.query.tree c.args.query.plan c.rows_ahead.result c.args.listed.fault c.args.listed contents c.rows_ahead.ensures refl is stands

pub returns-clause-tree : goal.returns-clause-tree
returns-clause-tree c = refl
