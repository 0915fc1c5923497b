use Rattle.table_changes.proofs.Owned.{owned-of}
use Rattle.table_changes.proofs.creating.owned_columns.Goals as goal

pub returns : goal.returns
returns c = owned-of c.args.rule.now c.key_columns.result c.key_columns.ensures
