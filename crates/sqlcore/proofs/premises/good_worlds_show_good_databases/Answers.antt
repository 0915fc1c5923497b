use Rattle.sqlcore.proofs.GoodDatabases.{good_seen}
use Rattle.sqlcore.proofs.premises.good_worlds_show_good_databases.Goals as goal

pub returns : goal.returns
returns c = good_seen
