use Rattle.sqlrecord.proofs.OrderLemmas.{rows_apart}
use Rattle.sqlrecord.proofs.laws.rows_tell_apart.Goals as goal

pub returns : goal.returns
returns c = rows_apart
