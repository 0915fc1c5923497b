use Rattle.tablestore.proofs.OneLemmas.{one_list}
use Rattle.tablestore.proofs.laws.rows_are_one.Goals as goal

pub returns : goal.returns
returns c = one_list
