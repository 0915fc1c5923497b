use Rattle.tablestore.proofs.OneLemmas.{rows_kept, rows_used}
use Rattle.tablestore.proofs.laws.rows_stay.Goals as goal

pub returns-clause-stays : goal.returns-clause-stays
returns-clause-stays c = rows_kept

pub returns-clause-used : goal.returns-clause-used
returns-clause-used c = rows_used
