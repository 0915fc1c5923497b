use Rattle.sqlrecord.proofs.RowLemmas.{row_only}
use Rattle.sqlrecord.proofs.row.decode_row.Goals as goal

pub returns-in-Some-clause-only : goal.returns-in-Some-clause-only
returns-in-Some-clause-only c other code = row_only _ _ _ c.in-Some.ensures code
