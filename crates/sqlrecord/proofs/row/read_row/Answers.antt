use Rattle.sqlrecord.proofs.RowLemmas.{row_read}
use Rattle.sqlrecord.proofs.row.read_row.Goals as goal

pub returns : goal.returns
returns c = row_read _ _ _ c.loop-at.invariant.storable c.loop-at.invariant.code c.loop-at-test.false c.if-bytes-gt-MAXIMUM_ROW.false
