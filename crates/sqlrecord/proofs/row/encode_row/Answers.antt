use Rattle.sqlrecord.proofs.RowLemmas.{encoded}
use Rattle.sqlrecord.proofs.row.encode_row.Goals as goal

pub returns-clause-code : goal.returns-clause-code
returns-clause-code c =
    encoded _ _ _ _ _ c.loop-value-test.false c.loop-value.invariant.storable c.loop-value.invariant.put c.from_vec.ensures c.coded_row_length-length.ensures c.if-length-gt-MAXIMUM_ROW.false
