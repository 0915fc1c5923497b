use Rattle.sqlval.specs.declared.schema.Index.{Index}
use Rattle.denote.specs.Database.{IndexDeclaration}
use Rattle.denote.specs.StoredRow.{key_faults}
use Rattle.constraints.proofs.Faulty.{record_faults-none, flat_map-map}
use Rattle.constraints.proofs.lengths.admit.Goals as goal

pub returns : goal.returns
returns c =
    let faults = λ (index : IndexDeclaration). key_faults c.args.row.now index.columns in
    let declared = λ (i : Index). let d : IndexDeclaration = record { name = i.name; columns = i.columns } in d in
    rw (record_faults-none c.args.row.now c.coded_row_length.result c.coded_row_length.ensures c.if-coded_row_length-gt-LONGEST_RECORD.false, flat_map-map faults declared c.args.table.now.indexes)
    (rw c.as_slice.ensures at c.keys_fit.ensures)
