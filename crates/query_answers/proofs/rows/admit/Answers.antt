use Rattle.sqlval.specs.declared.schema.Index.{Index}
use Rattle.denote.specs.Database.{IndexDeclaration}
use Rattle.denote.specs.StoredRow.{key_faults}
use Rattle.query_answers.proofs.InsertLemmas.{record_faults-none, flat_map-map}
use Rattle.query_answers.proofs.rows.admit.Goals as goal

pub returns : goal.returns
returns c =
    let faults = λ (index : IndexDeclaration). key_faults c.args.row.now index.columns in
    let declared = λ (i : Index). let d : IndexDeclaration = record { name = i.name; columns = i.columns } in d in
    rw (c.in_ok-evaluate_checks.ensures.ok, record_faults-none c.args.row.now c.coded_row_length.result c.coded_row_length.ensures c.if-coded_row_length-gt-LONGEST_RECORD.false, flat_map-map faults declared c.args.table.now.indexes)
    (rw c.as_slice.ensures at c.measure_keys.ensures)
