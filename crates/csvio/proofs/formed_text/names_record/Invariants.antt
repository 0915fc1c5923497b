use Rattle.std.proofs.Common.{◌≡◌, [], map, take}
use Rattle.csv.specs.Records.{fields_of, partial_of}
use Rattle.sqlval.specs.declared.schema.Column.{Column}
use Rattle.csvio.proofs.formed_text.names_record.Given as goal

-- the fields so far
abbrev pub invariant-loop-column : goal.invariant-loop-column
invariant-loop-column l = record {
  fields : fields_of l.fields ≡ map (λ (column : Column). column.name) (take l.column-index l.columns);
  whole : partial_of l.fields ≡ [];
}
