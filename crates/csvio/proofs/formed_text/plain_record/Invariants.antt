use Rattle.std.proofs.Common.{◌≡◌, [], map, take}
use Rattle.csv.specs.Records.{fields_of, partial_of}
use Rattle.csv_rows.specs.Written.{plain_value}
use Rattle.csvio.proofs.formed_text.plain_record.Given as goal

-- the fields so far
abbrev pub invariant-loop-value : goal.invariant-loop-value
invariant-loop-value l = record {
  fields : fields_of l.fields ≡ map plain_value (take l.value-index l.row);
  whole : partial_of l.fields ≡ [];
}
