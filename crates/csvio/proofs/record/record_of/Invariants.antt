use Rattle.std.proofs.Common.{◌≡◌, [], map, take}
use Rattle.csv.specs.Records.{fields_of, partial_of}
use Rattle.replies.specs.Printed.{printed_value}
use Rattle.csvio.proofs.record.record_of.Given as goal

-- the fields so far
abbrev pub invariant-loop-value : goal.invariant-loop-value
invariant-loop-value l = record {
  fields : fields_of l.fields ≡ map printed_value (take l.value-index l.row);
  whole : partial_of l.fields ≡ [];
}
