use Rattle.std.proofs.Common.{◌≡◌, List, map, take}
use Rattle.csv.specs.Records.{fields_of}
use Rattle.sqlval.specs.declared.value.Value.{Value}
use Rattle.sqlrecord.specs.Storable.{AllStorable}
use Rattle.replies.specs.Printed.{printed_value}
use Rattle.csv_rows.proofs.record.row_of.Given as goal

abbrev pub invariant-loop-field : goal.invariant-loop-field
invariant-loop-field l =
    (l.field-iterator.row.now ≡ l.fn.fields) × (map printed_value l.row ≡ take l.field-iterator.at (fields_of l.fn.fields))
    × ((row : List Value) → AllStorable row → map printed_value row ≡ fields_of l.fn.fields → l.row ≡ take l.field-iterator.at row)
