use Rattle.std.proofs.Common.{List, length, ◌++◌}
use Rattle.csv.specs.Records.{fields_of}
use Rattle.sqlval.specs.declared.value.Value.{Value}
use Rattle.sqlrecord.specs.Storable.{AllStorable, IsStorable}
use Rattle.csv_rows.specs.Paired.{ArePaired}
use Rattle.csv_rows.specs.Written.{IsRowBy, IsValueBy}
use Rattle.csv_rows.proofs.Paired.{IsLeft}
use Rattle.csv_rows.proofs.by_source.row_by.Given as goal

-- the row of what is left makes the row whole; each row begins so
abbrev pub invariant-loop-source : goal.invariant-loop-source
invariant-loop-source l =
    ((more : List Value) → ArePaired (IsValueBy (fields_of l.fn.fields)) l.left more → ArePaired (IsValueBy (fields_of l.fn.fields)) l.fn.sources (l.row ++ more))
    × ((all : List Value) → AllStorable all → IsRowBy l.fn.sources (fields_of l.fn.fields) all
    → IsLeft (IsValueBy (fields_of l.fn.fields)) IsStorable l.left l.row all)

abbrev pub decreases-loop-source : goal.decreases-loop-source
decreases-loop-source l = length l.left
