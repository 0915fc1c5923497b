use Rattle.std.proofs.Common.{List, length, map, ◌++◌}
use Rattle.std.specs.List.{AllByRecursion}
use Rattle.csv.specs.Records.{fields_of}
use Rattle.sqlval.specs.Value.{Row}
use Rattle.sqlrecord.specs.Storable.{AllStorable}
use Rattle.csv_rows.specs.Paired.{ArePaired}
use Rattle.csv_rows.specs.Written.{AreRowsBy, IsRowBy}
use Rattle.csv_rows.proofs.Paired.{IsLeft}
use Rattle.csv_rows.proofs.by_source.rows_by.Given as goal

-- the rows of what is left make the rows whole; all rows begin so
abbrev pub invariant-loop-record : goal.invariant-loop-record
invariant-loop-record l =
    ((more : List Row) → ArePaired (IsRowBy l.fn.sources) (map fields_of l.left) more
    → ArePaired (IsRowBy l.fn.sources) (map fields_of l.fn.records) (l.rows ++ more))
    × ((all : List Row) → AllByRecursion AllStorable all → AreRowsBy l.fn.sources (map fields_of l.fn.records) all
    → IsLeft (IsRowBy l.fn.sources) AllStorable (map fields_of l.left) l.rows all)

abbrev pub decreases-loop-record : goal.decreases-loop-record
decreases-loop-record l = length l.left
