use Rattle.std.proofs.Common.{◌≡◌, ℕ, List, take}
use Rattle.csv.specs.Records.{fields_of}
use Rattle.csv_rows.specs.Paired.{ArePaired}
use Rattle.csvio.specs.TableName.{IsNameIn}
use Rattle.csvio.proofs.header.names_of.Given as goal

-- the names of the fields so far, and no other
abbrev pub invariant-loop-field : goal.invariant-loop-field
invariant-loop-field l =
    (l.field-iterator.row.now ≡ l.fn.fields) × ArePaired IsNameIn (take l.field-iterator.at (fields_of l.fn.fields)) l.names
    × ((others : List (List ℕ)) → ArePaired IsNameIn (fields_of l.fn.fields) others → take l.field-iterator.at others ≡ l.names)
