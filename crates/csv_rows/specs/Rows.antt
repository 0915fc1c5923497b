-- What the rows of a CSV text are.
use Rattle.std.specs.Prelude.{◌≡◌, ℕ, List, length, map}
use Rattle.std.specs.List.{AllByRecursion}
use Rattle.csv.specs.Reading.{AreRecords, default_config, strip_bom}
use Rattle.csv.specs.declared.parser.State.TheVariants as st
use Rattle.sqlval.specs.Value.{Row}
use Rattle.replies.specs.Printed.{printed_value}

-- rows as records: a field for each value, as it is printed
abbrev pub records_of : List Row → List (List (List ℕ))
records_of rows = map (map printed_value) rows

-- each row has so many values
abbrev pub HaveWidth : ℕ → List Row → Type 0
HaveWidth width rows = AllByRecursion (λ row. length row ≡ width) rows

-- these are the rows of a text without a header: its records, a byte order mark left off, are
-- theirs, and all have one width
pub record AreRowsOf (bytes : List ℕ) (rows : List Row) : Type 0 where
  pub records : AreRecords default_config st.StartRecord (strip_bom bytes) (records_of rows)
  pub width : ℕ
  pub even : HaveWidth width rows
