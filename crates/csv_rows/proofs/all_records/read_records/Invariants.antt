use Rattle.std.proofs.Common.{◌≡◌, ◌<◌, ℕ, List, map, Some, false}
use Rattle.csv.specs.Reading.{Reached, Ready, default_config, source_of, strip_bom}
use Rattle.csv.specs.Records.{fields_of}
use Rattle.csv.specs.declared.parser.State.TheVariants as st
use Rattle.csv.specs.declared.reader.Trim.TheVariants as trim
use Rattle.csv_rows.proofs.Lengths.{ExpectsLength}
use Rattle.csv_rows.proofs.all_records.read_records.Given as goal

abbrev pub invariant-loop-found : goal.invariant-loop-found
invariant-loop-found g l =
    (l.found-iterator.rdr.trim ≡ trim.None) × Ready l.found-iterator.rdr × (0 < l.found-iterator.left) × (l.found-iterator.rdr.config ≡ default_config)
    × (l.found-iterator.rdr.flexible ≡ false) × ExpectsLength l.found-iterator.rdr.expected (map fields_of l.records)
    × ((bytes : List ℕ) → g.R.Read.remaining l.fn.reader ≡ Some bytes → (y : List ℕ) × (source_of g.R.Read.remaining l.found-iterator.rdr ≡ Some y)
    × Reached default_config st.StartRecord (strip_bom bytes) (map fields_of l.records) l.found-iterator.rdr.state y)
