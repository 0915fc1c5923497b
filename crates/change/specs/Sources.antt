-- The rows that an INSERT stores of the rows that it is given (ISO/IEC 9075:1992, 13.8).
use Rattle.typing.specs.declared.statement.Insert.{Insert}
use Rattle.typing.specs.declared.statement.InsertSource.{InsertSource}
use Rattle.std.specs.Prelude.{List}
use Rattle.sqlval.specs.Value.{Row}
use Rattle.denote.specs.Change.{inserted_rows}
use Rattle.denote.specs.Database.{Table, Database, CheckReading, checks_of, rows_in}
use Rattle.denote.specs.Evaluation.{Evaluation}

-- what the definitions give of this source, in the table that it names
abbrev pub stored_of : CheckReading → Database → Insert → Table → InsertSource → Evaluation (List Row)
stored_of reading db i table source = inserted_rows (checks_of reading i.table table) (rows_in db) table i.columns source
