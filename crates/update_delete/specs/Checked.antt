-- The trees of the CHECKs of a table of a database (ISO/IEC 9075:1992, 11.9).
use Rattle.std.specs.Prelude.{◌≡◌, List, Some}
use Rattle.std.specs.FinMap.{get}
use Rattle.algebra.specs.declared.tree.Condition.{Condition}
use Rattle.denote.specs.Database.{Name, Table, Database, CheckReading, checks_of}
use Rattle.query_answers.specs.Sources.{AreChecksOf}

-- these are trees of the conditions of the CHECKs of the table of this name, if there is one
abbrev pub AreChecksFor : CheckReading → Database → Name → List Condition → Type 0
AreChecksFor reading db name trees = (table : Table) → get db name ≡ Some table
    → AreChecksOf (checks_of reading name table) trees
