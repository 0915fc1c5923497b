use Rattle.std.proofs.Common.{List, drop}
use Rattle.sqlval.specs.Value.{Row}
use Rattle.denote.specs.Database.{Name, CheckReading, table_of}
use Rattle.update_delete.specs.Kept.{Keeps, KeepAll}
use Rattle.update_delete.proofs.harmless.are_harmless.Given as goal

-- where the changes that are left keep keys, all do
abbrev pub invariant-loop-row : goal.invariant-loop-row
invariant-loop-row g l = (reading : CheckReading) (name : Name) (whole : List Row) → g.C.Checks.decides l.checks reading name l.table.columns l.table.constraints
    → KeepAll (Keeps reading name (table_of l.table whole) l.table.constraints) (drop l.row-index l.row-items) l.left
    → KeepAll (Keeps reading name (table_of l.table whole) l.table.constraints) l.fn.rows l.fn.changes
