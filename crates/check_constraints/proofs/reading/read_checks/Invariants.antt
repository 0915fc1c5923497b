use Rattle.std.proofs.Common.{◌≡◌, ◌++◌, drop}
use Rattle.typing.specs.Check.{IsCheckReading}
use Rattle.denote.specs.Database.{CheckReading, AreReadable}
use Rattle.check_constraints.specs.Conditions.{AllStand, conditions_of}
use Rattle.check_constraints.proofs.reading.read_checks.Given as goal

-- the conditions of the constraints so far, whose texts stand for them; where all can be read, so
-- can those that are left
abbrev pub invariant-loop-constraint : goal.invariant-loop-constraint
invariant-loop-constraint l = record {
  rules : (reading : CheckReading) → IsCheckReading reading
      → l.conditions ++ conditions_of reading l.table.name l.table.columns (drop l.constraint-index l.constraint-items) ≡ conditions_of reading l.table.name l.table.columns l.constraint-items;
  stand : AllStand l.table.name l.table.columns (drop l.constraint-index l.constraint-items) → AllStand l.table.name l.table.columns l.constraint-items;
  readable : AreReadable l.table.name l.table.columns l.constraint-items → AreReadable l.table.name l.table.columns (drop l.constraint-index l.constraint-items);
}
