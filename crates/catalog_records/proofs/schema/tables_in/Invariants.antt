use Rattle.std.proofs.Common.{◌≡◌, List, ◌++◌, length}
use Rattle.sqlval.specs.declared.schema.Table.{Table}
use Rattle.catalog_records.specs.Records.{table_records, schema_records}
use Rattle.catalog_records.specs.Keepable.{IsTable, AreTables}
use Rattle.catalog_records.proofs.Repeats.{Remains}
use Rattle.catalog_records.proofs.schema.tables_in.Given as goal

abbrev pub invariant-loop-first : goal.invariant-loop-first
invariant-loop-first l = record {
  sound : schema_records l.tables ++ l.rest ≡ l.records;
  range : AreTables l.tables;
  again : (all : List Table) → AreTables all → schema_records all ≡ l.records → Remains table_records IsTable all l.tables l.rest;
}

abbrev pub decreases-loop-first : goal.decreases-loop-first
decreases-loop-first l = length l.rest
