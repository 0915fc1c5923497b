use Rattle.std.proofs.Common.{◌≡◌, drop}
use Rattle.std.specs.List.{list_any}
use Rattle.sqlval.specs.declared.schema.Table.{Table}
use Rattle.sqlval.specs.Schema.{same_name}
use Rattle.constraints.proofs.tables.table_named.Given as goal

-- no table before this one has the name
abbrev pub invariant-loop-table : goal.invariant-loop-table
invariant-loop-table l =
    list_any (λ (table : Table). same_name table.name l.name) (drop l.table-index l.table-items) ≡ list_any (λ (table : Table). same_name table.name l.name) l.table-items
