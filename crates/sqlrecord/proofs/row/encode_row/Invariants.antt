use Rattle.std.proofs.Common.{◌≡◌, ◌++◌, [], take}
use Rattle.sqlrecord.specs.Storable.{AllStorable}
use Rattle.sqlrecord.specs.Row.{row_code}
use Rattle.sqlrecord.proofs.row.encode_row.Given as goal

abbrev pub invariant-loop-value : goal.invariant-loop-value
invariant-loop-value l = record {
  put : l.code.items ≡ [] ++ row_code (take l.value-index l.row);
  storable : AllStorable (take l.value-index l.row);
}
