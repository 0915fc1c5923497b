use Rattle.std.proofs.Common.{◌≡◌, ◌++◌, take}
use Rattle.sqlrecord.specs.Storable.{AllStorable}
use Rattle.sqlrecord.specs.Key.{key_code}
use Rattle.sqlrecord.proofs.key.put_values.Given as goal

abbrev pub invariant-loop-value : goal.invariant-loop-value
invariant-loop-value l = record {
  put : l.code.items ≡ l.initial.code.items ++ key_code (take l.value-index l.key);
  storable : AllStorable (take l.value-index l.key);
}
