use Rattle.std.proofs.Common.{◌≡◌, ◌≤◌, ◌-◌, ◌++◌, length, drop}
use Rattle.sqlrecord.specs.Storable.{AllStorable}
use Rattle.sqlrecord.specs.Key.{key_code}
use Rattle.sqlrecord.proofs.key_decode.read_key.Given as goal

abbrev pub invariant-loop-at : goal.invariant-loop-at
invariant-loop-at l = record {
  storable : AllStorable l.key;
  code : key_code l.key ++ drop l.at l.bytes ≡ l.bytes;
  within : l.at ≤ length l.bytes;
}

abbrev pub decreases-loop-at : goal.decreases-loop-at
decreases-loop-at l = length l.bytes - l.at
