use Rattle.std.proofs.Common.{◌≡◌, drop}
use Rattle.typing.specs.References.{primary_columns}
use Rattle.table_types.proofs.references.primary_columns.Given as goal

-- no key before is the PRIMARY KEY
abbrev pub invariant-loop-key : goal.invariant-loop-key
invariant-loop-key l = primary_columns (drop l.key-index l.keys) ≡ primary_columns l.keys
