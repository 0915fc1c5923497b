use Rattle.std.proofs.Common.{◌≡◌, drop}
use Rattle.std.specs.Prelude.{flat_map}
use Rattle.sqlval.specs.declared.schema.Index.{Index}
use Rattle.denote.specs.StoredRow.{key_faults}
use Rattle.constraints.proofs.lengths.keys_fit.Given as goal

-- the keys before this one are short enough
abbrev pub invariant-loop-index : goal.invariant-loop-index
invariant-loop-index l = let faults = λ (index : Index). key_faults l.row index.columns in flat_map faults (drop l.index-index l.indexes) ≡ flat_map faults l.indexes
