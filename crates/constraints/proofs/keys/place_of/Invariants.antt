use Rattle.std.proofs.Common.{◌≡◌, drop}
use Rattle.std.specs.List.{position_from}
use Rattle.sqlval.specs.declared.schema.Index.{Index}
use Rattle.constraints.specs.Foreseen.{place_of, same_columns}
use Rattle.constraints.proofs.keys.place_of.Given as goal

-- no index before this one is over these columns
abbrev pub invariant-loop-place : goal.invariant-loop-place
invariant-loop-place l = position_from (λ (index : Index). same_columns index.columns l.columns) l.place (drop l.place l.indexes) ≡ place_of l.columns l.indexes
