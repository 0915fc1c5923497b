use Rattle.std.proofs.Common.{◌≡◌, ◌++◌, map, drop}
use Rattle.std.specs.List.{filter_map, enumerate_from}
use Rattle.sqlval.specs.declared.schema.Constraint.{Constraint}
use Rattle.denote.specs.Change.{owned_index}
use Rattle.denote.specs.SchemaOf.{index_of}
use Rattle.table_changes.specs.Indexes.{with_owner, owned_at}
use Rattle.table_changes.proofs.creating.owned_indexes.Given as goal

-- the indexes of the constraints so far, and of those that are left
abbrev pub invariant-loop-place : goal.invariant-loop-place
invariant-loop-place l = record {
  indexes : map index_of l.indexes ++ filter_map (λ (k : Constraint). owned_index k.rule) (drop l.place l.constraints) ≡ filter_map (λ (k : Constraint). owned_index k.rule) l.constraints;
  owners : map with_owner l.indexes ++ filter_map owned_at (enumerate_from l.place (drop l.place l.constraints)) ≡ filter_map owned_at (enumerate_from 0 l.constraints);
}
