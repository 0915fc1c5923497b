use Rattle.std.proofs.Common.{◌≡◌, ◌+◌, ◌≤◌, drop, length}
use Rattle.std.specs.Prelude.{filter}
use Rattle.table_types.proofs.headings.primary_key_count.Given as goal

-- those so far, and those of the headings that are left
abbrev pub invariant-loop-heading : goal.invariant-loop-heading
invariant-loop-heading l = record {
  rest : l.count + length (filter (λ h. h.is_primary_key) (drop l.heading-index l.headings)) ≡ length (filter (λ h. h.is_primary_key) l.headings);
  few : l.count ≤ l.heading-index;
}
