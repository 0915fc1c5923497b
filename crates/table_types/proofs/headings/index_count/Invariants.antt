use Rattle.std.proofs.Common.{◌≡◌, ◌+◌, ◌≤◌, drop, length}
use Rattle.std.specs.Prelude.{filter}
use Rattle.table_types.proofs.headings.index_count.Given as goal

-- those so far, and those of the headings that are left
abbrev pub invariant-loop-heading : goal.invariant-loop-heading
invariant-loop-heading l = record {
  rest : l.count + length (filter (λ h. h.owns_index) (drop l.heading-index l.headings)) ≡ length (filter (λ h. h.owns_index) l.headings);
  few : l.count ≤ l.heading-index;
}
