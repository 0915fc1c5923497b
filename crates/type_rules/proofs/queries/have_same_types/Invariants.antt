use Rattle.std.proofs.Common.{◌≡◌, length}
use Rattle.std.specs.Cmp.Lexicographic.{pointwise}
use Rattle.typing.specs.SetOperator.{same_type, types_of}
use Rattle.type_rules.proofs.queries.have_same_types.Given as goal

-- the answer is that for the columns that are left
abbrev pub invariant-loop-column : goal.invariant-loop-column
invariant-loop-column l = record {
  same : pointwise same_type (types_of l.ours) (types_of l.theirs) ≡ pointwise same_type (types_of l.first) (types_of l.other);
  long : length l.ours ≡ length l.theirs;
}

abbrev pub decreases-loop-column : goal.decreases-loop-column
decreases-loop-column l = length l.ours
