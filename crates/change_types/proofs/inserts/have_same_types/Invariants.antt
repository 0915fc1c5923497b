use Rattle.std.proofs.Common.{◌≡◌, length}
use Rattle.std.specs.Cmp.Lexicographic.{pointwise}
use Rattle.typing.specs.SetOperator.{same_type, types_of}
use Rattle.change_types.specs.Parts.{target_types}
use Rattle.change_types.proofs.inserts.have_same_types.Given as goal

-- the answer is that for the columns that are left
abbrev pub invariant-loop-target : goal.invariant-loop-target
invariant-loop-target l = record {
  same : pointwise same_type (target_types l.ours) (types_of l.theirs) ≡ pointwise same_type (target_types l.targets) (types_of l.columns);
  long : length l.ours ≡ length l.theirs;
}

abbrev pub decreases-loop-target : goal.decreases-loop-target
decreases-loop-target l = length l.ours
