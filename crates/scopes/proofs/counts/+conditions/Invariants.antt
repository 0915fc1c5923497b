use Rattle.std.proofs.Common.{◌≡◌, ◌+◌, take}
use Rattle.ast.specs.declared.tree.Condition.{out-Condition}
use Rattle.ast.specs.declared.tree.Conjunction.{out-Conjunction}
use Rattle.typing.specs.Known.{Known}
use Rattle.typing.specs.Typing.{conjunction_part, negation_part}
use Rattle.scopes.specs.Seen.{capped, count_of}
use Rattle.scopes.proofs.Counted.{counted}
use Rattle.scopes.proofs.counts.+conditions.Given as goal

-- those of the first operand and of the others so far
abbrev pub invariant-count_in_condition-loop-other : goal.invariant-count_in_condition-loop-other
invariant-count_in_condition-loop-other l =
    (k : Known) → l.count ≡ capped (count_of (conjunction_part k (out-Condition l.tree).first) + counted (conjunction_part k) (take l.other-index l.other-items))

abbrev pub invariant-count_in_conjunction-loop-other : goal.invariant-count_in_conjunction-loop-other
invariant-count_in_conjunction-loop-other l =
    (k : Known) → l.count ≡ capped (count_of (negation_part k (out-Conjunction l.tree).first) + counted (negation_part k) (take l.other-index l.other-items))
