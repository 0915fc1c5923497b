use Rattle.std.proofs.Common.{◌++◌, map, take}
use Rattle.ast.specs.declared.tree.Condition.{out-Condition}
use Rattle.ast.specs.declared.tree.Conjunction.{out-Conjunction}
use Rattle.typing.specs.Finds.{Finds}
use Rattle.typing.specs.Known.{Known}
use Rattle.typing.specs.Part.{functions_of}
use Rattle.typing.specs.Typing.{conjunction_part, negation_part}
use Rattle.scopes.specs.Seen.{frames}
use Rattle.query_types.specs.Parts.{functions_in}
use Rattle.query_types.proofs.functions.+condition_functions.Given as goal

-- those of the first operand and of the others so far
abbrev pub invariant-functions_in_condition-loop-other : goal.invariant-functions_in_condition-loop-other
invariant-functions_in_condition-loop-other l =
    (k : Known) → Finds l.functions (functions_in (frames l.scope) ((conjunction_part k (out-Condition l.tree).first).functions ++ functions_of (map (conjunction_part k) (take l.other-index l.other-items))))

abbrev pub invariant-functions_in_conjunction-loop-other : goal.invariant-functions_in_conjunction-loop-other
invariant-functions_in_conjunction-loop-other l =
    (k : Known) → Finds l.functions (functions_in (frames l.scope) ((negation_part k (out-Conjunction l.tree).first).functions ++ functions_of (map (negation_part k) (take l.other-index l.other-items))))
