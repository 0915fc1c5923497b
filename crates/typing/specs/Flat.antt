-- Chains of AND and OR that hold none of their own kind: parentheses round an AND inside an AND
-- change nothing, and leave no trace.
use Rattle.std.specs.Prelude.{Bool, true, false, not}
use Rattle.std.specs.List.{list_all}
use Rattle.typing.specs.declared.typed.Condition.{Condition, Condition-F, out-Condition}
use Rattle.typing.specs.Condition.{ConditionLayer, conjuncts, disjuncts}

abbrev pub is_and : ConditionLayer → Bool
is_and (Condition-F.And operands) = true
is_and other = false

abbrev pub is_or : ConditionLayer → Bool
is_or (Condition-F.Or operands) = true
is_or other = false

-- no AND
abbrev pub is_conjunct : Condition → Bool
is_conjunct c = not (is_and (out-Condition c))

-- no OR
abbrev pub is_disjunct : Condition → Bool
is_disjunct c = not (is_or (out-Condition c))

-- no AND is directly inside its AND
abbrev pub has_flat_and : Condition → Bool
has_flat_and c = list_all is_conjunct (conjuncts c)

-- no OR is directly inside its OR
abbrev pub has_flat_or : Condition → Bool
has_flat_or c = list_all is_disjunct (disjuncts c)
