use Rattle.std.proofs.Common.{◌≡◌, drop, map}
use Rattle.typing.specs.Condition.{literal_of}
use Rattle.typing.specs.Finding.{each}
use Rattle.type_rules.proofs.FindsLemmas.{after}
use Rattle.type_rules.proofs.conditions.literals_of.Given as goal

-- the literals so far, and then those that are left, are all
abbrev pub invariant-loop-literal : goal.invariant-loop-literal
invariant-loop-literal l = after l.values (each (map (literal_of l.wanted) (drop l.literal-index l.literals))) ≡ each (map (literal_of l.wanted) l.literals)
