use Rattle.std.proofs.Common.{◌≡◌, drop}
use Rattle.typing.specs.Finding.{each}
use Rattle.typing.specs.Known.{Known}
use Rattle.scopes.specs.Seen.{frames}
use Rattle.type_rules.proofs.FindsLemmas.{after}
use Rattle.query_types.specs.Parts.{argument_view, continued, factor_after, in_order, multiplied, summed, term_after}
use Rattle.query_types.proofs.arguments.+arguments.Given as goal

-- what is found so far, and then what the operands that are left give, is what all give
abbrev pub invariant-argument_summands-loop-operator : goal.invariant-argument_summands-loop-operator
invariant-argument_summands-loop-operator l =
    (k : Known) → after l.operands (each (in_order (term_after k) summed (drop l.operator-index l.others) (argument_view (frames l.scope)))) ≡ each (in_order (term_after k) summed l.others (argument_view (frames l.scope)))

abbrev pub invariant-argument_texts-loop-operator : goal.invariant-argument_texts-loop-operator
invariant-argument_texts-loop-operator l =
    (k : Known) → after l.operands (each (in_order (term_after k) continued (drop l.operator-index l.others) (argument_view (frames l.scope)))) ≡ each (in_order (term_after k) continued l.others (argument_view (frames l.scope)))

abbrev pub invariant-argument_multipliers-loop-operator : goal.invariant-argument_multipliers-loop-operator
invariant-argument_multipliers-loop-operator l =
    (k : Known) → after l.operands (each (in_order (factor_after k) multiplied (drop l.operator-index l.others) (argument_view (frames l.scope)))) ≡ each (in_order (factor_after k) multiplied l.others (argument_view (frames l.scope)))
