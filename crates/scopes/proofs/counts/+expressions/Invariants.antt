use Rattle.std.proofs.Common.{◌≡◌, ◌+◌, take}
use Rattle.ast.specs.declared.tree.Expression.{out-Expression}
use Rattle.ast.specs.declared.tree.Term.{out-Term}
use Rattle.typing.specs.Known.{Known}
use Rattle.typing.specs.Typing.{factor_part, term_part}
use Rattle.scopes.specs.Seen.{capped, count_of}
use Rattle.scopes.proofs.Counted.{counted}
use Rattle.scopes.proofs.counts.+expressions.Given as goal

-- those of the first operand and of the others so far
abbrev pub invariant-count_in_expression-loop-term : goal.invariant-count_in_expression-loop-term
invariant-count_in_expression-loop-term l =
    (k : Known) → l.count ≡ capped (count_of (term_part k (out-Expression l.tree).first) + counted (λ o. term_part k o.1) (take l.term-index l.term-items))

abbrev pub invariant-count_in_term-loop-factor : goal.invariant-count_in_term-loop-factor
invariant-count_in_term-loop-factor l =
    (k : Known) → l.count ≡ capped (count_of (factor_part k (out-Term l.tree).first) + counted (λ o. factor_part k o.1) (take l.factor-index l.factor-items))
