use Rattle.std.proofs.Common.{◌++◌, map, take}
use Rattle.ast.specs.declared.tree.Expression.{out-Expression}
use Rattle.ast.specs.declared.tree.Term.{out-Term}
use Rattle.typing.specs.Finds.{Finds}
use Rattle.typing.specs.Known.{Known}
use Rattle.typing.specs.Part.{functions_of}
use Rattle.typing.specs.Typing.{factor_part, term_part}
use Rattle.scopes.specs.Seen.{frames}
use Rattle.query_types.specs.Parts.{factor_after, functions_in, term_after}
use Rattle.query_types.proofs.functions.+functions.Given as goal

-- those of the first operand and of the others so far
abbrev pub invariant-functions_in_expression-loop-term : goal.invariant-functions_in_expression-loop-term
invariant-functions_in_expression-loop-term l =
    (k : Known) → Finds l.functions (functions_in (frames l.scope) ((term_part k (out-Expression l.tree).first).functions ++ functions_of (map (term_after k) (take l.term-index l.term-items))))

abbrev pub invariant-functions_in_term-loop-factor : goal.invariant-functions_in_term-loop-factor
invariant-functions_in_term-loop-factor l =
    (k : Known) → Finds l.functions (functions_in (frames l.scope) ((factor_part k (out-Term l.tree).first).functions ++ functions_of (map (factor_after k) (take l.factor-index l.factor-items))))
