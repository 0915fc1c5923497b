use Rattle.std.proofs.Common.{◌≡◌, refl, ◌<◌, Bool, true, false, List, [], ◌∷◌, map, length, nat_lt, arith, sym, ◌∙◌, ap, rules}
use Rattle.algebra.specs.declared.tree.SetFunction.{SetFunction}
use Rattle.algebra.specs.Raising.{some_may, function_may_raise}
use Rattle.raising.proofs.Nodes.{function_may}
use Rattle.raising.proofs.raising.some_function.Goals as goal

-- where there is a set function, one may raise
some : (functions : List SetFunction) → nat_lt 0 (length functions) ≡ some_may (map function_may_raise functions)
some [] = refl
some (function ∷ functions) = rw (function_may function) (search (rules))

pub returns : goal.returns
returns c = some c.args.functions.now
