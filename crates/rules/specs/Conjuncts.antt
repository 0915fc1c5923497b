-- The conjuncts of a condition, and what is put together from some of them.
use Rattle.std.specs.Prelude.{Bool, not, List, [], ◌∷◌, filter}
use Rattle.algebra.specs.declared.tree.Condition.{Condition, out-Condition}
use Rattle.algebra.specs.declared.tree.Condition.TheVariants as c
use Rattle.algebra.specs.declared.tree.Tree.{Tree}
use Rattle.algebra.specs.declared.tree.Tree.TheVariants as t
use Rattle.algebra.specs.Raising.{condition_may_raise}
use Rattle.key_lookups.specs.Sought.{conjuncts_at}

-- the operands of AND (ISO/IEC 9075:1992, 8.12); any other condition is its only conjunct
abbrev pub conjuncts : Condition → List Condition
conjuncts condition = conjuncts_at (out-Condition condition) condition

-- it is denied that it raises a fault
abbrev pub quiet : Condition → Bool
quiet condition = not (condition_may_raise condition)

-- those that do not pass a test
abbrev pub others : {X : Type 0} → (X → Bool) → List X → List X
others test = filter (λ x. not (test x))

-- their AND; a condition alone is itself
abbrev pub and_of : List Condition → Condition
and_of [] = c.And []
and_of (condition ∷ []) = condition
and_of (first ∷ (second ∷ rest)) = c.And (first ∷ (second ∷ rest))

-- a filter by all of these, if there are any
abbrev pub filtered : List Condition → Tree → Tree
filtered [] rows = rows
filtered (first ∷ rest) rows = t.Filter (and_of (first ∷ rest)) rows

-- a join by all of these; a product where there are none
abbrev pub joined : List Condition → Tree → Tree → Tree
joined [] left right = t.Product left right
joined (first ∷ rest) left right = t.Inner (and_of (first ∷ rest)) left right
