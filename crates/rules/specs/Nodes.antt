-- A node of a tree as rules see it, and choices among rewritings.
use Rattle.std.specs.Prelude.{Bool, if◌then◌else◌, List, [], ◌∷◌, Option, None}
use Rattle.std.specs.Option.{option_or}
use Rattle.algebra.specs.declared.tree.Condition.{Condition}
use Rattle.algebra.specs.declared.tree.Expression.{Expression}
use Rattle.algebra.specs.declared.tree.SetFunction.{SetFunction}
use Rattle.algebra.specs.declared.tree.Tree.{Tree, Tree-F}

-- a node over parts that are whole trees, conditions and expressions
abbrev pub Node : ((A B C D : Type 0) → Type 0) → Type 0
Node T = T Condition Expression SetFunction Tree

-- where a test holds
abbrev pub given : {X : Type 0} → Bool → Option X → Option X
given holds found = if holds then found else None

-- of what is found at each of these, the first
abbrev pub first_found : {X Y : Type 0} → (X → Option Y) → List X → Option Y
first_found find [] = None
first_found find (x ∷ xs) = option_or (find x) (first_found find xs)

-- what is made of a filter
abbrev pub at_filter : (Condition → Tree → Option Tree) → Node Tree-F → Option Tree
at_filter make (Tree-F.Filter condition rows) = make condition rows
at_filter make _ = None

-- of a product
abbrev pub at_product : (Tree → Tree → Option Tree) → Node Tree-F → Option Tree
at_product make (Tree-F.Product left right) = make left right
at_product make _ = None

-- of an inner join
abbrev pub at_inner : (Condition → Tree → Tree → Option Tree) → Node Tree-F → Option Tree
at_inner make (Tree-F.Inner on left right) = make on left right
at_inner make _ = None
