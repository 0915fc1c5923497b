-- What is made by a rule, taken apart: at which node, and what was found there.
use Rattle.algebra.specs.declared.tree.Condition.{Condition}
use Rattle.algebra.specs.declared.tree.Expression.{Expression, the_lemmas}
use Rattle.algebra.specs.declared.tree.StoredTable.{StoredTable}
use Rattle.algebra.specs.declared.tree.Tree.{Tree, Tree-F, roll-Tree, out-Tree, roll-out-Tree}
use Rattle.rules.specs.FilterRules.{if_some}
use Rattle.rules.specs.Nodes.{Node, given, first_found, at_filter, at_product, at_inner}
use Rattle.rules.specs.Same.{Keeps}
use Rattle.rules.specs.Width.{width_of_tree, added}
use Rattle.same_laws.proofs.Composed.{keeps-trans}
use Rattle.std.proofs.Common.{◌≡◌, refl, subst, ℕ, Bool, List, [], ◌∷◌, Option, true, false, Some, None, ◌⊎◌, inl, inr, rules}
use Rattle.std.specs.Option.{option_map, option_or}
use Rattle.std.specs.Prelude.{option_and_then}
use Rattle.typing.specs.declared.typed.OrderKey.{OrderKey}
use Rattle.algebra.specs.declared.tree.Tree.TheVariants as t

-- ---- what is found

pub some-is : {X : Type 0} {x y : X} → Some x ≡ Some y → x ≡ y
some-is e = cc

pub given-found : {X : Type 0} (b : Bool) (found : Option X) (x : X) → given b found ≡ Some x
    → (b ≡ true) × (found ≡ Some x)
given-found true found x e = (refl, e)
given-found false found x e = absurd (cc (e))

pub then-found : {X Y : Type 0} (f : X → Option Y) (found : Option X) (y : Y) → option_and_then f found ≡ Some y
    → (x : X) × (found ≡ Some x) × (f x ≡ Some y)
then-found f None y e = absurd (cc (e))
then-found f (Some x) y e = (x, refl, e)

pub map-found : {X Y : Type 0} (f : X → Y) (found : Option X) (y : Y) → option_map f found ≡ Some y
    → (x : X) × (found ≡ Some x) × (f x ≡ y)
map-found f None y e = absurd (cc (e))
map-found f (Some x) y e = (x, refl, some-is e)

pub or-found : {X : Type 0} (one other : Option X) (x : X) → option_or one other ≡ Some x
    → (one ≡ Some x) ⊎ (other ≡ Some x)
or-found None other x e = inr e
or-found (Some y) other x e = inl e

pub first-is : {X Y : Type 0} (find : X → Option Y) (xs : List X) (y : Y) → first_found find xs ≡ Some y
    → (x : X) × (find x ≡ Some y)
first-is find [] y e = absurd (cc (e))
first-is find (x ∷ xs) y e =
    elim (or-found (find x) (first_found find xs) y e) [ inl h ↦ (x, h) | inr h ↦ first-is find xs y h ]

pub some-made : {X Y : Type 0} (xs : List X) (made y : Y) → if_some xs made ≡ Some y → made ≡ y
some-made [] made y e = absurd (cc (e))
some-made (x ∷ xs) made y e = some-is e

-- ---- nodes: a variant is what is rolled of its layer

pub scan-rolled : (table : StoredTable) → t.Scan table ≡ roll-Tree (Tree-F.Scan table)
unfolding roll-Tree denote.Hole.Carrier.roll
scan-rolled table = refl

pub filter-rolled : (condition : Condition) (rows : Tree)
    → t.Filter condition rows ≡ roll-Tree (Tree-F.Filter condition rows)
unfolding roll-Tree denote.Hole.Carrier.roll
filter-rolled condition rows = refl

pub product-rolled : (left right : Tree) → t.Product left right ≡ roll-Tree (Tree-F.Product left right)
unfolding roll-Tree denote.Hole.Carrier.roll
product-rolled left right = refl

pub inner-rolled : (on : Condition) (left right : Tree) → t.Inner on left right ≡ roll-Tree (Tree-F.Inner on left right)
unfolding roll-Tree denote.Hole.Carrier.roll
inner-rolled on left right = refl

pub left-rolled : (on : Condition) (left right : Tree) (width : ℕ)
    → t.Left on left right width ≡ roll-Tree (Tree-F.Left on left right width)
unfolding roll-Tree denote.Hole.Carrier.roll
left-rolled on left right width = refl

pub project-rolled : (items : List Expression) (rows : Tree)
    → t.Project items rows ≡ roll-Tree (Tree-F.Project items rows)
unfolding roll-Tree denote.Hole.Carrier.roll
project-rolled items rows = refl

pub distinct-rolled : (rows : Tree) → t.Distinct rows ≡ roll-Tree (Tree-F.Distinct rows)
unfolding roll-Tree denote.Hole.Carrier.roll
distinct-rolled rows = refl

pub sort-rolled : (by : List OrderKey) (rows : Tree) → t.Sort by rows ≡ roll-Tree (Tree-F.Sort by rows)
unfolding roll-Tree denote.Hole.Carrier.roll
sort-rolled by rows = refl

-- ---- what holds of each node at which something is made holds of the tree at which it is

module _ (P : Tree → Type 0) (new : Tree) where
  -- by the layer of a tree
  pub node-found : (make : Node Tree-F → Option Tree) (tree : Tree) → make (out-Tree tree) ≡ Some new
      → ((d : Node Tree-F) → make d ≡ Some new → P (roll-Tree d)) → P tree
  node-found make tree e h = subst P (roll-out-Tree tree) (h (out-Tree tree) e)

  pub filter-found : (make : Condition → Tree → Option Tree) (tree : Tree) → at_filter make (out-Tree tree) ≡ Some new
      → ((condition : Condition) (rows : Tree) → make condition rows ≡ Some new → P (t.Filter condition rows)) → P tree
  filter-found make tree e h = subst P (roll-out-Tree tree) (at (out-Tree tree) e)
    where
      at : (d : Node Tree-F) → at_filter make d ≡ Some new → P (roll-Tree d)
      at (Tree-F.Filter condition rows) f = subst P (filter-rolled condition rows) (h condition rows f)
      at _ f = absurd (cc (f))

  pub product-found : (make : Tree → Tree → Option Tree) (tree : Tree) → at_product make (out-Tree tree) ≡ Some new
      → ((left right : Tree) → make left right ≡ Some new → P (t.Product left right)) → P tree
  product-found make tree e h = subst P (roll-out-Tree tree) (at (out-Tree tree) e)
    where
      at : (d : Node Tree-F) → at_product make d ≡ Some new → P (roll-Tree d)
      at (Tree-F.Product left right) f = subst P (product-rolled left right) (h left right f)
      at _ f = absurd (cc (f))

  pub inner-found : (make : Condition → Tree → Tree → Option Tree) (tree : Tree)
      → at_inner make (out-Tree tree) ≡ Some new
      → ((on : Condition) (left right : Tree) → make on left right ≡ Some new → P (t.Inner on left right)) → P tree
  inner-found make tree e h = subst P (roll-out-Tree tree) (at (out-Tree tree) e)
    where
      at : (d : Node Tree-F) → at_inner make d ≡ Some new → P (roll-Tree d)
      at (Tree-F.Inner on left right) f = subst P (inner-rolled on left right) (h on left right f)
      at _ f = absurd (cc (f))

-- ---- one step behind another

pub chain : {x y z : Tree} → Keeps z y → Keeps y x → Keeps z x
chain {x} {y} {z} h k = keeps-trans x y z h k

-- ---- widths of nodes

pub width-filter : (condition : Condition) (rows : Tree) → width_of_tree (t.Filter condition rows) ≡ width_of_tree rows
unfolding width_of_tree
width-filter condition rows = search (rules, the_lemmas)

pub width-product : (left right : Tree)
    → width_of_tree (t.Product left right) ≡ added (width_of_tree left) (width_of_tree right)
unfolding width_of_tree
width-product left right = search (rules, the_lemmas)
