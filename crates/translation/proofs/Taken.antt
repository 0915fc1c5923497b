-- A turn of a loop that makes something of the items of a list.
use Rattle.std.proofs.Common.{◌≡◌, refl, sym, ◌∙◌, ap, ℕ, ◌+◌, ◌<◌, List, [], ◌∷◌, ◌++◌, map, length, take, get_or}
use Rattle.std.proofs.Math.Numerals.{add-one}
use Rattle.std.proofs.Math.Seq.{take-suc}
use Rattle.typing.specs.declared.typed.SetOperation.{SetOperation}
use Rattle.algebra.specs.declared.tree.Tree.{Tree}
use Rattle.algebra.specs.declared.tree.Tree.TheVariants as t
use Rattle.algebra.specs.Translated.{set_tree}

one_more : {A B : Type 0} (f : A → B) (xs : List A) (x : A) → map f (xs ++ x ∷ []) ≡ map f xs ++ f x ∷ []
one_more f [] x = refl
one_more f (y ∷ ys) x = ap (λ zs. f y ∷ zs) (one_more f ys x)

pub mapped-suc : {A B : Type 0} (f : A → B) (xs : List A) (at : ℕ) (x : A) → at < length xs → x ≡ get_or xs at x → map f (take (at + 1) xs) ≡ map f (take at xs) ++ f x ∷ []
mapped-suc f xs at x below is = rw (add-one, take-suc xs at x, ← is) (one_more f (take at xs) x)

-- what was made, and what is made of the next item
pub taken : {A B : Type 0} (f : A → B) (xs : List A) (at : ℕ) (x : A) {made next : List B} → at < length xs → x ≡ get_or xs at x → made ≡ map f (take at xs)
    → next ≡ made ++ f x ∷ [] → next ≡ map f (take (at + 1) xs)
taken f xs at x below is before more = rw (more, before) (sym (mapped-suc f xs at x below is))

set_tree-more : (left : Tree) (others : List (SetOperation × Tree)) (other : SetOperation × Tree) → set_tree left (others ++ other ∷ []) ≡ t.Set other.0 (set_tree left others) other.1
set_tree-more left [] other = refl
set_tree-more left (x ∷ others) other = set_tree-more (t.Set x.0 left x.1) others other

-- a chain of set operators, and its next operand
pub chained : {A : Type 0} (f : A → SetOperation × Tree) (left : Tree) (xs : List A) (at : ℕ) (x : A) {tree next : Tree} → at < length xs → x ≡ get_or xs at x
    → tree ≡ set_tree left (map f (take at xs)) → next ≡ t.Set (f x).0 tree (f x).1 → next ≡ set_tree left (map f (take (at + 1) xs))
chained f left xs at x {tree} below is before more =
    more ∙ ap (λ y. t.Set (f x).0 y (f x).1) before ∙ sym (set_tree-more left (map f (take at xs)) (f x)) ∙ ap (set_tree left) (sym (mapped-suc f xs at x below is))
