-- A part with another tree in the place of a subquery may stand for the part, where that tree may
-- stand for the subquery.
use Rattle.algebra.specs.declared.tree.Tree.{Tree}
use Rattle.operator_laws.specs.Same.{Each}
use Rattle.rules.specs.Paths.{Inside, itself, trees_of, list_changed, alone, two, several, no_part, subquery}
use Rattle.rules.specs.Same.{Keeps}
use Rattle.std.proofs.Common.{◌≡◌, refl, sym, subst, ap, ◌∙◌, ℕ, zero, suc, Bool, List, [], ◌∷◌, ◌++◌, true, false, length, Some, arith}
use Rattle.std.proofs.lemmas.Bool.{ltb-true, ltb-false, lt-ltb, le-ltb}
use Rattle.std.specs.Prelude.{◌-◌, nat_lt, if◌then◌else◌, slice_get}

-- whatever relation takes the place of sameness, of the parts of this sort
abbrev pub Good : {X : Type 0} → (X → X → Type 0) → Inside X → Type 0
Good R x = (n : ℕ) (old new : Tree) → slice_get x.trees n ≡ Some old → Keeps new old → R (x.changed n new) x.same

-- a place in two lists
pub split-place : {X : Type 0} (xs ys : List X) (n : ℕ)
    → slice_get (xs ++ ys) n ≡ (if nat_lt n (length xs) then slice_get xs n else slice_get ys (n - length xs))
split-place {X} [] ys n = at (nat_lt n 0) (le-ltb n 0 (omega arith))
  where
    minus : n - 0 ≡ n
    minus = omega arith

    at : (b : Bool) → b ≡ false → slice_get ys n ≡ (if b then slice_get {X = X} [] n else slice_get ys (n - 0))
    at true e = absurd (cc (e))
    at false e = ap (slice_get ys) (sym minus)
split-place (x ∷ xs) ys zero = ap (λ (b : Bool). if b then Some x else slice_get ys (zero - suc (length xs)))
    (sym (lt-ltb zero (suc (length xs)) (omega arith)))
split-place {X} (x ∷ xs) ys (suc n) = split-place xs ys n ∙ at (nat_lt n (length xs)) refl
  where
    minus : suc n - suc (length xs) ≡ n - length xs
    minus = omega arith

    up : (b : Bool) → nat_lt n (length xs) ≡ b → nat_lt (suc n) (suc (length xs)) ≡ b
    up true e = let f = ltb-true n (length xs) e in lt-ltb (suc n) (suc (length xs)) (omega (arith, f))
    up false e = let f = ltb-false n (length xs) e in le-ltb (suc n) (suc (length xs)) (omega (arith, f))

    at : (b : Bool) → nat_lt n (length xs) ≡ b → (if b then slice_get xs n else slice_get ys (n - length xs))
        ≡ (if nat_lt (suc n) (suc (length xs)) then slice_get xs n else slice_get ys (suc n - suc (length xs)))
    at b e = λ i. if sym (up b e) i then slice_get xs n else slice_get ys (sym minus i)

pub good-none : {Z : Type 0} (R : Z → Z → Type 0) (z : Z) → Good R (no_part z)
good-none R z n old new e k = absurd (cc (e))

pub good-subquery : {Z : Type 0} (R : Z → Z → Type 0) (made : Tree → Z) (tree : Tree)
    → ((new old : Tree) → Keeps new old → R (made new) (made old)) → Good R (subquery made tree)
good-subquery R made tree h zero old new e k = subst (λ (z : Tree). R (made new) (made z)) (sym (some-is e))
    (h new old k)
  where
    some-is : {x y : Tree} → Some x ≡ Some y → x ≡ y
    some-is e = cc
good-subquery R made tree h (suc n) old new e k = absurd (cc (e))

pub good-alone : {X Z : Type 0} (R : X → X → Type 0) (S : Z → Z → Type 0) (made : X → Z) (x : Inside X)
    → ((a b : X) → R a b → S (made a) (made b)) → Good R x → Good S (alone made x)
good-alone R S made x h g n old new e k = h (x.changed n new) x.same (g n old new e k)

pub good-two : {X Y Z : Type 0} (R : X → X → Type 0) (S : Y → Y → Type 0) (T : Z → Z → Type 0) (made : X → Y → Z)
    (x : Inside X) (y : Inside Y)
    → ((a b : X) (p q : Y) → R a b → S p q → T (made a p) (made b q)) → ((a : X) → R a a) → ((p : Y) → S p p) → Good R x
    → Good S y → Good T (two made x y)
good-two R S T made x y h r s g k n old new e keeps =
    at (nat_lt n (length x.trees)) (sym (split-place x.trees y.trees n) ∙ e)
  where
    at : (b : Bool) → (if b then slice_get x.trees n else slice_get y.trees (n - length x.trees)) ≡ Some old
        → T (if b then made (x.changed n new) y.same else made x.same (y.changed (n - length x.trees) new))
        (made x.same y.same)
    at true f = h (x.changed n new) x.same y.same y.same (g n old new f keeps) (s y.same)
    at false f = h x.same x.same (y.changed (n - length x.trees) new) y.same (r x.same)
        (k (n - length x.trees) old new f keeps)

-- each of a list
abbrev pub AllGood : {X : Type 0} → (X → X → Type 0) → List (Inside X) → Type 0
AllGood R [] = Unit {0}
AllGood R (x ∷ xs) = Good R x × AllGood R xs

each-same : {X : Type 0} (R : X → X → Type 0) → ((a : X) → R a a) → (xs : List (Inside X))
    → Each R (itself xs) (itself xs)
each-same R r [] = tt
each-same R r (x ∷ xs) = (r x.same, each-same R r xs)

pub list-good : {X : Type 0} (R : X → X → Type 0) → ((a : X) → R a a) → (xs : List (Inside X)) → AllGood R xs
    → (n : ℕ) (old new : Tree) → slice_get (trees_of xs) n ≡ Some old → Keeps new old
    → Each R (list_changed xs n new) (itself xs)
list-good R r [] g n old new e k = tt
list-good {X} R r (x ∷ xs) g n old new e k = at (nat_lt n (length x.trees)) (sym (split-place x.trees (trees_of xs) n)
    ∙ e) (λ m f. list-good R r xs g.1 m old new f k)
  where
    at : (b : Bool) → (if b then slice_get x.trees n else slice_get (trees_of xs) (n - length x.trees)) ≡ Some old
        → ((m : ℕ) → slice_get (trees_of xs) m ≡ Some old → Each R (list_changed xs m new) (itself xs))
        → Each R (if b then x.changed n new ∷ itself xs else x.same ∷ list_changed xs (n - length x.trees) new)
        (x.same ∷ itself xs)
    at true f rest = (g.0 n old new f k, each-same R r xs)
    at false f rest = (r x.same, rest (n - length x.trees) f)

pub good-several : {X Z : Type 0} (R : X → X → Type 0) (S : Z → Z → Type 0) (made : List X → Z) (xs : List (Inside X))
    → ((a b : List X) → Each R a b → S (made a) (made b)) → ((a : X) → R a a)
    → AllGood R xs → Good S (several made xs)
good-several R S made xs h r g n old new e k = h (list_changed xs n new) (itself xs) (list-good R r xs g n old new e k)
