-- What rules make of a filter's conjuncts.
use Rattle.std.proofs.Common.{◌≡◌, refl, ap, sym, ◌∙◌, subst, ℕ, Bool, true, false, not, cond, List, [], ◌∷◌, ◌++◌, Option, Some, None}
use Rattle.std.specs.Prelude.{◌||◌, is_some, filter, slice_get, remove}
use Rattle.std.specs.List.{list_any, list_all}
use Rattle.algebra.specs.declared.tree.Condition.{Condition}
use Rattle.algebra.specs.declared.tree.Tree.{Tree}
use Rattle.algebra.specs.declared.tree.Tree.TheVariants as t
use Rattle.algebra.specs.Raising.{is_plain}
use Rattle.rules.specs.Columns.{names_only, in_left, in_right}
use Rattle.rules.specs.Conjuncts.{and_of, others, quiet}
use Rattle.rules.specs.FilterRules.{if_some, not_false, split, tried_first}
use Rattle.rule_steps.proofs.Chosen.{given-is}

-- ---- whether there is one that passes

pub any-some : {X Y : Type 0} (test : X → Bool) (xs : List X) (made : Y)
    → list_any test xs ≡ is_some (if_some (filter test xs) made)
any-some test [] made = refl
any-some {X} {Y} test (x ∷ xs) made = at (test x) (any-some test xs made)
  where
    at : (b : Bool) → list_any test xs ≡ is_some (if_some (filter test xs) made)
        → (b || list_any test xs) ≡ is_some (if_some (cond b (x ∷ filter test xs) (filter test xs)) made)
    at true e = refl
    at false e = e

some-behind : {X Y : Type 0} (ys : List X) (x : X) (zs : List X) (made : Y) → is_some (if_some (ys ++ x ∷ zs) made) ≡ true
some-behind [] x zs made = refl
some-behind (y ∷ ys) x zs made = refl

or-true : (a : Bool) → (a || true) ≡ true
or-true true = refl
or-true false = refl

-- of one sort, or of another among those that are not of it
pub any-side : {X Y : Type 0} (one other : X → Bool) (xs : List X) (made : Y)
    → (list_any one xs || list_any other xs) ≡ is_some (if_some (filter one xs ++ filter other (others one xs)) made)
any-side one other [] made = refl
any-side {X} {Y} one other (x ∷ xs) made = at (one x) (other x) refl (any-side one other xs made)
  where
    below : (b : Bool) → (list_any one xs || list_any other xs) ≡ is_some (if_some (filter one xs ++ filter other (others one xs)) made)
        → (list_any one xs || (b || list_any other xs))
        ≡ is_some (if_some (filter one xs ++ cond b (x ∷ filter other (others one xs)) (filter other (others one xs))) made)
    below true e = or-true (list_any one xs) ∙ sym (some-behind (filter one xs) x (filter other (others one xs)) made)
    below false e = e

    at : (a b : Bool) → other x ≡ b
        → (list_any one xs || list_any other xs) ≡ is_some (if_some (filter one xs ++ filter other (others one xs)) made)
        → ((a || list_any one xs) || (b || list_any other xs))
        ≡ is_some (if_some (cond a (x ∷ filter one xs) (filter one xs)
        ++ filter other (cond (not a) (x ∷ others one xs) (others one xs))) made)
    at true b is e = refl
    at false b is e = below b e ∙ ap (λ (t : Bool). is_some (if_some (filter one xs
        ++ cond t (x ∷ filter other (others one xs)) (filter other (others one xs))) made)) (sym is)

-- ---- what is made

pub split-made : (list : List Condition) (rows : Tree) (first : Condition) (new : Tree) → split list rows ≡ Some new
    → slice_get list 0 ≡ Some first → t.Filter (and_of (remove list 0)) (t.Filter first rows) ≡ new
split-made [] rows first new e f = absurd (cc (e))
split-made (a ∷ []) rows first new e f = absurd (cc (e))
split-made (a ∷ (b ∷ rest)) rows first new e f =
    ap (λ c. t.Filter (and_of (b ∷ rest)) (t.Filter c rows)) (sym (some-is f))
    ∙ given-is (list_all quiet (b ∷ rest)) (t.Filter (and_of (b ∷ rest)) (t.Filter a rows)) new e
  where
    some-is : {x y : Condition} → Some x ≡ Some y → x ≡ y
    some-is e = cc

pub tried-made : (condition : Condition) (list : List Condition) (rows new : Tree)
    → tried_first condition list rows ≡ Some new → (first : Condition) × (rest : List Condition) × (list ≡ first ∷ rest)
    × (t.Filter condition (t.Filter (not_false first) rows) ≡ new)
tried-made condition [] rows new e = absurd (cc (e))
tried-made condition (a ∷ []) rows new e = absurd (cc (e))
tried-made condition (a ∷ (b ∷ rest)) rows new e =
    (a, (b ∷ rest), refl, given-is (is_plain a) (t.Filter condition (t.Filter (not_false a) rows)) new e)
