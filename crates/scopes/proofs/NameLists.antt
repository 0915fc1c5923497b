-- Loops over names.
use Rattle.std.proofs.Common.{◌≡◌, refl, sym, ap, ◌∙◌, ℕ, zero, suc, ◌+◌, ◌<◌, ◌≤◌, Bool, true, false, ◌&&◌, ◌||◌, List, [], ◌∷◌, length, get_or, drop, drop-cons, arith, add-one}
use Rattle.std.specs.Prelude.{not}
use Rattle.std.specs.List.{list_any}
use Rattle.std.proofs.lemmas.List.{drop_all}
use Rattle.sqlval.specs.Schema.{same_name}
use Rattle.typing.specs.Table.{are_distinct}

pub any-true : {X : Type 0} (p : X → Bool) (xs : List X) (i : ℕ) (x : X) → i < length xs → x ≡ get_or xs i x → p x ≡ true → list_any p xs ≡ true
any-true p [] i x below is h = absurd (omega arith)
any-true p (y ∷ ys) zero x below is h = rw (sym is, h) refl
any-true p (y ∷ ys) (suc i) x below is h = rw (any-true p ys i x (omega arith) is h) (either (p y))
  where
    either : (b : Bool) → (b || true) ≡ true
    either true = refl
    either false = refl

pub any-next : {X : Type 0} (p : X → Bool) (xs : List X) (i : ℕ) (x : X) → i < length xs → x ≡ get_or xs i x → p x ≡ false → list_any p (drop (i + 1) xs) ≡ list_any p (drop i xs)
any-next p xs i x below is h =
    let split : drop i xs ≡ x ∷ drop (suc i) xs = drop-cons xs i x below ∙ ap (λ y. y ∷ drop (suc i) xs) (sym is) in
    rw (split, add-one, h) refl

pub any-done : {X : Type 0} (p : X → Bool) (xs : List X) (i : ℕ) → length xs ≤ i → list_any p (drop i xs) ≡ list_any p xs → list_any p xs ≡ false
any-done p xs i past e = let none : drop i xs ≡ [] = drop_all i xs past in sym (rw none at e)

pub distinct-not : (xs : List (List ℕ)) (name : List ℕ) (others : List (List ℕ)) → xs ≡ name ∷ others → list_any (λ other. same_name other name) others ≡ true → are_distinct xs ≡ false
distinct-not xs name others e h = rw (e, h) refl

pub distinct-next : (xs : List (List ℕ)) (name : List ℕ) (others : List (List ℕ)) → xs ≡ name ∷ others → list_any (λ other. same_name other name) others ≡ false → are_distinct xs ≡ are_distinct others
distinct-next xs name others e h = rw (e, h) refl

pub ruleset any_steps = (any-true, any-next, any-done)

pub ruleset distinct_steps = (distinct-not, distinct-next)
