-- Values as rows of one column: alike as rows where they are alike as values.
use Rattle.std.proofs.Common.{◌≡◌, refl, ap, ◌∙◌, Bool, true, false, not, ◌&&◌, if◌then◌else◌, List, [], ◌∷◌, map}
use Rattle.std.specs.Prelude.{filter}
use Rattle.sqlval.specs.declared.value.Value.{Value}
use Rattle.sqlval.specs.Value.{Row}
use Rattle.denote.specs.Bag.{is_alike, are_alike, distinct, distinct_by}
use Rattle.denote.specs.Expression.{cell}

abbrev single : Value → Row
single x = x ∷ []

singles-others : (x : Value) (xs : List Value) → filter (λ row. not (are_alike (single x) row)) (map single xs) ≡ map single (filter (λ y. not (is_alike x y)) xs)
singles-others x [] = refl
singles-others x (y ∷ ys) = go (is_alike x y) (singles-others x ys)
  where
    go : (b : Bool) → filter (λ row. not (are_alike (single x) row)) (map single ys) ≡ map single (filter (λ z. not (is_alike x z)) ys)
        → (if not (b && true) then single y ∷ filter (λ row. not (are_alike (single x) row)) (map single ys) else filter (λ row. not (are_alike (single x) row)) (map single ys))
        ≡ map single (if not b then y ∷ filter (λ z. not (is_alike x z)) ys else filter (λ z. not (is_alike x z)) ys)
    go true e = e
    go false e = ap (λ zs. single y ∷ zs) e

distinct-singles : (xs : List Value) → distinct (map single xs) ≡ map single (distinct_by is_alike xs)
distinct-singles [] = refl
distinct-singles (x ∷ xs) = ap (λ zs. single x ∷ filter (λ row. not (are_alike (single x) row)) zs) (distinct-singles xs) ∙ ap (λ zs. single x ∷ zs) (singles-others x (distinct_by is_alike xs))

firsts-singles : (xs : List Value) → map (λ (row : Row). cell row 0) (map single xs) ≡ xs
firsts-singles [] = refl
firsts-singles (x ∷ xs) = ap (λ zs. x ∷ zs) (firsts-singles xs)

pub singles-distinct : (xs : List Value) → map (λ row. cell row 0) (distinct (map (λ x. x ∷ []) xs)) ≡ distinct_by is_alike xs
singles-distinct xs = ap (map (λ (row : Row). cell row 0)) (distinct-singles xs) ∙ firsts-singles (distinct_by is_alike xs)
