-- Lists whose items are related one by one.
use Rattle.std.specs.Prelude.{List, [], ◌∷◌}

-- the two have one length, and each item of one is related to that at its place in the other
abbrev pub ArePaired : {A X : Type 0} → (A → X → Type 0) → List A → List X → Type 0
ArePaired P [] [] = Unit {0}
ArePaired P [] (x ∷ xs) = ⊥
ArePaired P (a ∷ others) [] = ⊥
ArePaired P (a ∷ others) (x ∷ xs) = P a x × ArePaired P others xs
