-- Places of columns as a text. Our own choice.
use Rattle.std.specs.Prelude.{ℕ, List, [], ◌∷◌, ◌++◌, decimal}
use Rattle.std.specs.List.{flat_map}

-- behind a comma
abbrev pub next_place : ℕ → List ℕ
next_place place = 44 ∷ decimal place

-- in decimal, each but the first behind a comma
abbrev pub places_text : List ℕ → List ℕ
places_text [] = []
places_text (place ∷ places) = decimal place ++ flat_map next_place places
