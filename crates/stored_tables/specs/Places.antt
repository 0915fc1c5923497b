-- The places in a text of places. Our own choice.
use Rattle.std.specs.Prelude.{ℕ, ◌+◌, ◌*◌, ◌-◌, ◌==◌, if◌then◌else◌, List, [], ◌∷◌}

-- with the number that was read so far
abbrev pub places_from : ℕ → List ℕ → List ℕ
places_from n [] = n ∷ []
places_from n (c ∷ text) = if c == 44 then n ∷ places_from 0 text else places_from (10 * n + (c - 48)) text

abbrev pub places_in : List ℕ → List ℕ
places_in [] = []
places_in (c ∷ text) = places_from 0 (c ∷ text)
