-- The codes of a text from what is printed between its quotes.
use Rattle.std.specs.Prelude.{ℕ, List, [], ◌∷◌, ◌++◌, Bool, true, false, Option, Some, None, if◌then◌else◌, ◌==◌}

-- each pair of quotes is one; a quote alone is none
abbrev pub undoubled : Bool → List ℕ → List ℕ → Option (List ℕ)
undoubled false done [] = Some done
undoubled true done [] = None
undoubled false done (c ∷ rest) = if c == 39 then undoubled true done rest else undoubled false (done ++ c ∷ []) rest
undoubled true done (c ∷ rest) = if c == 39 then undoubled false (done ++ c ∷ []) rest else None
