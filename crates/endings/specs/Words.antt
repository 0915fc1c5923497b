-- The words of a command line. All of this is our own choice.
use Rattle.std.specs.Prelude.{◌==◌, ℕ, Bool, false, List, [], ◌∷◌}

-- an option begins with `-`, whose code is 45
abbrev pub is_option : List ℕ → Bool
is_option [] = false
is_option (code ∷ codes) = code == 45
