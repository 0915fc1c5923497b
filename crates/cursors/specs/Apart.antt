-- Declarations in a list, by their names.
use Rattle.std.specs.Prelude.{ℕ, Bool, true, ◌&&◌, is_none, List, [], ◌∷◌, Option}
use Rattle.std.specs.List.{position_from}
use Rattle.sqlval.specs.Schema.{same_name}
use Rattle.denote.specs.Database.{Name}
use Rattle.cursors.specs.declared.held.Declared.{Declared}

-- the place of the first declaration of a name
abbrev pub place_named : Name → List Declared → Option ℕ
place_named name declared = position_from (λ (d : Declared). same_name d.name name) 0 declared

-- no name is declared twice
abbrev pub are_apart : List Declared → Bool
are_apart [] = true
are_apart (d ∷ ds) = is_none (place_named d.name ds) && are_apart ds
