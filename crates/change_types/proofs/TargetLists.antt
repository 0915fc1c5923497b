-- The columns that get a value.
use Rattle.std.proofs.Common.{◌≡◌, refl, ℕ, List, [], ◌∷◌, map, Ok}
use Rattle.sqlval.specs.declared.schema.Column.{Column}
use Rattle.typing.specs.Finding.{each}
use Rattle.typing.specs.Insert.{target_named, targets_found, targets_from}

pub targets_none : (columns : List Column) (names : List (List ℕ)) → names ≡ [] → targets_found columns names ≡ Ok (targets_from 0 columns)
targets_none columns names e = rw e refl

pub targets_some : (columns : List Column) (names : List (List ℕ)) → (names ≡ [] → ⊥) → targets_found columns names ≡ each (map (target_named columns) names)
targets_some columns [] n = absurd (n refl)
targets_some columns (name ∷ names) n = refl

pub ruleset target_steps = (targets_none, targets_some)
