-- A text of codes cut at its first comma.
use Rattle.std.specs.Prelude.{◌≡◌, ◌≢◌, ℕ, ◌++◌, List, [], ◌∷◌}
use Rattle.std.specs.List.{AllByRecursion}

-- nothing, or a comma and what follows
abbrev pub IsAtComma : List ℕ → Type 0
IsAtComma [] = Unit {0}
IsAtComma (code ∷ codes) = code ≡ 44

pub record IsCut (text digits rest : List ℕ) : Type 0 where
  pub whole : digits ++ rest ≡ text
  pub none : AllByRecursion (λ code. code ≢ 44) digits
  pub comma : IsAtComma rest
