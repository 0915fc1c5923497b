-- What is left of a device on which no store was opened.
use Rattle.std.specs.Prelude.{◌⊎◌}
use Rattle.denote.specs.Database.{Database}

-- the database that was saved on it; or, where it was empty, what is opened as empty or is refused
-- as damaged
abbrev pub Stays : {D : Type 0} → (D → Database → Type 0) → (D → Type 0) → (D → Type 0) → D → D → Database → Type 0
Stays saved is_new is_begun device back db = saved back db ⊎ (is_new device × is_begun back)
