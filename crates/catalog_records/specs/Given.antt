-- What reading gives where the records are those of something.
use Rattle.std.specs.Prelude.{◌≡◌, List, Result, Ok, Err}
use Rattle.std.specs.Borrow.{Bor}
use Rattle.catalog_records.specs.declared.read_error.ReadError.{ReadError}
use Rattle.catalog_records.specs.declared.read_error.ReadError.TheVariants.{Memory}

-- just this, or else memory was refused
abbrev pub Gives : {A : Type 0} → Result A ReadError → A → Type 0
Gives (Ok given) x = given ≡ x
Gives (Err error) x = error ≡ Memory

-- just this, and what is left behind it; or else memory was refused
abbrev pub GivesFront : {A B : Type 0} → Result (A × Bor (List B)) ReadError → A → List B → Type 0
GivesFront (Ok given) x rest = (given.0 ≡ x) × (given.1.now ≡ rest)
GivesFront (Err error) x rest = error ≡ Memory
