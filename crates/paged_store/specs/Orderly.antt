-- What always holds of the parts of a paged store. Our own choice.
use Rattle.std.specs.Prelude.{◌≡◌, ℕ, Bool, IsTrue, IsSome}
use Rattle.pool.specs.Pages.{PageMap}
use Rattle.pool.specs.Versions.{Versions}
use Rattle.database_versions.specs.Databases.{IsDatabase}
use Rattle.snapshot_pins.specs.declared.readers.Readers.{Readers}
use Rattle.snapshot_pins.specs.Pinned.{ArePinned}

-- the readers hold their pins, the commits are counted, and over an honest device the last one has
-- a page 0
pub record IsOrderly (honest : Bool) (v : Versions) (readers : Readers) (commits : ℕ) : Type 0 where
  pub pinned : ArePinned readers v.pins
  pub counted : commits ≡ v.last
  pub first : IsTrue honest → IsSome (v.pages v.last 0)

-- where the pages written before the mark leave a database, all written pages do
abbrev pub IsSteady : PageMap → PageMap → PageMap → Type 0
IsSteady version written settled = IsDatabase version settled → ∥ IsDatabase version written ∥₁
