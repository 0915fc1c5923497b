-- When a paged store is sound. Our own choice.
use Rattle.std.specs.Prelude.{◌≡◌, ℕ, Bool, IsTrue, Some}
use Rattle.std.specs.Ordering.{nat_cmp}
use Rattle.std.specs.FinMap.{FinMap, get}
use Rattle.pool.specs.Pages.{PageMap}
use Rattle.pool.specs.Versions.{Versions}
use Rattle.database_versions.specs.Databases.{nothing, IsOwned}

-- The device is honest, and every version is a database of which no page is lost: the last commit,
-- each that a reader found, the pages that the writer has written over the last one, and those at
-- the mark, to which an undo goes back.
pub record IsSound (honest : Bool) (v : Versions) (numbers : FinMap nat_cmp ℕ) (written settled : PageMap) : Type 0 where
  pub device : IsTrue honest
  pub last : IsOwned (v.pages v.last) nothing
  pub readers : (reader number : ℕ) → get numbers reader ≡ Some number → IsOwned (v.pages number) nothing
  pub working : IsOwned (v.pages v.last) written
  pub marked : IsOwned (v.pages v.last) settled
