-- Which limit of its pages a paged store had reached. Our own choice.
use Rattle.std.specs.Prelude.{◌⊎◌, Bool, IsTrue}
use Rattle.store.specs.declared.error.StoreLimit.{StoreLimit}
use Rattle.store.specs.declared.error.StoreLimit.TheVariants as limit
use Rattle.pool.specs.Pages.{PageMap}
use Rattle.overlay.specs.Undone.{Undone}
use Rattle.database_versions.specs.Databases.{IsDatabase}
use Rattle.database_versions.specs.Undone.{WasCounted}

-- By what is kept of the pages of the change that was refused last, over the last commit. The limit
-- of pages also tells that the numbers of rows end: which numbers there are is known only where the
-- device is honest and the pages written before the mark leave a database, so elsewhere nothing is
-- said of that limit. That a commit would need too many old images is a fact of the pool.
abbrev pub IsCounted : Type 0 → Bool → PageMap → PageMap → Undone → StoreLimit → Type 0
IsCounted Kept honest version settled undone limit.Pages = WasCounted (version 0) undone limit.Pages
    ⊎ (IsTrue honest × IsDatabase version settled → ⊥)
IsCounted Kept honest version settled undone limit.Private = WasCounted (version 0) undone limit.Private
IsCounted Kept honest version settled undone limit.Kept = Kept
IsCounted Kept honest version settled undone limit.Record = ⊥
IsCounted Kept honest version settled undone limit.Key = ⊥
