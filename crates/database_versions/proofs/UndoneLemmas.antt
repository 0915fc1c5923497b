-- The limit that a change had reached, once it is undone.
use Rattle.store.specs.declared.error.StoreLimit.{StoreLimit}
use Rattle.store.specs.declared.error.StoreLimit.TheVariants as limit
use Rattle.page_space.specs.declared.error.SpaceError.TheVariants as fault
use Rattle.pool.specs.Pages.{PageMap}
use Rattle.overlay.specs.Undone.{Undone, AreUndone}
use Rattle.overlay.proofs.UndoneLemmas.{was_at_limit}
use Rattle.database_versions.specs.Refusals.{IsCounted}
use Rattle.database_versions.specs.Undone.{WasCounted}

pub was_counted : (version written : PageMap) (undone : Undone) (l : StoreLimit) → AreUndone written undone → IsCounted version written l → WasCounted (version 0) undone l
was_counted version written undone limit.Pages u h = was_at_limit written (version 0) undone fault.Pages u h
was_counted version written undone limit.Private u h = was_at_limit written (version 0) undone fault.Private u h
was_counted version written undone limit.Kept u h = h
was_counted version written undone limit.Record u h = h
was_counted version written undone limit.Key u h = h
