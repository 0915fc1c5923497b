-- What is told of a change that was refused and undone. Our own choice.
use Rattle.std.specs.Prelude.{ℕ, List, Option}
use Rattle.store.specs.declared.error.StoreLimit.{StoreLimit}
use Rattle.store.specs.declared.error.StoreLimit.TheVariants as limit
use Rattle.page_space.specs.declared.error.SpaceError.TheVariants as fault
use Rattle.overlay.specs.Undone.{Undone, WasAtLimit}

-- the pages that were undone last had reached the limit that a store names, over a version with
-- this page 0
abbrev pub WasCounted : Option (List ℕ) → Undone → StoreLimit → Type 0
WasCounted first undone limit.Pages = WasAtLimit first undone fault.Pages
WasCounted first undone limit.Private = WasAtLimit first undone fault.Private
WasCounted first undone limit.Kept = ⊥
WasCounted first undone limit.Record = ⊥
WasCounted first undone limit.Key = ⊥
