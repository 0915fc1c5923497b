-- Pages in use, and why a call on them may be refused. Our own choice.
use Rattle.std.specs.Prelude.{◌≡◌, ℕ, ◌<◌, List, Option, None, IsSome, ⊤}
use Rattle.disk.specs.Refused.{CountHasRisen}
use Rattle.page_space.specs.declared.error.SpaceError.{SpaceError}
use Rattle.page_space.specs.declared.error.SpaceError.TheVariants.{Memory, Disk, Damaged, Pages, Private}

-- the bytes of each page in use
abbrev pub PageMap : Type 0
PageMap = ℕ → Option (List ℕ)

-- a page that was not in use, and is now
pub record IsFresh (old new : PageMap) (page : ℕ) : Type 0 where
  pub some : 0 < page
  pub free : old page ≡ None
  pub used : IsSome (new page)

-- why a read may be refused, with what is known where it was for damage and with the counts of
-- refused device calls before and after: never at a limit
abbrev pub ReadRefused : Type 0 → ℕ → ℕ → SpaceError → Type 0
ReadRefused Harm before after Memory = ⊤
ReadRefused Harm before after Disk = CountHasRisen before after
ReadRefused Harm before after Damaged = Harm
ReadRefused Harm before after Pages = ⊥
ReadRefused Harm before after Private = ⊥

-- why a change may be refused: also at a limit, where the space is at it
abbrev pub ChangeRefused : (SpaceError → Type 0) → Type 0 → ℕ → ℕ → SpaceError → Type 0
ChangeRefused AtLimit Harm before after Memory = ⊤
ChangeRefused AtLimit Harm before after Disk = CountHasRisen before after
ChangeRefused AtLimit Harm before after Damaged = Harm
ChangeRefused AtLimit Harm before after Pages = AtLimit Pages
ChangeRefused AtLimit Harm before after Private = AtLimit Private
