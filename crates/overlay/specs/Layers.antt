-- Counts of pages, and lists of their numbers.
use Rattle.std.specs.Prelude.{◌≡◌, ℕ, zero, suc, ◌+◌, ◌^◌, ◌≤◌, ◌==◌, Bool, true, List, IsSome, if◌then◌else◌, ⊤}
use Rattle.std.specs.Option.{is_some}
use Rattle.std.specs.List.{list_any}
use Rattle.page_space.specs.declared.error.SpaceError.{SpaceError}
use Rattle.page_space.specs.declared.error.SpaceError.TheVariants.{Memory, Disk, Damaged, Pages, Private}
use Rattle.pool.specs.Pages.{PageMap}

-- how many of the numbers below a bound have a page
unfoldable pub count_below : ℕ → PageMap → ℕ
count_below zero pages = 0
count_below (suc n) pages = count_below n pages + (if is_some (pages n) then 1 else 0)

-- how many pages there are; a page's number has 32 bits
abbrev pub size_of : PageMap → ℕ
size_of pages = count_below (2 ^ 32) pages

-- the list has the number of each page
abbrev pub AreListed : PageMap → List ℕ → Type 0
AreListed pages numbers = (n : ℕ) → IsSome (pages n) → list_any (λ k. k == n) numbers ≡ true

-- why a page was not kept among so many private pages: for memory, or since there are 1,024
abbrev pub IsNotKept : ℕ → SpaceError → Type 0
IsNotKept size Memory = ⊤
IsNotKept size Disk = ⊥
IsNotKept size Damaged = ⊥
IsNotKept size Pages = ⊥
IsNotKept size Private = 1024 ≤ size
