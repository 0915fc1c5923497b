-- Which pages of a version with a transaction's changes are in use. Our own choice.
use Rattle.std.specs.Prelude.{◌≡◌, ℕ, ◌<◌, ◌≤◌, ◌==◌, ◌&&◌, nat_lt, Bool, true, false, List, Option, None, Some, IsSome, slice_index, if◌then◌else◌, ⊤}
use Rattle.std.specs.Option.{is_some}
use Rattle.pagefile.specs.Number.{number_at}
use Rattle.pool.specs.Pages.{PageMap, over}

-- a page that is not of the kind free
abbrev pub unless_free : Option (List ℕ) → Option (List ℕ)
unless_free None = None
unless_free (Some page) = if slice_index page 0 == 3 then None else Some page

-- the pages that are not free, of the numbers from 1 to 65,535
abbrev pub not_free : PageMap → PageMap
not_free pages n = if nat_lt 0 n && nat_lt n 65536 then unless_free (pages n) else None

-- whether a number is below the page count of page 0
abbrev pub is_counted : Option (List ℕ) → ℕ → Bool
is_counted None n = false
is_counted (Some first) n = nat_lt n (number_at first 8)

-- the pages in use: below the page count, and not free. Of a version whose page 0 is not known
-- nothing is known but what the transaction has written.
unfoldable pub in_use : PageMap → PageMap → PageMap
in_use version written n =
    if is_some (version 0) then (if is_counted (over written version 0) n then not_free (over written version) n else None) else not_free written n
