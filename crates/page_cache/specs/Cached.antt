-- What a `PageCache` has.
use Rattle.std.specs.Prelude.{ℕ, List, Option}
use Rattle.page_cache.specs.declared.cache.PageCache.{PageCache}
use Rattle.page_cache.specs.Frames.{AreClean}

-- the pages in memory, with their numbers
abbrev pub frames_in : PageCache → List (ℕ × List ℕ)
frames_in cache = cache.frames.entries

-- how many pages it may keep in memory
abbrev pub room_of : PageCache → ℕ
room_of cache = cache.frames.cap

-- each page in memory is what is shown under its number
abbrev pub IsClean : (ℕ → Option (List ℕ)) → PageCache → Type 0
IsClean shows cache = AreClean shows (frames_in cache)
