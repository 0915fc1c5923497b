-- What a paged store shows. Our own choice.
use Rattle.std.specs.Prelude.{ℕ, Bool, map}
use Rattle.std.specs.Ordering.{nat_cmp}
use Rattle.std.specs.FinMap.{FinMap, entries, from_entries}
use Rattle.store.specs.Stored.{Found, Stored}
use Rattle.pool.specs.Pages.{PageMap}
use Rattle.pool.specs.Versions.{Versions}
use Rattle.database_versions.specs.Databases.{nothing, known_contents}

-- what the reader of a commit found
abbrev pub found_at : Bool → Versions → ℕ → Found
found_at honest v number = record { number = number; contents = known_contents honest (v.pages number) nothing }

-- what each reader found, by the commits that they found
abbrev pub found_by : (ℕ → Found) → FinMap nat_cmp ℕ → FinMap nat_cmp Found
found_by found numbers = from_entries (map (λ (e : ℕ × ℕ). (e.0, found e.1)) (entries numbers))

-- the versions of a last commit with these pages: it alone, with all written pages over it, and
-- with those written before the mark
abbrev pub versions : Bool → ℕ → PageMap → FinMap nat_cmp Found → PageMap → PageMap → Stored
versions honest commits newest readers written settled = record {
  commits = commits;
  last = known_contents honest newest nothing;
  readers = readers;
  working = known_contents honest newest written;
  marked = known_contents honest newest settled;
}

abbrev pub stored : Bool → Versions → FinMap nat_cmp ℕ → PageMap → PageMap → Stored
stored honest v numbers written settled = versions honest v.last (v.pages v.last) (found_by (found_at honest v) numbers) written settled
