-- Readers as they stand in a list. Our own choice.
use Rattle.std.specs.Prelude.{ℕ, ◌==◌, Bool, true, not, ◌&&◌, List, [], ◌∷◌, map, count_by, Option}
use Rattle.std.specs.Option.{is_some}
use Rattle.std.specs.List.{find}
use Rattle.std.specs.Ordering.{nat_cmp}
use Rattle.std.specs.FinMap.{FinMap, from_entries}
use Rattle.snapshot_pins.specs.declared.reader.Reader.{Reader}

-- the first one of this number
abbrev pub reader_of : ℕ → List Reader → Option Reader
reader_of q readers = find (λ r. q == r.reader) readers

-- none stands twice
abbrev pub are_apart : List Reader → Bool
are_apart [] = true
are_apart (r ∷ readers) = not (is_some (reader_of r.reader readers)) && are_apart readers

-- the commit that each reader found
abbrev pub numbers_in : List Reader → FinMap nat_cmp ℕ
numbers_in readers = from_entries (map (λ r. (r.reader, r.number)) readers)

-- how many found this commit
abbrev pub count_at : List Reader → ℕ → ℕ
count_at readers c = count_by (λ r. r.number == c) readers
