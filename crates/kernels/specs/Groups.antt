-- Rows by their keys: the groups, by their first rows, and which rows are in each, by their places
-- (ISO/IEC 9075:1992, 7.7).
use Rattle.std.specs.Prelude.{ℕ, ◌+◌, if◌then◌else◌, List, [], ◌∷◌, map}
use Rattle.sqlval.specs.Value.{Row}
use Rattle.denote.specs.Bag.{are_alike, distinct}
use Rattle.kernels.specs.declared.groups.Group.{Group}

-- the places of the keys alike to one, null being alike to null, of keys that stand from a place on
abbrev pub places_from : Row → ℕ → List Row → List ℕ
places_from key at [] = []
places_from key at (other ∷ keys) = if are_alike key other then at ∷ places_from key (at + 1) keys else places_from key (at + 1) keys

-- the group of a key, of rows that have these keys
abbrev pub group_of : List Row → Row → Group
group_of keys key = record { key = key; places = places_from key 0 keys }

-- the groups of rows that have these keys
abbrev pub groups_by_key : List Row → List Group
groups_by_key keys = map (group_of keys) (distinct keys)
