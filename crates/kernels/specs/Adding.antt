-- Groups as they grow, row by row.
use Rattle.std.specs.Prelude.{◌≡◌, ℕ, ◌+◌, zero, suc, if◌then◌else◌, List, [], ◌∷◌, ◌++◌, Option, Some, None}
use Rattle.std.specs.Option.{option_map}
use Rattle.std.specs.BTreeMap.{BTreeMap, get}
use Rattle.sqlval.specs.Value.{Row}
use Rattle.denote.specs.Bag.{are_alike}
use Rattle.kernels.specs.declared.groups.Group.{Group}
use Rattle.kernels.specs.declared.row_key.RowKey.{RowKey}
use Rattle.kernels.specs.Counts.{key_order, IsKey}

-- a group of one row
abbrev pub new_group : Row → ℕ → Group
new_group key place = record { key = key; places = place ∷ [] }

-- one row more in a group
abbrev pub with_place : ℕ → Group → Group
with_place place group = record { key = group.key; places = group.places ++ place ∷ [] }

-- one row more in the group of this number
abbrev pub put_at : ℕ → ℕ → List Group → List Group
put_at at place [] = []
put_at zero place (group ∷ groups) = with_place place group ∷ groups
put_at (suc at) place (group ∷ groups) = group ∷ put_at at place groups

-- one row more in the first group of its key, or in a new one
abbrev pub add_place : Row → ℕ → List Group → List Group
add_place key place [] = new_group key place ∷ []
add_place key place (group ∷ groups) = if are_alike key group.key then with_place place group ∷ groups else group ∷ add_place key place groups

-- rows that have these keys, from a place on
abbrev pub add_places : ℕ → List Group → List Row → List Group
add_places at groups [] = groups
add_places at groups (key ∷ keys) = add_places (at + 1) (add_place key at groups) keys

-- the number of the first group of a key
abbrev pub number_of : Row → List Group → Option ℕ
number_of key [] = None
number_of key (group ∷ groups) = if are_alike key group.key then Some 0 else option_map (λ n. suc n) (number_of key groups)

-- a map has the numbers of these groups
pub record Numbers (map : BTreeMap RowKey ℕ) (groups : List Group) : Type 0 where
  pub numbers : (key : RowKey) → IsKey key → get key_order map key ≡ number_of key.values.now groups
