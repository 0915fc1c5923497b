-- The sorted map that a tree stands for, as the list of its entries.
use Rattle.std.specs.Prelude.{◌≡◌, ℕ, List, [], ◌∷◌, filter, Option, Some, None, Bool, true, not, if◌then◌else◌, ⊤}
use Rattle.std.specs.List.{AllByRecursion}
use Rattle.btree_read.specs.declared.entry.Entry.{Entry}
use Rattle.btree_read.specs.declared.entry.Start.{Start}
use Rattle.btree_read.specs.declared.entry.Start.TheVariants.{At, Behind}
use Rattle.btree_read.specs.Nodes.{Key, precedes}

-- keys strictly rise
abbrev pub Ascends : List Entry → Type 0
Ascends [] = ⊤
Ascends (e ∷ es) = AllByRecursion (λ x. precedes e.key x.key ≡ true) es × Ascends es

-- the value of a key
abbrev pub get_of : Key → List Entry → Option (List ℕ)
get_of k [] = None
get_of k (e ∷ es) = if precedes e.key k then get_of k es else if precedes k e.key then None else Some e.value

-- a key is at or behind where a search starts
abbrev pub is_from : Start → Key → Key → Bool
is_from At k key = not (precedes key k)
is_from Behind k key = precedes k key

-- the first entry from there on
abbrev pub first_from : Start → Key → List Entry → Option Entry
first_from start k [] = None
first_from start k (e ∷ es) = if is_from start k e.key then Some e else first_from start k es

-- all entries from there on
abbrev pub from_on : Start → Key → List Entry → List Entry
from_on start k es = filter (λ e. is_from start k e.key) es

-- the entries with one more, or with another value in place of a key's
abbrev pub put : Key → List ℕ → List Entry → List Entry
put k v [] = record { key = k; value = v } ∷ []
put k v (e ∷ es) =
    if precedes e.key k then e ∷ put k v es
    else if precedes k e.key then record { key = k; value = v } ∷ e ∷ es
    else record { key = k; value = v } ∷ es

-- the last key
abbrev pub last_key : List Entry → Option Key
last_key [] = None
last_key (e ∷ []) = Some e.key
last_key (e ∷ f ∷ es) = last_key (f ∷ es)
