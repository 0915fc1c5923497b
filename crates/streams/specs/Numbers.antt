-- Blocks of a table's entries: behind a number, and behind a place in an index.
use Rattle.std.specs.Prelude.{◌≡◌, ℕ, false, List, [], ◌∷◌, map, filter, take, drop, Option, Some}
use Rattle.sqlval.specs.Matching.{key_of}
use Rattle.algebra.specs.declared.tree.Tree.{Tree}
use Rattle.denote.specs.Outcome.{Outcome}
use Rattle.store.specs.Contents.{Entry}
use Rattle.store.specs.Indexes.{Position, beyond, is_after}
use Rattle.places.specs.declared.place.Place.{Place}
use Rattle.places.specs.Left.{Entries, left}
use Rattle.places.specs.Views.{is_whole, last_number, last_position}

abbrev pub number_of : Entry → ℕ
number_of entry = entry.0

-- the last of these, or what stands before them
abbrev pub last_of : {A : Type 0} → Option A → List A → Option A
last_of after [] = after
last_of after (x ∷ xs) = last_of (Some x) xs

-- ---- in the order of numbers

abbrev pub after_number : Option ℕ → List Entry → List Entry
after_number after entries = filter (λ (e : Entry). is_after after e.0) entries

-- behind the last of a block come those that the block left
abbrev pub GoOnByNumber : List Entry → Type 0
GoOnByNumber entries = (after : Option ℕ) (most : ℕ)
    → after_number (last_of after (map number_of (take most (after_number after entries)))) entries
    ≡ drop most (after_number after entries)

-- what is left of a tree is made of the entries above the number of its place
abbrev pub IsByNumber : Entries → Tree → List Entry → (List Entry → Outcome) → Type 0
IsByNumber shown tree entries made = (place : Place) → is_whole place ≡ false
    → left shown place tree ≡ made (after_number (last_number place) entries)

-- ---- in the order of an index

abbrev pub place_in : List ℕ → Entry → Position
place_in columns entry = (key_of columns entry.1, entry.0)

abbrev pub GoOnInIndex : List ℕ → List Entry → Type 0
GoOnInIndex columns entries = (after : Option Position) (most : ℕ)
    → beyond (last_of after (map (place_in columns) (take most (beyond after (Some columns) entries)))) (Some columns)
    entries
    ≡ drop most (beyond after (Some columns) entries)

abbrev pub IsInIndex : Entries → Tree → List ℕ → List Entry → (List Entry → Outcome) → Type 0
IsInIndex shown tree columns entries made = (place : Place) → is_whole place ≡ false
    → left shown place tree ≡ made (beyond (last_position place) (Some columns) entries)
