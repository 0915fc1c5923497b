-- How many rows blocks of a table read.
use Rattle.std.proofs.Common.{◌≡◌, ◌<◌, ◌≤◌, ◌+◌, ◌-◌, ◌^◌, length, suc, refl, sym, ap, ◌∙◌, subst, ℕ, false, List, [], ◌∷◌, ◌++◌, map, Option, Some, None, take, drop, arith, Result, Ok, Err, IfOk}
use Rattle.std.proofs.Math.Nat.{min-le_left}
use Rattle.sqlval.specs.Matching.{key_of}
use Rattle.sqlval.specs.Value.{Row}
use Rattle.algebra.specs.declared.tree.Tree.{Tree}
use Rattle.store.specs.Contents.{Entry, rows_of}
use Rattle.store.specs.Indexes.{Position, beyond}
use Rattle.store.specs.View.{counted_on}
use Rattle.places.specs.declared.place.Place.{Place}
use Rattle.places.specs.declared.place.Place.TheVariants as p
use Rattle.places.specs.Left.{Entries}
use Rattle.places.specs.Views.{is_whole, last_number, last_position}
use Rattle.streams.specs.Numbers.{GoOnByNumber, GoOnInIndex, after_number, last_of, number_of}
use Rattle.streams.specs.Reads.{IsReadByNumber, IsReadInIndex, to_read}
use Rattle.streams.proofs.Entries.{none-left, take-drop}
use Rattle.streams.proofs.RangeBlocks.{last-place}
use Rattle.streams.proofs.ReadNodes.{read_ended}

counted-more : (was count more : ℕ) → count ≡ counted_on was more → count ≤ was + more
counted-more was count more is = subst (λ n. n ≤ was + more) (sym is) (min-le_left (was + more) (2 ^ 64 - 1))

pub lengths : {A : Type 0} (xs ys : List A) → length (xs ++ ys) ≡ length xs + length ys
lengths [] ys = omega arith
lengths (x ∷ xs) ys = let rest = lengths xs ys in omega (arith, rest)

pub length-map : {A B : Type 0} (f : A → B) (xs : List A) → length (map f xs) ≡ length xs
length-map f [] = refl
length-map f (x ∷ xs) = ap (λ n. suc n) (length-map f xs)

pub both-lengths : {A : Type 0} (n : ℕ) (xs : List A) → length (take n xs) + length (drop n xs) ≡ length xs
both-lengths n xs = sym (lengths (take n xs) (drop n xs)) ∙ ap (λ zs. length zs) (take-drop n xs)

-- so many rows were counted, of those that were left
taken-read : (found : List Entry) (rows : List Row) (most was count left_new left_old : ℕ)
    → rows ≡ rows_of (take most found) → left_new ≡ length (drop most found) → left_old ≡ length found
    → count ≡ counted_on was (length rows)
    → count + left_new ≤ was + left_old
taken-read found rows most was count left_new left_old r n o counts =
    let more : count ≤ was + length rows = counted-more was count (length rows) counts in
    let same : length rows ≡ length (take most found) = ap (λ (zs : List Row). length zs) r ∙ length-map (λ (e : Entry). e.1) (take most found) in
    let both : length (take most found) + length (drop most found) ≡ length found = both-lengths most found in
    omega (arith, more, same, both, n, o)

pub block-read : (shown : Entries) (tree : Tree) (entries : List Entry) → IsReadByNumber shown tree entries
    → (place next : Place) (rows : List Row) (most was count : ℕ) → is_whole place ≡ false
    → rows ≡ rows_of (take most (after_number (last_number place) entries))
    → to_read shown next tree ≡ length (drop most (after_number (last_number place) entries))
    → count ≡ counted_on was (length rows)
    → count + to_read shown next tree ≤ was + to_read shown place tree
block-read shown tree entries is place next rows most was count goes r n counts =
    taken-read (after_number (last_number place) entries) rows most was count (to_read shown next tree) (to_read shown place tree) r n (is place goes) counts

pub range-read : (columns : List ℕ) (shown : Entries) (tree : Tree) (entries : List Entry) → IsReadInIndex shown tree columns entries
    → (place next : Place) (rows : List Row) (most was count : ℕ) → is_whole place ≡ false
    → rows ≡ rows_of (take most (beyond (last_position place) (Some columns) entries))
    → to_read shown next tree ≡ length (drop most (beyond (last_position place) (Some columns) entries))
    → count ≡ counted_on was (length rows)
    → count + to_read shown next tree ≤ was + to_read shown place tree
range-read columns shown tree entries is place next rows most was count goes r n counts =
    taken-read (beyond (last_position place) (Some columns) entries) rows most was count (to_read shown next tree) (to_read shown place tree) r n (is place goes) counts

-- a table that was read whole, of which all was left
pub whole-read : (found : List Entry) (rows : List Row) (was count left_old : ℕ) → rows ≡ rows_of found → left_old ≡ length found
    → count ≡ counted_on was (length rows) → count ≤ was + left_old
whole-read found rows was count left_old r o counts =
    let more : count ≤ was + length rows = counted-more was count (length rows) counts in
    let same : length rows ≡ length found = ap (λ (zs : List Row). length zs) r ∙ length-map (λ (e : Entry). e.1) found in
    omega (arith, more, same, o)

-- ---- the place behind a block

-- fewer than were asked for are the last
pub last-read : {A : Type 0} (shown : Entries) (tree : Tree) (found : List Entry) (f : Entry → A) (given : List A) (most : ℕ)
    → given ≡ map f (take most found) → length given < most
    → to_read shown (p.Ended None) tree ≡ length (drop most found)
last-read shown tree found f given most same few =
    let fewer : length (take most found) < most =
    subst (λ n. n < most) (ap (λ zs. length zs) same ∙ length-map f (take most found)) few in
    read_ended shown None tree ∙ sym (ap (λ (zs : List Entry). length zs) (none-left most found fewer))

pub number-read : (shown : Entries) (tree : Tree) (entries : List Entry) (most : ℕ) (after : Option ℕ) (numbers : List ℕ) (next : Place)
    → GoOnByNumber entries → IsReadByNumber shown tree entries
    → numbers ≡ map number_of (take most (after_number after entries))
    → is_whole next ≡ false → last_number next ≡ last_of after numbers
    → to_read shown next tree ≡ length (drop most (after_number after entries))
number-read shown tree entries most after numbers next on is same goes last =
    is next goes
    ∙ ap (λ n. length (after_number n entries)) (last ∙ ap (last_of after) same)
    ∙ ap (λ (zs : List Entry). length zs) (on after most)

pub place-read : (columns : List ℕ) (shown : Entries) (tree : Tree) (entries : List Entry) (after : Option Position) (most : ℕ)
    (next : Place) (rows : List Row) (numbers : List ℕ) (row : Row) (number : ℕ)
    → GoOnInIndex columns entries → IsReadInIndex shown tree columns entries
    → rows ≡ rows_of (take most (beyond after (Some columns) entries))
    → numbers ≡ map number_of (take most (beyond after (Some columns) entries))
    → last_of None rows ≡ Some row → last_of None numbers ≡ Some number
    → is_whole next ≡ false → last_position next ≡ Some (key_of columns row, number)
    → to_read shown next tree ≡ length (drop most (beyond after (Some columns) entries))
place-read columns shown tree entries after most next rows numbers row number on is r n last_row last_number goes at =
    let block = take most (beyond after (Some columns) entries) in
    is next goes
    ∙ ap (λ place. length (beyond place (Some columns) entries))
    (at ∙ sym (last-place columns after block row number (ap (last_of None) (sym r) ∙ last_row) (ap (last_of None) (sym n) ∙ last_number)))
    ∙ ap (λ (zs : List Entry). length zs) (on after most)

-- ---- where a node stands above another

pub read-on : {E : Type 0} (entries : Entries) (tree : Tree) (next : Result Place E) (q : Place) (count left_below limit : ℕ)
    → IfOk next (λ place. place ≡ q) → to_read entries q tree ≤ left_below → count + left_below ≤ limit
    → IfOk next (λ place. count + to_read entries place tree ≤ limit)
read-on entries tree (Ok place) q count left_below limit h le more =
    let same : to_read entries place tree ≡ to_read entries q tree = ap (λ (z : Place). to_read entries z tree) h in
    omega (arith, same, le, more)
read-on entries tree (Err error) q count left_below limit h le more = tt
