-- Nodes that read one table, and the blocks that a reading gives.
use Rattle.std.proofs.Common.{◌≡◌, ◌<◌, length, suc, refl, sym, ap, ◌∙◌, subst, ℕ, Bool, true, false, List, [], ◌∷◌, ◌++◌, map, Option, Some, None, take, drop, Contains}
use Rattle.std.specs.Prelude.{filter, if◌then◌else◌}
use Rattle.std.specs.FinMap.{get}
use Rattle.sqlval.specs.declared.value.Value.{Value}
use Rattle.sqlval.specs.Matching.{matches, rows_matching}
use Rattle.sqlval.specs.Value.{Row}
use Rattle.algebra.specs.declared.tree.StoredTable.{StoredTable}
use Rattle.algebra.specs.declared.tree.Tree.{Tree}
use Rattle.algebra.specs.declared.tree.Tree.TheVariants as t
use Rattle.algebra.specs.Listing.{listed_rows}
use Rattle.denote.specs.Outcome.{Outcome}
use Rattle.store.specs.Contents as stored
use Rattle.store.specs.Contents.{Entry, rows_of}
use Rattle.store.specs.Indexes.{columns_at, entries_of}
use Rattle.store.specs.View.{Shown, Keeps, table_named}
use Rattle.places.specs.declared.place.Place.{Place}
use Rattle.places.specs.declared.place.Place.TheVariants as p
use Rattle.places.specs.Indexes.{AreIndexed, index_place}
use Rattle.places.specs.Left.{Entries, before, entries_in, left, no_more}
use Rattle.places.specs.Views.{is_whole, last_number}
use Rattle.places.proofs.IndexNodes.{sought_seek}
use Rattle.places.proofs.LeftNodes.{left_scan, left_seek}
use Rattle.places.proofs.Rising.{Rising, matching_after, rising-filter, rising-of}
use Rattle.places.proofs.Sought.{found_columns}
use Rattle.places.proofs.Wholes.{left_ended}
use Rattle.streams.specs.Numbers.{GoOnByNumber, IsByNumber, after_number, last_of, number_of}
use Rattle.streams.proofs.Entries.{goes-on, none-left, rows-block, take-drop}
use Rattle.std.proofs.lemmas.List.Elements.{Contains-push}

abbrev pub plain : List Entry → Outcome
plain entries = listed_rows (rows_of entries)

abbrev pub by_key : List ℕ → List Value → List Entry → Outcome
by_key columns key entries = listed_rows (rows_matching columns key (rows_of entries))

abbrev pub matched : List ℕ → List Value → List Entry → List Entry
matched columns key entries = filter (λ (e : Entry). matches columns key e.1) entries

-- every call shows the same entries
pub entries-stay : (a b : Shown) → Keeps a b → entries_in b ≡ entries_in a
entries-stay a b h = λ i name. entries_of (get (h.contents i) name)

pub scan-by-number : (shown : Entries) (table : StoredTable) → IsByNumber shown (t.Scan table) (shown table.name) plain
scan-by-number shown table place goes = left_scan shown place table goes

pub seek-by-number : (shown : Entries) (table : StoredTable) (columns : List ℕ) (key : List Value)
    → IsByNumber shown (t.Seek table columns key) (matched columns key (shown table.name)) plain
seek-by-number shown table columns key place goes = left_seek shown place table columns key goes
    ∙ ap listed_rows (matching_after columns key (last_number place) (shown table.name))

pub seek-by-table : (shown : Entries) (table : StoredTable) (columns : List ℕ) (key : List Value)
    → IsByNumber shown (t.Seek table columns key) (shown table.name) (by_key columns key)
seek-by-table shown table columns key place goes = left_seek shown place table columns key goes

-- a block that was given, and a place behind it
pub block-given : (shown : Entries) (tree : Tree) (entries : List Entry) → IsByNumber shown tree entries plain
    → (place next : Place) (rows : List Row) (most : ℕ) → is_whole place ≡ false
    → rows ≡ rows_of (take most (after_number (last_number place) entries))
    → left shown next tree ≡ plain (drop most (after_number (last_number place) entries))
    → before rows (left shown next tree) ≡ left shown place tree
block-given shown tree entries is place next rows most goes r n =
    ap (λ (zs : List Row). before zs (left shown next tree)) r
    ∙ ap (λ o. before (rows_of (take most (after_number (last_number place) entries))) o) n
    ∙ rows-block most (after_number (last_number place) entries)
    ∙ sym (is place goes)

filter-append : (test : Row → Bool) (xs ys : List Row) → filter test (xs ++ ys) ≡ filter test xs ++ filter test ys
filter-append test [] ys = refl
filter-append test (x ∷ xs) ys = go (test x) (filter-append test xs ys)
  where
    go : (b : Bool) → filter test (xs ++ ys) ≡ filter test xs ++ filter test ys
        → (if b then x ∷ filter test (xs ++ ys) else filter test (xs ++ ys)) ≡ (if b then x ∷ filter test xs else filter test xs) ++ filter test ys
    go true e = ap (λ zs. x ∷ zs) e
    go false e = e

rows-append : (xs ys : List Entry) → rows_of (xs ++ ys) ≡ rows_of xs ++ rows_of ys
rows-append [] ys = refl
rows-append (x ∷ xs) ys = ap (λ zs. x.1 ∷ zs) (rows-append xs ys)

pub matching-given : (shown : Entries) (tree : Tree) (entries : List Entry) (columns : List ℕ) (key : List Value)
    → IsByNumber shown tree entries (by_key columns key)
    → (place next : Place) (rows : List Row) (most : ℕ) → is_whole place ≡ false
    → rows ≡ rows_matching columns key (rows_of (take most (after_number (last_number place) entries)))
    → left shown next tree ≡ by_key columns key (drop most (after_number (last_number place) entries))
    → before rows (left shown next tree) ≡ left shown place tree
matching-given shown tree entries columns key is place next rows most goes r n =
    let found = after_number (last_number place) entries in
    ap (λ (zs : List Row). before zs (left shown next tree)) r
    ∙ ap (λ o. before (rows_matching columns key (rows_of (take most found))) o) n
    ∙ ap listed_rows (sym (filter-append (matches columns key) (rows_of (take most found)) (rows_of (drop most found)))
    ∙ ap (rows_matching columns key) (sym (rows-append (take most found) (drop most found)) ∙ ap rows_of (take-drop most found)))
    ∙ sym (is place goes)

-- an index that a plan finds is one of the stored table
pub index-columns : (contents : stored.Contents) (table : StoredTable) (columns : List ℕ) (place : ℕ)
    → AreIndexed contents (table ∷ []) → index_place table columns ≡ Some place
    → columns_at (get contents table.name) place ≡ Some columns
index-columns contents table columns place are e =
    found_columns contents (t.Seek table columns []) table columns place
    (subst (AreIndexed contents) (sym (sought_seek table columns [])) are)
    (subst (λ tables. Contains tables table) (sym (sought_seek table columns [])) (Contains-push [] table)) e

pub goes-on-in : (shown : Shown) (name : List ℕ)
    → ((table : stored.StoredTable) → table_named shown name ≡ Some table → stored.Rises table.entries)
    → Rising (entries_in shown name)
goes-on-in shown name rises = rising-of (table_named shown name) rises

pub goes-on-table : (entries : List Entry) → Rising entries → GoOnByNumber entries
goes-on-table entries r = goes-on entries r

pub goes-on-matched : (columns : List ℕ) (key : List Value) (entries : List Entry) → Rising entries
    → GoOnByNumber (matched columns key entries)
goes-on-matched columns key entries r =
    goes-on (matched columns key entries) (rising-filter (λ (e : Entry). matches columns key e.1) entries r)

length-map : {A B : Type 0} (f : A → B) (xs : List A) → length (map f xs) ≡ length xs
length-map f [] = refl
length-map f (x ∷ xs) = ap (λ n. suc n) (length-map f xs)

-- fewer than were asked for are the last
pub behind-last : (shown : Entries) (tree : Tree) (found : List Entry) (made : List Entry → Outcome) (most : ℕ) (numbers : List ℕ)
    → made [] ≡ no_more None → numbers ≡ map number_of (take most found) → length numbers < most
    → left shown (p.Ended None) tree ≡ made (drop most found)
behind-last shown tree found made most numbers none same few =
    let fewer : length (take most found) < most =
    subst (λ n. n < most) (ap (λ (zs : List ℕ). length zs) same ∙ length-map number_of (take most found)) few in
    left_ended shown None tree ∙ sym none ∙ ap made (sym (none-left most found fewer))

pub behind-number : (shown : Entries) (tree : Tree) (entries : List Entry) (made : List Entry → Outcome) (most : ℕ) (after : Option ℕ) (numbers : List ℕ) (next : Place)
    → GoOnByNumber entries → IsByNumber shown tree entries made
    → numbers ≡ map number_of (take most (after_number after entries))
    → is_whole next ≡ false → last_number next ≡ last_of after numbers
    → left shown next tree ≡ made (drop most (after_number after entries))
behind-number shown tree entries made most after numbers next on is same goes last =
    is next goes
    ∙ ap (λ n. made (after_number n entries)) (last ∙ ap (last_of after) same)
    ∙ ap made (on after most)
