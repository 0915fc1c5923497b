-- A range of an index, and the blocks that a reading gives of it.
use Rattle.std.proofs.Common.{◌≡◌, ◌<◌, length, suc, refl, sym, ap, ◌∙◌, subst, ℕ, Bool, true, false, ◌&&◌, List, [], ◌∷◌, ◌++◌, map, Option, Some, None, take, drop, rules}
use Rattle.std.specs.Prelude.{filter, if◌then◌else◌}
use Rattle.std.specs.declared.ops.Bound.{Bound as Limit}
use Rattle.sqlval.specs.declared.value.Value.{Value}
use Rattle.sqlval.specs.Matching.{key_of}
use Rattle.sqlval.specs.Value.{Row}
use Rattle.algebra.specs.declared.tree.Bound.{Bound}
use Rattle.algebra.specs.declared.tree.StoredTable.{StoredTable}
use Rattle.algebra.specs.declared.tree.Tree.{Tree}
use Rattle.algebra.specs.declared.tree.Tree.TheVariants as t
use Rattle.algebra.specs.Bounds.{above, below, is_within, meets}
use Rattle.denote.specs.Outcome.{Outcome}
use Rattle.store.specs.Contents.{Entry, rows_of}
use Rattle.store.specs.Indexes.{Position, beyond, by_columns, columns_at, entries_of, first_of, first_within, in_order, is_above, is_below, ranged}
use Rattle.store.specs.Indexes as stored
use Rattle.store.specs.Contents as contents
use Rattle.store.specs.Sorted.{sorted_by}
use Rattle.places.specs.declared.place.Place.{Place, the_lemmas}
use Rattle.places.specs.declared.place.Place.TheVariants as p
use Rattle.algebra.specs.Listing.{listed_rows, tree_listing}
use Rattle.places.specs.Left.{Entries, before, entries_within, left, no_more, rows_beyond, rows_by}
use Rattle.places.specs.Views.{is_whole, last_position}
use Rattle.places.proofs.Climbing as climbing
use Rattle.places.proofs.LeftNodes.{left_range, left_start}
use Rattle.places.proofs.Wholes.{left_ended}
use Rattle.places.proofs.Rising.{Rising, rising-filter}
use Rattle.streams.specs.Numbers.{GoOnInIndex, IsInIndex, last_of, number_of, place_in}
use Rattle.streams.proofs.Entries.{none-left, rows-block, same-rest, take-drop}
use Rattle.streams.proofs.TableBlocks.{plain}

module _ (columns : List ℕ) where
  last-same : (after : Option Position) (es : List Entry)
      → climbing.last_place columns after es ≡ last_of after (map (place_in columns) es)
  last-same after [] = refl
  last-same after (e ∷ es) = last-same (Some (place_in columns e)) es

  goes-on : (es : List Entry) → climbing.Climbing columns es → GoOnInIndex columns es
  goes-on es r after most =
      let found = beyond after (Some columns) es in
      same-rest (take most found) _ (drop most found)
      (ap (λ last. take most found ++ beyond last (Some columns) es) (sym (last-same after (take most found)))
      ∙ climbing.block_beyond columns most after es r ∙ sym (take-drop most found))

  pub goes-on-within : (low high : Option Bound) (es : List Entry) → Rising es
      → GoOnInIndex columns (entries_within columns low high es)
  goes-on-within low high es r =
      goes-on (entries_within columns low high es)
      (climbing.climbing-sorted columns (filter (λ (e : Entry). is_within columns low high e.1) es)
      (rising-filter (λ (e : Entry). is_within columns low high e.1) es r))

  pub range-in-index : (shown : Entries) (table : StoredTable) (low high : Option Bound)
      → IsInIndex shown (t.Range table columns low high) columns (entries_within columns low high (shown table.name)) plain
  range-in-index shown table low high place goes = left_range shown place table columns low high goes

  filter-same : (f g : Entry → Bool) (es : List Entry) → ((e : Entry) → f e ≡ g e) → filter f es ≡ filter g es
  filter-same f g [] h = refl
  filter-same f g (e ∷ es) h = go (f e) (g e) (h e) (filter-same f g es h)
    where
      go : (a b : Bool) → a ≡ b → filter f es ≡ filter g es
          → (if a then e ∷ filter f es else filter f es) ≡ (if b then e ∷ filter g es else filter g es)
      go true true p k = ap (λ zs. e ∷ zs) k
      go true false p k = absurd (cc)
      go false true p k = absurd (cc)
      go false false p k = k

  -- what a store finds within limits is what a plan's bounds leave
  pub ranged-within : (table : Option contents.StoredTable) (index : ℕ) (from to : Limit Value) (low high : Option Bound)
      → columns_at table index ≡ Some columns
      → ((x : Value) → is_above from x ≡ meets above x low) → ((x : Value) → is_below to x ≡ meets below x high)
      → Rising (entries_of table)
      → ranged table index from to ≡ entries_within columns low high (entries_of table)
  ranged-within table index from to low high is lower upper r =
      ap (λ at. first_within from to at (in_order at (entries_of table))) is
      ∙ climbing.sorted-filter columns (λ (e : Entry). stored.is_within from to (first_of (key_of columns e.1))) (entries_of table) r
      ∙ ap (sorted_by (by_columns columns))
      (filter-same (λ (e : Entry). stored.is_within from to (first_of (key_of columns e.1))) (λ (e : Entry). is_within columns low high e.1) (entries_of table)
      (λ e i. lower (first_of (key_of columns e.1)) i && upper (first_of (key_of columns e.1)) i))

  pub range-given : (shown : Entries) (tree : Tree) (entries : List Entry) → IsInIndex shown tree columns entries plain
      → (place next : Place) (rows : List Row) (most : ℕ) → is_whole place ≡ false
      → rows ≡ rows_of (take most (beyond (last_position place) (Some columns) entries))
      → left shown next tree ≡ plain (drop most (beyond (last_position place) (Some columns) entries))
      → before rows (left shown next tree) ≡ left shown place tree
  range-given shown tree entries is place next rows most goes r n =
      ap (λ (zs : List Row). before zs (left shown next tree)) r
      ∙ ap (λ o. before (rows_of (take most (beyond (last_position place) (Some columns) entries))) o) n
      ∙ rows-block most (beyond (last_position place) (Some columns) entries)
      ∙ sym (is place goes)

  -- ---- the place behind a block

  value : {A : Type 0} {x y : A} → Some x ≡ Some y → x ≡ y
  value {x = x} q = ap (λ o. elim o [ None ↦ x | Some z ↦ z ]) q

  last-placed : (e : Entry) (es : List Entry) (row : Row) (number : ℕ)
      → last_of (Some e.1) (rows_of es) ≡ Some row → last_of (Some e.0) (map number_of es) ≡ Some number
      → last_of (Some (place_in columns e)) (map (place_in columns) es) ≡ Some (key_of columns row, number)
  last-placed e [] row number r n = λ i. Some (key_of columns (value r i), value n i)
  last-placed e (d ∷ es) row number r n = last-placed d es row number r n

  pub last-place : (after : Option Position) (es : List Entry) (row : Row) (number : ℕ)
      → last_of None (rows_of es) ≡ Some row → last_of None (map number_of es) ≡ Some number
      → last_of after (map (place_in columns) es) ≡ Some (key_of columns row, number)
  last-place after [] row number r n = absurd (cc)
  last-place after (e ∷ es) row number r n = last-placed e es row number r n

  pub behind-place : (shown : Entries) (tree : Tree) (entries : List Entry) (made : List Entry → Outcome) (after : Option Position) (most : ℕ)
      (next : Place) (rows : List Row) (numbers : List ℕ) (row : Row) (number : ℕ)
      → GoOnInIndex columns entries → IsInIndex shown tree columns entries made
      → rows ≡ rows_of (take most (beyond after (Some columns) entries))
      → numbers ≡ map number_of (take most (beyond after (Some columns) entries))
      → last_of None rows ≡ Some row → last_of None numbers ≡ Some number
      → is_whole next ≡ false → last_position next ≡ Some (key_of columns row, number)
      → left shown next tree ≡ made (drop most (beyond after (Some columns) entries))
  behind-place shown tree entries made after most next rows numbers row number on is r n last_row last_number goes at =
      let block = take most (beyond after (Some columns) entries) in
      is next goes
      ∙ ap (λ place. made (beyond place (Some columns) entries))
      (at ∙ sym (last-place after block row number (ap (last_of None) (sym r) ∙ last_row) (ap (last_of None) (sym n) ∙ last_number)))
      ∙ ap made (on after most)

length-rows : (es : List Entry) → length (rows_of es) ≡ length es
length-rows [] = refl
length-rows (e ∷ es) = ap (λ n. suc n) (length-rows es)

pub few-left : (shown : Entries) (tree : Tree) (found : List Entry) (made : List Entry → Outcome) (most : ℕ) (rows : List Row)
    → made [] ≡ no_more None → rows ≡ rows_of (take most found) → length rows < most
    → left shown (p.Ended None) tree ≡ made (drop most found)
few-left shown tree found made most rows none same few =
    let fewer : length (take most found) < most =
    subst (λ n. n < most) (ap (λ (zs : List Row). length zs) same ∙ length-rows (take most found)) few in
    left_ended shown None tree ∙ sym none ∙ ap made (sym (none-left most found fewer))

last-none : {A : Type 0} (rows : List A) → last_of None rows ≡ None → rows ≡ []
last-none [] e = refl
last-none (row ∷ rows) e = absurd (go row rows e)
  where
    go : {A : Type 0} (row : A) (rows : List A) → last_of (Some row) rows ≡ None → ⊥
    go row [] e = absurd (cc)
    go row (next ∷ rows) e = go next rows e

pub none-given : {A : Type 0} (rows : List A) (most : ℕ) → last_of None rows ≡ None → 0 < most → length rows < most
none-given rows most e above = subst (λ zs. length zs < most) (sym (last-none rows e)) above

pub whole-start : is_whole p.Start ≡ false
whole-start = search (rules, the_lemmas)

start-position : last_position p.Start ≡ None
start-position = search (rules, the_lemmas)

-- without a place in the index all is left
pub range-anew : (shown : Entries) (place : Place) (table : StoredTable) (columns : List ℕ) (low high : Option Bound) → is_whole place ≡ false
    → last_position place ≡ None
    → tree_listing (rows_by shown) (t.Range table columns low high) [] ≡ left shown place (t.Range table columns low high)
range-anew shown place table columns low high goes none =
    sym (left_start shown (t.Range table columns low high))
    ∙ left_range shown p.Start table columns low high whole-start
    ∙ ap (λ at. listed_rows (rows_beyond columns low high at (shown table.name))) (start-position ∙ sym none)
    ∙ sym (left_range shown place table columns low high goes)
