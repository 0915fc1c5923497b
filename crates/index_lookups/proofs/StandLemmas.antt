-- Where a walk along an index stands, and what it finds.
use Rattle.std.proofs.Common.{◌≡◌, ◌∙◌, refl, sym, ap, subst, ℕ, ◌+◌, ◌^◌, ◌<◌, ◌≤◌, Bool, true, false, List, [], ◌∷◌, ◌++◌, append_assoc, append-nil, map, length, Option, Some, None, inl, inr, arith, nat_lt, Bor}
use Rattle.std.specs.Prelude.{◌&&◌, filter, not, slice_get, take, if◌then◌else◌}
use Rattle.std.proofs.lemmas.List.{length-map, take-append-le}
use Rattle.std.specs.List.{AllByRecursion}
use Rattle.std.specs.Option.{option_map}
use Rattle.std.specs.declared.ops.Bound.{Bound}
use Rattle.std.specs.declared.ops.Bound.TheVariants.{Included, Excluded, Unbounded}
use Rattle.sqlval.specs.declared.schema.Column.{Column}
use Rattle.sqlval.specs.declared.value.Value.{Value}
use Rattle.sqlval.specs.Matching.{key_of, matches}
use Rattle.store.specs.declared.rows.NumberedRow.{NumberedRow}
use Rattle.store.specs.declared.rows.Position.{Position as Spot}
use Rattle.store.specs.Contents as stored
use Rattle.store.specs.Indexes.{by_columns, first_of, is_above, is_below, is_within, is_beyond, some_after}
use Rattle.store.specs.View.{AreEntries, position_of}
use Rattle.page_space.specs.Space.{PageMap}
use Rattle.sqlrecord.specs.Storable.{AllStorable}
use Rattle.sqlval.specs.CodedLength.{key_length}
use Rattle.sqlrecord.specs.Key.{index_key_code}
use Rattle.sqlrecord.proofs.OrderLemmas.{length_index_key}
use Rattle.btree_read.specs.declared.entry.Entry.{Entry}
use Rattle.btree_read.specs.declared.entry.Start.{Start}
use Rattle.btree_read.specs.declared.entry.Start.TheVariants.{At, Behind}
use Rattle.btree_read.specs.Nodes.{precedes}
use Rattle.btree_read.specs.Sorted.{is_from, first_from}
use Rattle.btree_read.proofs.ListLemmas.{each_right, each_left}
use Rattle.btree_read.proofs.OrderLemmas.{empty_lowest}
use Rattle.tablestore.specs.Held.{IsKept, AreKept}
use Rattle.index_trees.specs.Indexed.{index_entry, IsRow}
use Rattle.database_trees.specs.Named.{row_numbered}
use Rattle.database_trees.proofs.NumberLemmas.{AreRising, rising}
use Rattle.database_trees.proofs.SmallLemmas.{held_is_short}
use Rattle.index_lookups.specs.declared.sought.Sought.{Sought}
use Rattle.index_lookups.specs.declared.sought.Sought.TheVariants.{Key, KeyAbove, Within, Beyond, Above}
use Rattle.index_lookups.specs.declared.walking.Walk.{Walk}
use Rattle.index_lookups.specs.Sought.{is_wanted, is_past}
use Rattle.index_lookups.specs.Walked.{walk_of, HoldsIndexed, StandsAt, StandsBefore, HasStepped}
use Rattle.index_lookups.specs.Begun.{MaySkip, MayPass, IsStart, StartsBelow, IsNextRow, IsRowBehind, rows_within, block_within}
use Rattle.index_lookups.proofs.CodeOrder.{code_of, beyond_place}
use Rattle.index_lookups.proofs.WalkLemmas.{AreCoded, walk_is, sorted_all, sorted_coded, sorted_has}
use Rattle.index_lookups.proofs.SoughtLemmas.{key_skipped, key_past_itself, key_past, key_not_above, matching_tie, sorted_filtered, over_not_below, over_on, first_not_greater, low_skipped}
use Rattle.index_lookups.proofs.StepLemmas.{filter_front, filter_none, filter_each, filter_step, from_on, coded_left, next_entry_of, row_is_there, row_middle}

-- ---- an index that lies there

pub indexed_in : (old new : PageMap) (root rows_root : ℕ) (types : List Column) (columns : List ℕ) (rows : List stored.Entry) → new ≡ old → HoldsIndexed old root rows_root types columns rows → HoldsIndexed new root rows_root types columns rows
indexed_in old new root rows_root types columns rows same h = subst (λ (p : PageMap). HoldsIndexed p root rows_root types columns rows) (sym same) h

module _ (pages : PageMap) (root rows_root : ℕ) (types : List Column) (columns : List ℕ) (rows : List stored.Entry) (h : HoldsIndexed pages root rows_root types columns rows) where
  rise : AreRising rows
  rise = rising pages rows_root h.rows_owned rows h.table.holds

  pub entries_walked : h.index.entries ≡ map (index_entry columns) (walk_of columns rows)
  entries_walked = walk_is pages root h.owned columns rows h.index h.table.holds.kept rise

  pub walk_coded : AreCoded columns (walk_of columns rows)
  walk_coded = sorted_coded columns rows h.table.holds.kept rise

  pub walk_kept : AreKept (walk_of columns rows)
  walk_kept = sorted_all (by_columns columns) IsKept rows h.table.holds.kept

  -- a walk that begins at a code
  pub record HasBegun (start : Start) (code : List ℕ) (next : Option Entry) : Type 0 where
    pub left : List stored.Entry
    pub stands : StandsAt columns rows next left
    pub head : slice_get left 0 ≡ slice_get (filter (λ (e : stored.Entry). is_from start code (code_of columns e)) (walk_of columns rows)) 0
    pub passed : AllByRecursion (λ (e : stored.Entry). is_from start code (code_of columns e) ≡ false) stands.front

  pub has_begun : (start : Start) (code : List ℕ) (next : Option Entry) → next ≡ first_from start code h.index.entries → HasBegun start code next
  has_begun start code next e =
      let w = from_on start code columns (walk_of columns rows) in
      record {
        left = w.left;
        stands = record { front = w.front; whole = w.whole; first = e ∙ ap (first_from start code) entries_walked ∙ w.first };
        head = w.head;
        passed = w.passed;
      }

  -- one entry on
  pub stands_behind : (entry : Entry) (e : stored.Entry) (rest : List stored.Entry) (next : Option Entry) → StandsAt columns rows (Some entry) (e ∷ rest) → next ≡ first_from Behind entry.key h.index.entries → StandsAt columns rows next rest
  stands_behind entry e rest next s found = record {
    front = s.front ++ e ∷ [];
    whole = s.whole ∙ sym (append_assoc s.front (e ∷ []) rest);
    first = found ∙ ap (λ (k : List ℕ). first_from Behind k h.index.entries) (same_key entry (index_entry columns e) s.first) ∙ ap (first_from Behind (code_of columns e)) (entries_walked ∙ ap (map (index_entry columns)) s.whole)
        ∙ next_entry_of columns s.front rest e (subst (AreCoded columns) s.whole walk_coded);
  }
    where
      same_key : (a b : Entry) → Some a ≡ Some b → a.key ≡ b.key
      same_key a b q = cc

  -- the row of the entry at which a walk stands
  pub row_stands_there : (entry : Entry) (e : stored.Entry) (rest : List stored.Entry) → StandsAt columns rows (Some entry) (e ∷ rest) → row_numbered e.0 rows ≡ Some e
  row_stands_there entry e rest s = row_is_there e rows rise (sorted_has (by_columns columns) e rows (subst (IsRow e) (sym s.whole) (row_middle s.front rest e)))

  -- the entry at which a walk stands is that of the row
  pub entry_is : (entry : Entry) (left : List stored.Entry) (row : stored.Entry) → StandsAt columns rows (Some entry) left → slice_get left 0 ≡ Some row → entry ≡ index_entry columns row
  entry_is entry left row s is = same_entry entry (index_entry columns row) (s.first ∙ ap (option_map (index_entry columns)) is)
    where
      same_entry : (a b : Entry) → Some a ≡ Some b → a ≡ b
      same_entry a b q = cc

  row_among : (left : List stored.Entry) (row : stored.Entry) (front : List stored.Entry) → walk_of columns rows ≡ front ++ left → slice_get left 0 ≡ Some row → IsRow row rows
  row_among [] row front whole is = absurd (cc)
  row_among (e ∷ rest) row front whole is =
      let same : e ≡ row = cc in
      subst (λ (r : stored.Entry). IsRow r rows) same (sorted_has (by_columns columns) e rows (subst (IsRow e) (sym whole) (row_middle front rest e)))

  -- whose key is not too long
  pub never_long : (entry : Entry) (left : List stored.Entry) (row : stored.Entry) → StandsAt columns rows (Some entry) left → slice_get left 0 ≡ Some row → 600 < key_length (key_of columns row.1) + 8 → ⊥
  never_long entry left row s is long = held_is_short pages root h.owned columns rows row h.index (row_among left row s.front s.whole is) long

  -- a walk that stands at an entry has a row left
  pub record HasFirst (entry : Entry) (left : List stored.Entry) : Type 0 where
    pub e : stored.Entry
    pub rest : List stored.Entry
    pub is : left ≡ e ∷ rest
    pub key : entry.key ≡ code_of columns e
    pub kept : IsKept e
    pub numbered : row_numbered e.0 rows ≡ Some e

  kept_first : (front rest : List stored.Entry) (e : stored.Entry) → walk_of columns rows ≡ front ++ e ∷ rest → IsKept e
  kept_first front rest e q = (each_right IsKept front (e ∷ rest) (subst AreKept q walk_kept)).0

  pub has_first : (entry : Entry) (left : List stored.Entry) → StandsAt columns rows (Some entry) left → HasFirst entry left
  has_first entry [] s = absurd (none s.first)
    where
      none : Some entry ≡ None → ⊥
      none q = cc
  has_first entry (e ∷ rest) s = record { e = e; rest = rest; is = refl; key = same entry (index_entry columns e) s.first; kept = kept_first s.front rest e s.whole; numbered = row_stands_there entry e rest s }
    where
      same : (a b : Entry) → Some a ≡ Some b → a.key ≡ b.key
      same a b q = cc

  -- the row of its number
  pub row_by_number : (entry : Entry) (left : List stored.Entry) (number : ℕ) → ((key : List Value) (n : ℕ) → n < 2 ^ 64 → entry.key ≡ index_key_code key n → number ≡ n) → (s : StandsAt columns rows (Some entry) left)
      → row_numbered number rows ≡ slice_get left 0
  row_by_number entry left number reads s =
      let w = has_first entry left s in
      let small = w.kept.number in
      ap (λ (n : ℕ). row_numbered n rows) (reads (key_of columns w.e.1) w.e.0 (omega (arith, small)) w.key) ∙ w.numbered ∙ sym (ap (λ (xs : List stored.Entry). slice_get xs 0) w.is)

  pub kept_there : (next : Option Entry) (left : List stored.Entry) → StandsAt columns rows next left → AreKept left
  kept_there next left s = each_right IsKept s.front left (subst AreKept s.whole walk_kept)

  pub coded_there : (next : Option Entry) (left : List stored.Entry) → StandsAt columns rows next left → AreCoded columns left
  coded_there next left s = coded_left columns (walk_of columns rows) s.front left s.whole walk_coded

  -- ---- what is passed over

  front_skipped : (sought : Sought) (code : List ℕ) (front : List stored.Entry) → MaySkip sought columns code → AreKept front → AllByRecursion (λ (e : stored.Entry). is_from At code (code_of columns e) ≡ false) front
      → AllByRecursion (λ (e : stored.Entry). is_wanted sought columns e ≡ false) front
  front_skipped sought code [] may kept h = tt
  front_skipped sought code (e ∷ front) may kept h = (may e kept.0 (before (precedes (code_of columns e) code) h.0), front_skipped sought code front may kept.1 h.1)
    where
      before : (b : Bool) → not b ≡ false → b ≡ true
      before true q = refl
      before false q = absurd (cc)

  pub all_wanted : (sought : Sought) (code : List ℕ) (next : Option Entry) → MaySkip sought columns code → (b : HasBegun At code next) → filter (is_wanted sought columns) b.left ≡ filter (is_wanted sought columns) (walk_of columns rows)
  all_wanted sought code next may b =
      filter_front (is_wanted sought columns) b.stands.front b.left
      (front_skipped sought code b.stands.front may (each_left IsKept b.stands.front b.left (subst AreKept b.stands.whole walk_kept)) b.passed)
      ∙ ap (filter (is_wanted sought columns)) (sym b.stands.whole)

  passed_over : (sought : Sought) (code : List ℕ) (front : List stored.Entry) → MayPass sought columns code → AreKept front → AllByRecursion (λ (e : stored.Entry). is_from Behind code (code_of columns e) ≡ false) front
      → AllByRecursion (λ (e : stored.Entry). is_wanted sought columns e ≡ false) front
  passed_over sought code [] may kept h = tt
  passed_over sought code (e ∷ front) may kept h = (may e kept.0 h.0, passed_over sought code front may kept.1 h.1)

  pub all_behind : (sought : Sought) (code : List ℕ) (next : Option Entry) → MayPass sought columns code → (b : HasBegun Behind code next) → filter (is_wanted sought columns) b.left ≡ filter (is_wanted sought columns) (walk_of columns rows)
  all_behind sought code next may b =
      filter_front (is_wanted sought columns) b.stands.front b.left
      (passed_over sought code b.stands.front may (each_left IsKept b.stands.front b.left (subst AreKept b.stands.whole walk_kept)) b.passed)
      ∙ ap (filter (is_wanted sought columns)) (sym b.stands.whole)

-- ---- an entry and its row

no_row_left : {X Y : Type 0} (f : X → Y) (o : Option X) → None ≡ option_map f o → None ≡ o
no_row_left f None e = refl
no_row_left f (Some x) e = absurd (cc)

pub none_left : (columns : List ℕ) (rows left : List stored.Entry) (next : Option Entry) → next ≡ None → StandsAt columns rows next left → None ≡ slice_get left 0
none_left columns rows left next none s = no_row_left (index_entry columns) (slice_get left 0) (sym none ∙ s.first)

pub stands_as : (columns : List ℕ) (rows left : List stored.Entry) (next other : Option Entry) → next ≡ other → StandsAt columns rows next left → StandsAt columns rows other left
stands_as columns rows left next other same s = subst (λ (o : Option Entry). StandsAt columns rows o left) same s

-- an index key has the bytes of its row number
pub too_short : (bytes : List ℕ) (key : List Value) (n : ℕ) → bytes ≡ index_key_code key n → length bytes < 8 → ⊥
too_short bytes key n is short = let long : length bytes ≡ key_length key + 8 = ap length is ∙ length_index_key key n in omega (arith, long, short)

-- ---- where no row behind is sought

pub and_none : (a b : Bool) → b ≡ false → (a && b) ≡ false
and_none true b e = e
and_none false b e = refl

pub and_first : (a b : Bool) → a ≡ false → (a && b) ≡ false
and_first true b e = absurd (cc)
and_first false b e = refl

none_behind : (P : stored.Entry → Type 0) (Q : stored.Entry → Type 0) (R : stored.Entry → Type 0) (xs : List stored.Entry) → ((f : stored.Entry) → P f → Q f → R f) → AllByRecursion P xs → AllByRecursion Q xs → AllByRecursion R xs
none_behind P Q R [] go h g = tt
none_behind P Q R (x ∷ xs) go h g = (go x h.0 g.0, none_behind P Q R xs go h.1 g.1)

pub none_past : (sought : Sought) (columns : List ℕ) (e : stored.Entry) (rest : List stored.Entry) → AreKept (e ∷ rest) → AreCoded columns (e ∷ rest) → is_past sought columns e ≡ true → filter (is_wanted sought columns) (e ∷ rest) ≡ []
none_past (Key key) columns e rest kept coded past = filter_none (is_wanted (Key key) columns) (e ∷ rest) (
  key_past_itself columns key.now e past,
  none_behind IsKept (λ (f : stored.Entry). precedes (code_of columns e) (code_of columns f) ≡ true) (λ (f : stored.Entry). matches columns key.now f.1 ≡ false) rest
      (λ f k before. key_past columns key.now e f kept.0 k past before) kept.1 coded.0,
)
none_past (KeyAbove key number) columns e rest kept coded past = filter_none (is_wanted (KeyAbove key number) columns) (e ∷ rest) (
  and_first (matches columns key.now e.1) (nat_lt number e.0) (key_past_itself columns key.now e past),
  none_behind IsKept (λ (f : stored.Entry). precedes (code_of columns e) (code_of columns f) ≡ true) (λ (f : stored.Entry). is_wanted (KeyAbove key number) columns f ≡ false) rest
      (λ f k before. and_first (matches columns key.now f.1) (nat_lt number f.0) (key_past columns key.now e f kept.0 k past before)) kept.1 coded.0,
)
none_past (Within low high) columns e rest kept coded past = filter_none (is_wanted (Within low high) columns) (e ∷ rest) (
  and_none (is_above low.now (first_of (key_of columns e.1))) (is_below high.now (first_of (key_of columns e.1))) (over_not_below high.now (first_of (key_of columns e.1)) past),
  none_behind IsKept (λ (f : stored.Entry). precedes (code_of columns e) (code_of columns f) ≡ true) (λ (f : stored.Entry). is_within low.now high.now (first_of (key_of columns f.1)) ≡ false) rest
      (λ f k before. and_none (is_above low.now (first_of (key_of columns f.1))) (is_below high.now (first_of (key_of columns f.1)))
      (over_not_below high.now (first_of (key_of columns f.1)) (over_on high.now (first_of (key_of columns e.1)) (first_of (key_of columns f.1)) past (first_not_greater columns e f kept.0 k before)))) kept.1 coded.0,
)
none_past (Beyond place) columns e rest kept coded past = absurd (never past)
  where
    never : false ≡ true → ⊥
    never q = cc
none_past (Above low high place) columns e rest kept coded past =
    let is_above_place : stored.Entry → Bool = λ f. is_beyond (Some (position_of place.now)) (key_of columns f.1) f.0 in
    filter_none (is_wanted (Above low high place) columns) (e ∷ rest) (
      and_first (is_within low.now high.now (first_of (key_of columns e.1))) (is_above_place e)
          (and_none (is_above low.now (first_of (key_of columns e.1))) (is_below high.now (first_of (key_of columns e.1))) (over_not_below high.now (first_of (key_of columns e.1)) past)),
      none_behind IsKept (λ (f : stored.Entry). precedes (code_of columns e) (code_of columns f) ≡ true) (λ (f : stored.Entry). is_wanted (Above low high place) columns f ≡ false) rest
          (λ f k before. and_first (is_within low.now high.now (first_of (key_of columns f.1))) (is_above_place f)
          (and_none (is_above low.now (first_of (key_of columns f.1))) (is_below high.now (first_of (key_of columns f.1)))
          (over_not_below high.now (first_of (key_of columns f.1)) (over_on high.now (first_of (key_of columns e.1)) (first_of (key_of columns f.1)) past (first_not_greater columns e f kept.0 k before))))) kept.1 coded.0,
    )

-- ---- steps

abbrev pub rest_of : (left : List stored.Entry) (e : stored.Entry) → slice_get left 0 ≡ Some e → List stored.Entry
rest_of [] e h = []
rest_of (x ∷ left) e h = left

pub split_first : (left : List stored.Entry) (e : stored.Entry) (h : slice_get left 0 ≡ Some e) → left ≡ e ∷ rest_of left e h
split_first [] e h = absurd (cc)
split_first (x ∷ left) e h = ap (λ y. y ∷ left) (same x e h)
  where
    same : (a b : stored.Entry) → Some a ≡ Some b → a ≡ b
    same a b q = cc

pub step_ended : (columns : List ℕ) (rows : List stored.Entry) (wanted : stored.Entry → Bool) (left list : List stored.Entry) (walk : Walk) → StandsBefore columns rows walk.ahead left → AreEntries walk.found list → filter wanted left ≡ [] → HasStepped columns rows wanted left list walk true
step_ended columns rows wanted left list walk s are none = record {
  rest = left;
  more = [];
  are = subst (AreEntries walk.found) (sym (append-nil list)) are;
  is = refl;
  stands = s;
  last = λ e. none;
}

pub stands_first : (columns : List ℕ) (rows left : List stored.Entry) (ahead : List Entry) (e : stored.Entry) (rest : List stored.Entry) → left ≡ e ∷ rest → StandsBefore columns rows ahead left → StandsBefore columns rows ahead (e ∷ rest)
stands_first columns rows left ahead e rest q s = subst (StandsBefore columns rows ahead) q s

pub step_on : (columns : List ℕ) (rows : List stored.Entry) (wanted : stored.Entry → Bool) (e : stored.Entry) (rest list : List stored.Entry) (left : List stored.Entry) (walk : Walk) → left ≡ e ∷ rest → StandsBefore columns rows walk.ahead rest
    → AreEntries walk.found (list ++ (if wanted e then e ∷ [] else [])) → HasStepped columns rows wanted left list walk false
step_on columns rows wanted e rest list left walk q s are = record {
  rest = rest;
  more = if wanted e then e ∷ [] else [];
  are = are;
  is = filter_step wanted e rest ∙ ap (filter wanted) (sym q);
  stands = s;
  last = λ w. absurd (never w);
}
  where
    never : false ≡ true → ⊥
    never w = cc

module _ (pages : PageMap) (root rows_root : ℕ) (types : List Column) (columns : List ℕ) (rows : List stored.Entry) (h : HoldsIndexed pages root rows_root types columns rows) where
  pub ended_past : (sought : Sought) (left list : List stored.Entry) (walk : Walk) (e : stored.Entry) → StandsBefore columns rows walk.ahead left → slice_get left 0 ≡ Some e → AreEntries walk.found list
      → is_past sought columns e ≡ true → HasStepped columns rows (is_wanted sought columns) left list walk true
  ended_past sought left list walk e s first are past =
      let q = split_first left e first in
      step_ended columns rows (is_wanted sought columns) left list walk s are
      (ap (filter (is_wanted sought columns)) q ∙ none_past sought columns e (rest_of left e first)
      (subst AreKept q (kept_there pages root rows_root types columns rows h (slice_get walk.ahead 0) left s.stands)) (subst (AreCoded columns) q (coded_there pages root rows_root types columns rows h (slice_get walk.ahead 0) left s.stands)) past)

nothing_left : (left : List stored.Entry) → None ≡ slice_get left 0 → left ≡ []
nothing_left [] e = refl
nothing_left (x ∷ left) e = absurd (cc)

pub ended_behind : (columns : List ℕ) (rows : List stored.Entry) (wanted : stored.Entry → Bool) (left list : List stored.Entry) (walk : Walk) → StandsBefore columns rows walk.ahead left → None ≡ slice_get left 0 → AreEntries walk.found list
    → HasStepped columns rows wanted left list walk true
ended_behind columns rows wanted left list walk s none are = step_ended columns rows wanted left list walk s are (ap (filter wanted) (nothing_left left none))

-- ---- rows that match a key, in the order of their numbers

pub matched_in_order : (columns : List ℕ) (key : List Value) (rows : List stored.Entry) → filter (λ (e : stored.Entry). matches columns key e.1) (walk_of columns rows) ≡ filter (λ (e : stored.Entry). matches columns key e.1) rows
matched_in_order columns key rows = sorted_filtered (by_columns columns) (λ (e : stored.Entry). matches columns key e.1) (matching_tie columns key) rows

-- ---- skipped

pub key_may_skip : (key : List Value) (columns code : List ℕ) → IsStart key code → (e : stored.Entry) → precedes (index_entry columns e).key code ≡ true → matches columns key e.1 ≡ false
key_may_skip key columns code (inl none) e before = key_skipped columns key code e (inl none) before
key_may_skip key columns code (inr is) e before = key_skipped columns key code e (inr is.0) before

pub bound_may_skip : (low high : Bound Value) (columns code : List ℕ) → StartsBelow low code → (e : stored.Entry) → IsKept e → precedes (index_entry columns e).key code ≡ true → is_within low high (first_of (key_of columns e.1)) ≡ false
bound_may_skip Unbounded high columns code none e kept before =
    absurd (never (sym (empty_lowest (code_of columns e)) ∙ subst (λ (c : List ℕ). precedes (code_of columns e) c ≡ true) none before))
  where
    never : false ≡ true → ⊥
    never q = cc
bound_may_skip (Included low) high columns code start e kept before = and_first (is_above (Included low) (first_of (key_of columns e.1))) (is_below high (first_of (key_of columns e.1))) (low_skipped columns low code e kept start before).0
bound_may_skip (Excluded low) high columns code start e kept before = and_first (is_above (Excluded low) (first_of (key_of columns e.1))) (is_below high (first_of (key_of columns e.1))) (low_skipped columns low code e kept start before).1

-- ---- beyond a place

each_beyond : (columns : List ℕ) (key : List Value) (number : ℕ) (xs : List stored.Entry) → AllStorable key → length key ≡ length columns → number < 2 ^ 64 → AreKept xs
    → AllByRecursion (λ (e : stored.Entry). precedes (index_key_code key number) (code_of columns e) ≡ is_beyond (Some (key, number)) (key_of columns e.1) e.0) xs
each_beyond columns key number [] storable long small kept = tt
each_beyond columns key number (e ∷ xs) storable long small kept = (beyond_place columns key number e storable long small kept.0, each_beyond columns key number xs storable long small kept.1)

pub row_is_next : (columns : List ℕ) (rows : List stored.Entry) (key : List Value) (number : ℕ) (found : Option NumberedRow) → AllStorable key → length key ≡ length columns → number < 2 ^ 64 → AreKept (walk_of columns rows)
    → IsRowBehind columns rows (index_key_code key number) found → IsNextRow columns rows (Some (key, number)) found
row_is_next columns rows key number found storable long small kept is =
    is ∙ ap (λ xs. slice_get xs 0) (filter_each (λ (e : stored.Entry). precedes (index_key_code key number) (code_of columns e)) (λ (e : stored.Entry). is_beyond (Some (key, number)) (key_of columns e.1) e.0) (walk_of columns rows)
    (each_beyond columns key number (walk_of columns rows) storable long small kept))

pub nothing_skipped : (sought : Sought) (columns : List ℕ) → MaySkip sought columns []
nothing_skipped sought columns e kept before = absurd (never (sym (empty_lowest (code_of columns e)) ∙ before))
  where
    never : false ≡ true → ⊥
    never q = cc

each_from_nothing : (columns : List ℕ) (xs : List stored.Entry) → AllByRecursion (λ (e : stored.Entry). is_from At [] (code_of columns e) ≡ true) xs
each_from_nothing columns [] = tt
each_from_nothing columns (e ∷ xs) = (ap not (empty_lowest (code_of columns e)), each_from_nothing columns xs)

pub first_of_all : (columns : List ℕ) (xs : List stored.Entry) → slice_get (filter (λ (e : stored.Entry). is_from At [] (code_of columns e)) xs) 0 ≡ slice_get (filter (λ (e : stored.Entry). is_beyond None (key_of columns e.1) e.0) xs) 0
first_of_all columns xs = ap (λ ys. slice_get ys 0) (filter_each (λ (e : stored.Entry). is_from At [] (code_of columns e)) (λ (e : stored.Entry). true) xs (each_from_nothing columns xs))

-- ---- a walk in steps

-- after some steps of a walk that began where these rows were left
pub record IsWalking (columns : List ℕ) (rows : List stored.Entry) (wanted : stored.Entry → Bool) (left : List stored.Entry) (walk : Walk) : Type 0 where
  pub rest : List stored.Entry
  pub list : List stored.Entry
  pub stands : StandsBefore columns rows walk.ahead rest
  pub are : AreEntries walk.found list
  pub is : list ++ filter wanted rest ≡ filter wanted left

pub walks_on : (columns : List ℕ) (rows : List stored.Entry) (wanted : stored.Entry → Bool) (left : List stored.Entry) (was walk : Walk) (ended : Bool) → (w : IsWalking columns rows wanted left was)
    → HasStepped columns rows wanted w.rest w.list walk ended → IsWalking columns rows wanted left walk
walks_on columns rows wanted left was walk ended w s = record {
  rest = s.rest;
  list = w.list ++ s.more;
  stands = s.stands;
  are = s.are;
  is = append_assoc w.list s.more (filter wanted s.rest) ∙ ap (λ xs. w.list ++ xs) s.is ∙ w.is;
}

pub has_walked : (columns : List ℕ) (rows : List stored.Entry) (wanted : stored.Entry → Bool) (left : List stored.Entry) (was walk : Walk) (ended : Bool) → ended ≡ true → (w : IsWalking columns rows wanted left was)
    → HasStepped columns rows wanted w.rest w.list walk ended → AreEntries walk.found (filter wanted left)
has_walked columns rows wanted left was walk ended over w s =
    subst (AreEntries walk.found) (sym (append-nil (w.list ++ s.more)) ∙ ap (λ xs. (w.list ++ s.more) ++ xs) (sym (s.last over)) ∙ append_assoc w.list s.more (filter wanted s.rest) ∙ ap (λ xs. w.list ++ xs) s.is ∙ w.is) s.are

-- ---- at most so many

-- those that were found are enough
pub has_enough : (columns : List ℕ) (rows : List stored.Entry) (wanted : stored.Entry → Bool) (left : List stored.Entry) (walk : Walk) (most : ℕ) → (w : IsWalking columns rows wanted left walk)
    → most ≤ length walk.found.rows → take most w.list ≡ take most (filter wanted left)
has_enough columns rows wanted left walk most w many =
    let found : length walk.found.rows ≡ length w.list = ap length w.are.rows ∙ length-map w.list (λ (e : stored.Entry). e.1) in
    sym (take-append-le most w.list (filter wanted w.rest) (omega (arith, many, found))) ∙ ap (take most) w.is

-- rows that are tested twice
pub filter_twice : {X : Type 0} (f g : X → Bool) (xs : List X) → filter (λ x. f x && g x) xs ≡ filter g (filter f xs)
filter_twice f g [] = refl
filter_twice f g (x ∷ xs) = both (f x) (filter_twice f g xs)
  where
    both : (c : Bool) → filter (λ x. f x && g x) xs ≡ filter g (filter f xs)
        → (if c && g x then x ∷ filter (λ x. f x && g x) xs else filter (λ x. f x && g x) xs) ≡ filter g (if c then x ∷ filter f xs else filter f xs)
    both true again = ap (λ ys. if g x then x ∷ ys else ys) again
    both false again = again

pub filter_all : {X : Type 0} (xs : List X) → filter (λ (x : X). true) xs ≡ xs
filter_all [] = refl
filter_all (x ∷ xs) = ap (λ ys. x ∷ ys) (filter_all xs)

pub above_may_skip : (low high : Bor (Bound Value)) (place : Bor Spot) (columns code : List ℕ) → StartsBelow low.now code → MaySkip (Above low high place) columns code
above_may_skip low high place columns code start e kept before =
    and_first (is_within low.now high.now (first_of (key_of columns e.1))) (is_beyond (Some (position_of place.now)) (key_of columns e.1) e.0) (bound_may_skip low.now high.now columns code start e kept before)

-- no row up to a place is sought behind it
pub above_may_pass : (low high : Bor (Bound Value)) (place : Bor Spot) (columns code : List ℕ) → AllStorable place.now.key → length place.now.key ≡ length columns → place.now.number < 2 ^ 64
    → code ≡ index_key_code place.now.key place.now.number → MayPass (Above low high place) columns code
above_may_pass low high place columns code storable long small is e kept before =
    and_none (is_within low.now high.now (first_of (key_of columns e.1))) (is_beyond (Some (position_of place.now)) (key_of columns e.1) e.0)
    (sym (beyond_place columns place.now.key place.now.number e storable long small kept) ∙ ap (λ (k : List ℕ). precedes k (code_of columns e)) (sym is) ∙ before)

pub block_is : (low high : Bor (Bound Value)) (place : Bor Spot) (columns : List ℕ) (rows : List stored.Entry) (most : ℕ)
    → take most (filter (is_wanted (Above low high place) columns) (walk_of columns rows)) ≡ block_within low.now high.now columns rows (Some (position_of place.now)) most
block_is low high place columns rows most =
    ap (take most) (filter_twice (λ (e : stored.Entry). is_within low.now high.now (first_of (key_of columns e.1))) (λ (e : stored.Entry). is_beyond (Some (position_of place.now)) (key_of columns e.1) e.0) (walk_of columns rows))

pub first_block_is : (low high : Bound Value) (columns : List ℕ) (rows : List stored.Entry) (most : ℕ) → take most (rows_within low high columns rows) ≡ block_within low high columns rows None most
first_block_is low high columns rows most = ap (take most) (sym (filter_all (rows_within low high columns rows)))

pub key_above_may_skip : (key : Bor (List Value)) (number : ℕ) (columns code : List ℕ) → IsStart key.now code → MaySkip (KeyAbove key number) columns code
key_above_may_skip key number columns code start e kept before = and_first (matches columns key.now e.1) (nat_lt number e.0) (key_may_skip key.now columns code start e before)

-- no row up to a number is sought above it
pub key_above_may_pass : (key : Bor (List Value)) (number : ℕ) (columns code : List ℕ) → AllStorable key.now → length key.now ≡ length columns → number < 2 ^ 64
    → code ≡ index_key_code key.now number → MayPass (KeyAbove key number) columns code
key_above_may_pass key number columns code storable long small is e kept before =
    key_not_above columns key.now number e
    (sym (beyond_place columns key.now number e storable long small kept) ∙ ap (λ (k : List ℕ). precedes k (code_of columns e)) (sym is) ∙ before)

-- those that match a key above a number, in the order of their numbers
pub sought_above_is : (key : Bor (List Value)) (number : ℕ) (columns : List ℕ) (rows : List stored.Entry) (most : ℕ)
    → take most (filter (is_wanted (KeyAbove key number) columns) (walk_of columns rows)) ≡ some_after (Some number) most (filter (λ (e : stored.Entry). matches columns key.now e.1) rows)
sought_above_is key number columns rows most =
    ap (take most)
    (filter_twice (λ (e : stored.Entry). matches columns key.now e.1) (λ (e : stored.Entry). nat_lt number e.0) (walk_of columns rows)
    ∙ ap (filter (λ (e : stored.Entry). nat_lt number e.0)) (matched_in_order columns key.now rows))

pub first_sought_is : (key : List Value) (columns : List ℕ) (rows : List stored.Entry) (most : ℕ)
    → take most (filter (λ (e : stored.Entry). matches columns key e.1) (walk_of columns rows)) ≡ some_after None most (filter (λ (e : stored.Entry). matches columns key e.1) rows)
first_sought_is key columns rows most = ap (take most) (matched_in_order columns key rows ∙ sym (filter_all (filter (λ (e : stored.Entry). matches columns key e.1) rows)))
