-- What keys that are looked up say of the constraints of a table, once the rows have come to
-- others: a row is found by its own key, and a second one is its twin.
use Rattle.std.proofs.Common.{◌≡◌, ◌∙◌, refl, sym, ap, subst, ℕ, suc, ◌+◌, ◌<◌, Bool, true, false, cond, ◌||◌, List, [], ◌∷◌, ◌++◌, map, length, Option, Some, None, arith}
use Rattle.std.specs.Prelude.{Contains, filter, nat_lt}
use Rattle.std.specs.List.{list_any}
use Rattle.std.specs.Option.{option_map}
use Rattle.std.specs.Cmp.Lexicographic.{pointwise}
use Rattle.sqlval.specs.declared.schema.Constraint.{Constraint}
use Rattle.sqlval.specs.declared.schema.Rule.{Rule}
use Rattle.sqlval.specs.declared.schema.Rule.TheVariants.{NotNull, PrimaryKey, Unique, Check, ForeignKey}
use Rattle.sqlval.specs.declared.schema.Table as declared
use Rattle.sqlval.specs.declared.value.Value.{Value}
use Rattle.sqlval.specs.Matching.{is_equal, key_of, matches}
use Rattle.sqlval.specs.Value.{Row, is_null}
use Rattle.denote.specs.Bag.{Permutes}
use Rattle.denote.specs.Bag.Permutes.{nothing, keeps, exchanges, goes_on}
use Rattle.denote.specs.Database.{Name, CheckReading, table_of, check_at, is_false, has_null, has_twins, is_violated, violated_by}
use Rattle.denote.specs.SchemaOf.{index_of}
use Rattle.store.specs.Contents.{Entry, StoredTable, rows_of}
use Rattle.store.specs.Indexes.{entries_of, columns_at, matching, sought}
use Rattle.constraints.specs.declared.foreseen.Foreseen.{Foreseen}
use Rattle.constraints.specs.declared.foreseen.Foreseen.TheVariants.{Fits, Violates, Open}
use Rattle.constraints.specs.declared.keys.Key.{Key}
use Rattle.constraints.specs.Foreseen.{columns_of_key, place_of, key_over, keys_asked, meets, are_more, is_met, met_in, foreseen_by, Foretells}
use Rattle.constraints.proofs.Behind.{any-same, counts-more, equal-keys, keys-turned, more-counts, meets_rule, rule-behind, asked-met, unasked-met}
use Rattle.constraints.proofs.Broken.{wider}
use Rattle.constraints.proofs.Declared.{any-permutes}
use Rattle.constraints.proofs.Foretelling.{some_one, index_there, names-one, none-named}

-- ---- in any order

filtered-permutes : {X : Type 0} (p : X → Bool) (xs ys : List X) → Permutes xs ys → length (filter p xs) ≡ length (filter p ys)
filtered-permutes p _ _ nothing = refl
filtered-permutes {X = X} p _ _ (keeps x {xs} {ys} h) = by (p x) (filtered-permutes p xs ys h)
  where
    by : (b : Bool) → length (filter p xs) ≡ length (filter p ys) → length (cond b (x ∷ filter p xs) (filter p xs)) ≡ length (cond b (x ∷ filter p ys) (filter p ys))
    by true e = ap suc e
    by false e = e
filtered-permutes {X = X} p _ _ (exchanges x y xs) = by (p x) (p y) (filter p xs)
  where
    by : (b c : Bool) (zs : List X) → length (cond b (x ∷ cond c (y ∷ zs) zs) (cond c (y ∷ zs) zs)) ≡ length (cond c (y ∷ cond b (x ∷ zs) zs) (cond b (x ∷ zs) zs))
    by true true zs = refl
    by true false zs = refl
    by false true zs = refl
    by false false zs = refl
filtered-permutes p _ _ (goes_on {xs} {ys} {zs} h g) = filtered-permutes p xs ys h ∙ filtered-permutes p ys zs g

twins-permutes : (columns : List ℕ) (xs ys : List Row) → Permutes xs ys → has_twins columns xs ≡ has_twins columns ys
twins-permutes columns _ _ nothing = refl
twins-permutes columns _ _ (keeps x {xs} {ys} h) =
    rw (any-permutes (matches columns (key_of columns x)) xs ys h, twins-permutes columns xs ys h) refl
twins-permutes columns _ _ (exchanges x y xs) =
    rw (keys-turned (key_of columns y) (key_of columns x))
    (four (matches columns (key_of columns y) x) (list_any (matches columns (key_of columns x)) xs) (list_any (matches columns (key_of columns y)) xs) (has_twins columns xs))
  where
    four : (a b c d : Bool) → ((a || b) || (c || d)) ≡ ((a || c) || (b || d))
    four true b c d = refl
    four false true true d = refl
    four false true false d = refl
    four false false true d = refl
    four false false false d = refl
twins-permutes columns _ _ (goes_on {xs} {ys} {zs} h g) = twins-permutes columns xs ys h ∙ twins-permutes columns ys zs g

rule-permutes : (reading : CheckReading) (name : Name) (d : declared.Table) (xs ys : List Row) → Permutes xs ys → (r : Rule)
    → is_violated reading name (table_of d xs) r ≡ is_violated reading name (table_of d ys) r
rule-permutes reading name d xs ys h (NotNull column) = any-permutes (λ (row : Row). list_any is_null (key_of (column ∷ []) row)) xs ys h
rule-permutes reading name d xs ys h (PrimaryKey columns) =
    rw (any-permutes (λ (row : Row). list_any is_null (key_of columns row)) xs ys h, twins-permutes columns xs ys h) refl
rule-permutes reading name d xs ys h (Unique columns) = twins-permutes columns xs ys h
rule-permutes reading name d xs ys h (Check text) = any-permutes (λ (row : Row). is_false (check_at (reading name d.columns text) row)) xs ys h
rule-permutes reading name d xs ys h (ForeignKey reference) = refl

-- ---- how many are found

filtered-append : {X : Type 0} (p : X → Bool) (xs ys : List X) → length (filter p (xs ++ ys)) ≡ length (filter p xs) + length (filter p ys)
filtered-append p [] ys = omega arith
filtered-append p (x ∷ xs) ys = by (p x) (filtered-append p xs ys)
  where
    by : (b : Bool) → length (filter p (xs ++ ys)) ≡ length (filter p xs) + length (filter p ys)
        → length (cond b (x ∷ filter p (xs ++ ys)) (filter p (xs ++ ys))) ≡ length (cond b (x ∷ filter p xs) (filter p xs)) + length (filter p ys)
    by true e = omega (arith, e)
    by false e = e

any-counts : {X : Type 0} (p : X → Bool) (xs : List X) → list_any p xs ≡ true → 0 < length (filter p xs)
any-counts p [] e = absurd (cc e)
any-counts p (x ∷ xs) e = by (p x) e (any-counts p xs)
  where
    by : (b : Bool) → (b || list_any p xs) ≡ true → (list_any p xs ≡ true → 0 < length (filter p xs)) → 0 < length (cond b (x ∷ filter p xs) (filter p xs))
    by true e rest = omega arith
    by false e rest = rest e

counts-any : {X : Type 0} (p : X → Bool) (xs : List X) → 0 < length (filter p xs) → list_any p xs ≡ true
counts-any p [] e = absurd (omega (arith, e))
counts-any p (x ∷ xs) e = by (p x) e (counts-any p xs)
  where
    by : (b : Bool) → 0 < length (cond b (x ∷ filter p xs) (filter p xs)) → (0 < length (filter p xs) → list_any p xs ≡ true) → (b || list_any p xs) ≡ true
    by true e rest = refl
    by false e rest = rest e

either-true : (a b : Bool) → b ≡ true → (a || b) ≡ true
either-true true b e = refl
either-true false b e = e

first-true : (a b : Bool) → a ≡ true → (a || b) ≡ true
first-true a b e = ap (λ c. c || b) e

neither : (a b : Bool) → (a || b) ≡ false → (a ≡ false) × (b ≡ false)
neither true b e = absurd (cc e)
neither false b e = (refl, e)

-- ---- twins

module _ (columns : List ℕ) where
  -- two rows of one key are twins
  two-twins : (key : List Value) (whole : List Row) → 1 < length (filter (matches columns key) whole) → has_twins columns whole ≡ true
  two-twins key [] two = absurd (omega (arith, two))
  two-twins key (row ∷ whole) two = by (matches columns key row) refl two (two-twins key whole)
    where
      by : (b : Bool) → matches columns key row ≡ b → 1 < length (cond b (row ∷ filter (matches columns key) whole) (filter (matches columns key) whole))
          → (1 < length (filter (matches columns key) whole) → has_twins columns whole ≡ true) → (list_any (matches columns (key_of columns row)) whole || has_twins columns whole) ≡ true
      by true is two rest =
          let one : key_of columns row ≡ key = equal-keys (key_of columns row) key is in
          first-true (list_any (matches columns (key_of columns row)) whole) (has_twins columns whole)
          (ap (λ (k : List Value). list_any (matches columns k) whole) one ∙ counts-any (matches columns key) whole (omega (arith, two)))
      by false is two rest = either-true (list_any (matches columns (key_of columns row)) whole) (has_twins columns whole) (rest two)

  -- what is found twice has a twin
  pub found-twins : (whole rows : List Row) → list_any (λ (row : Row). nat_lt 1 (length (filter (matches columns (key_of columns row)) whole))) rows ≡ true → has_twins columns whole ≡ true
  found-twins whole [] e = absurd (cc e)
  found-twins whole (row ∷ rows) e = by (nat_lt 1 (length (filter (matches columns (key_of columns row)) whole))) refl e (found-twins whole rows)
    where
      by : (b : Bool) → nat_lt 1 (length (filter (matches columns (key_of columns row)) whole)) ≡ b
          → (b || list_any (λ (row : Row). nat_lt 1 (length (filter (matches columns (key_of columns row)) whole))) rows) ≡ true
          → (list_any (λ (row : Row). nat_lt 1 (length (filter (matches columns (key_of columns row)) whole))) rows ≡ true → has_twins columns whole ≡ true) → has_twins columns whole ≡ true
      by true is e rest = two-twins (key_of columns row) whole (more-counts 1 (length (filter (matches columns (key_of columns row)) whole)) is)
      by false is e rest = rest e

  -- a row whose key another row has is found by its own key
  own-found : (row : Row) (others : List Row) → list_any (matches columns (key_of columns row)) others ≡ true → matches columns (key_of columns row) row ≡ true
  own-found row [] e = absurd (cc e)
  own-found row (other ∷ others) e = by (matches columns (key_of columns row) other) refl e (own-found row others)
    where
      by : (b : Bool) → matches columns (key_of columns row) other ≡ b → (b || list_any (matches columns (key_of columns row)) others) ≡ true
          → (list_any (matches columns (key_of columns row)) others ≡ true → matches columns (key_of columns row) row ≡ true) → matches columns (key_of columns row) row ≡ true
      by true is e rest =
          let one : key_of columns other ≡ key_of columns row = equal-keys (key_of columns other) (key_of columns row) is in
          subst (λ (k : List Value). pointwise is_equal k (key_of columns row) ≡ true) one is
      by false is e rest = rest e

  module _ (others rows whole : List Row) (order : Permutes (others ++ rows) whole) where
    -- where no row is found twice, none has the key of one of the others
    once-unmet : (some : List Row) → ((p : Row → Bool) → list_any p some ≡ true → list_any p rows ≡ true)
        → list_any (λ (row : Row). nat_lt 1 (length (filter (matches columns (key_of columns row)) whole))) some ≡ false → meets columns others some ≡ false
    once-unmet [] among e = refl
    once-unmet (row ∷ some) among e =
        let none = neither (nat_lt 1 (length (filter (matches columns (key_of columns row)) whole)))
        (list_any (λ (row : Row). nat_lt 1 (length (filter (matches columns (key_of columns row)) whole))) some) e in
        by (list_any (matches columns (key_of columns row)) others) refl none.0
        (once-unmet some (λ p one. among p (either-true (p row) (list_any p some) one)) none.1)
      where
        by : (b : Bool) → list_any (matches columns (key_of columns row)) others ≡ b → nat_lt 1 (length (filter (matches columns (key_of columns row)) whole)) ≡ false
            → meets columns others some ≡ false → (b || meets columns others some) ≡ false
        by false is once rest = rest
        by true is once rest =
            let p : Row → Bool = matches columns (key_of columns row) in
            let own = own-found row others is in
            let here = any-counts p rows (among p (first-true (p row) (list_any p some) own)) in
            let there = any-counts p others is in
            let all : length (filter p others) + length (filter p rows) ≡ length (filter p whole) = sym (filtered-append p others rows) ∙ filtered-permutes p (others ++ rows) whole order in
            let two : 1 < length (filter p whole) = omega (arith, here, there, all) in
            let more = counts-more 1 (length (filter p whole)) two in
            absurd (cc (once, more))

    pub unmet : list_any (λ (row : Row). nat_lt 1 (length (filter (matches columns (key_of columns row)) whole))) rows ≡ false → meets columns others rows ≡ false
    unmet e = once-unmet rows (λ p one. one) e

-- ---- what an index finds

filtered-mapped : {X Y : Type 0} (f : X → Y) (p : Y → Bool) (xs : List X) → length (filter (λ x. p (f x)) xs) ≡ length (filter p (map f xs))
filtered-mapped f p [] = refl
filtered-mapped f p (x ∷ xs) = by (p (f x)) (filtered-mapped f p xs)
  where
    by : (b : Bool) → length (filter (λ x. p (f x)) xs) ≡ length (filter p (map f xs))
        → length (cond b (x ∷ filter (λ x. p (f x)) xs) (filter (λ x. p (f x)) xs)) ≡ length (cond b (f x ∷ filter p (map f xs)) (filter p (map f xs)))
    by true e = ap suc e
    by false e = e

found-again : (table : Option StoredTable) (place : ℕ) (columns : List ℕ) (rows : List Row) → columns_at table place ≡ Some columns
    → is_met 1 table place columns rows ≡ list_any (λ (row : Row). nat_lt 1 (length (filter (matches columns (key_of columns row)) (rows_of (entries_of table))))) rows
found-again table place columns rows e = any-same
    (λ (row : Row). are_more 1 (sought table place (key_of columns row)))
    (λ (row : Row). nat_lt 1 (length (filter (matches columns (key_of columns row)) (rows_of (entries_of table))))) rows
    (λ row. ap (λ o. are_more 1 (matching o (key_of columns row) (entries_of table))) e
    ∙ ap (nat_lt 1) (filtered-mapped (λ (e : Entry). e.1) (matches columns (key_of columns row)) (entries_of table)))

-- ---- the table

twins-violate : (reading : CheckReading) (name : Name) (d : declared.Table) (rows : List Row) (r : Rule) (columns : List ℕ) → columns_of_key r ≡ Some columns → has_twins columns rows ≡ true
    → is_violated reading name (table_of d rows) r ≡ true
twins-violate reading name d rows (NotNull column) columns asked e = absurd (cc asked)
twins-violate reading name d rows (PrimaryKey own) columns asked e =
    let same : own ≡ columns = some_one own columns asked in
    either-true (has_null own rows) (has_twins own rows) (ap (λ cs. has_twins cs rows) same ∙ e)
twins-violate reading name d rows (Unique own) columns asked e = let same : own ≡ columns = some_one own columns asked in ap (λ cs. has_twins cs rows) same ∙ e
twins-violate reading name d rows (Check text) columns asked e = absurd (cc asked)
twins-violate reading name d rows (ForeignKey reference) columns asked e = absurd (cc asked)

module _ (reading : CheckReading) (name : Name) (d : declared.Table) (table : StoredTable) (others new : List Row) (indexes : map index_of d.indexes ≡ table.indexes)
    (order : Permutes (others ++ new) (rows_of table.entries)) where
  abbrev met_here : Key → Option Bool
  met_here = met_in 1 (Some table) new

  -- what is found of a key is whether some row is found twice
  found-met : (constraint : Name) (columns : List ℕ) (b : Bool) → met_here (key_over d.indexes constraint columns) ≡ Some b
      → list_any (λ (row : Row). nat_lt 1 (length (filter (matches columns (key_of columns row)) (rows_of table.entries)))) new ≡ b
  found-met constraint columns b e = by (place_of columns d.indexes) refl e
    where
      by : (o : Option ℕ) → place_of columns d.indexes ≡ o → option_map (λ (place : ℕ). is_met 1 (Some table) place columns new) o ≡ Some b
          → list_any (λ (row : Row). nat_lt 1 (length (filter (matches columns (key_of columns row)) (rows_of table.entries)))) new ≡ b
      by None is found = absurd (cc found)
      by (Some place) is found =
          sym (found-again (Some table) place columns new (index_there columns d.indexes table place is indexes))
          ∙ some_one (is_met 1 (Some table) place columns new) b found

  either : (r : Rule) → is_violated reading name (table_of d (rows_of table.entries)) r
      ≡ (is_violated reading name (table_of d others) r || (is_violated reading name (table_of d new) r || meets_rule r others new))
  either r = sym (rule-permutes reading name d (others ++ new) (rows_of table.entries) order r) ∙ rule-behind reading name d others new r

  pub retold : (foreseen : Foreseen) → foreseen ≡ foreseen_by met_here (keys_asked d.indexes d.constraints) → violated_by reading name (table_of d new) ≡ []
      → Foretells foreseen (violated_by reading name (table_of d others) ≡ [] → violated_by reading name (table_of d (rows_of table.entries)) ≡ [])
      (λ constraint. Contains (violated_by reading name (table_of d (rows_of table.entries))) constraint)
  retold Fits e alone = λ before.
      none-named (λ (c : Constraint). is_violated reading name (table_of d others) c.rule) (λ (c : Constraint). is_violated reading name (table_of d new) c.rule)
      (λ (c : Constraint). is_violated reading name (table_of d (rows_of table.entries)) c.rule) (λ (c : Constraint). meets_rule c.rule others new)
      met_here d.indexes (λ c. either c.rule)
      (λ c columns asked is. asked-met c.rule columns others new asked ∙ unmet columns others new (rows_of table.entries) order (found-met c.name columns false is))
      (λ c asked. unasked-met c.rule others new asked)
      d.constraints (sym e) before alone
  retold (Violates constraint) e alone =
      names-one (λ (c : Constraint). is_violated reading name (table_of d (rows_of table.entries)) c.rule) met_here d.indexes
      (λ c columns asked is. twins-violate reading name d (rows_of table.entries) c.rule columns asked (found-twins columns (rows_of table.entries) new (found-met c.name columns true is)))
      d.constraints constraint (sym e)
  retold Open e alone = tt

  -- what the new rows violate alone, the table violates
  pub violated-among : (constraint : Name) → Contains (violated_by reading name (table_of d new)) constraint → Contains (violated_by reading name (table_of d (rows_of table.entries))) constraint
  violated-among constraint one =
      wider (λ (c : Constraint). is_violated reading name (table_of d new) c.rule) (λ (c : Constraint). is_violated reading name (table_of d (rows_of table.entries)) c.rule)
      (λ c is. middle (is_violated reading name (table_of d others) c.rule) (is_violated reading name (table_of d new) c.rule)
      (meets_rule c.rule others new) (is_violated reading name (table_of d (rows_of table.entries)) c.rule) (either c.rule) is)
      d.constraints constraint one
    where
      middle : (a b m r : Bool) → r ≡ (a || (b || m)) → b ≡ true → r ≡ true
      middle true b m r e is = e
      middle false true m r e is = e
      middle false false m r e is = absurd (cc is)
