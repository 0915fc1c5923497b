-- What keys that are looked up say of the constraints of a table with more rows, before these come.
use Rattle.std.proofs.Common.{◌≡◌, ◌∙◌, refl, sym, ap, ℕ, suc, ◌+◌, Bool, true, false, cond, ◌&&◌, ◌||◌, List, [], ◌∷◌, ◌++◌, map, length, Option, Some, None, arith}
use Rattle.std.specs.Prelude.{Contains, filter, nat_eq}
use Rattle.std.specs.List.{list_any, cons_option, position_from, slice_get}
use Rattle.std.specs.Option.{option_map}
use Rattle.std.specs.Cmp.Lexicographic.{pointwise}
use Rattle.std.proofs.lemmas.Bool.{eqb-true}
use Rattle.std.proofs.lemmas.Option.{slice_get-map}
use Rattle.sqlval.specs.declared.schema.Constraint.{Constraint}
use Rattle.sqlval.specs.declared.schema.Index.{Index}
use Rattle.sqlval.specs.declared.schema.Table as declared
use Rattle.sqlval.specs.Matching.{key_of, matches}
use Rattle.sqlval.specs.Value.{Row}
use Rattle.denote.specs.Database.{Name, IndexDeclaration, CheckReading, table_of, is_violated, violated_by}
use Rattle.denote.specs.SchemaOf.{index_of}
use Rattle.store.specs.Contents.{Entry, StoredTable, rows_of}
use Rattle.store.specs.Indexes.{entries_of, columns_at, matching, sought}
use Rattle.constraints.specs.declared.foreseen.Foreseen.{Foreseen}
use Rattle.constraints.specs.declared.foreseen.Foreseen.TheVariants.{Fits, Violates, Open}
use Rattle.constraints.specs.declared.keys.Key.{Key}
use Rattle.constraints.specs.Foreseen.{columns_of_key, same_columns, place_of, key_over, keys_asked, meets, are_more, is_met, met_in, foreseen_at, foreseen_by, Foretells}
use Rattle.constraints.proofs.Behind.{counts-more, meets_rule, rule-behind, asked-met, unasked-met}
use Rattle.constraints.proofs.Broken.{behind, wider}

-- ---- what an index finds

pub any-filtered : {X : Type 0} (p : X → Bool) (xs : List X) → are_more 0 (filter p xs) ≡ list_any p xs
any-filtered p [] = refl
any-filtered p (x ∷ xs) = by (p x) refl (any-filtered p xs)
  where
    by : (b : Bool) → p x ≡ b → are_more 0 (filter p xs) ≡ list_any p xs → are_more 0 (filter p (x ∷ xs)) ≡ (b || list_any p xs)
    by true is rest = rw is (counts-more 0 (suc (length (filter p xs))) (omega arith))
    by false is rest = rw is rest

any-mapped : {X Y : Type 0} (f : X → Y) (p : Y → Bool) (xs : List X) → list_any (λ x. p (f x)) xs ≡ list_any p (map f xs)
any-mapped f p [] = refl
any-mapped f p (x ∷ xs) = ap (λ b. p (f x) || b) (any-mapped f p xs)

any-same : {X : Type 0} (p q : X → Bool) (xs : List X) → ((x : X) → p x ≡ q x) → list_any p xs ≡ list_any q xs
any-same p q [] h = refl
any-same p q (x ∷ xs) h = rw (h x, any-same p q xs h) refl

pub met-found : (table : Option StoredTable) (place : ℕ) (columns : List ℕ) (rows : List Row) → columns_at table place ≡ Some columns
    → is_met 0 table place columns rows ≡ meets columns (rows_of (entries_of table)) rows
met-found table place columns rows e = any-same
    (λ (row : Row). are_more 0 (sought table place (key_of columns row))) (λ (row : Row). list_any (matches columns (key_of columns row)) (rows_of (entries_of table))) rows
    (λ row. ap (λ o. are_more 0 (matching o (key_of columns row) (entries_of table))) e
    ∙ any-filtered (λ (e : Entry). matches columns (key_of columns row) e.1) (entries_of table)
    ∙ any-mapped (λ (e : Entry). e.1) (matches columns (key_of columns row)) (entries_of table))

-- ---- the place of an index

both_true : (a b : Bool) → (a && b) ≡ true → (a ≡ true) × (b ≡ true)
both_true true true e = (refl, refl)
both_true true false e = absurd (cc e)
both_true false b e = absurd (cc e)

equal_number : (m n : ℕ) → nat_eq m n ≡ true → m ≡ n
equal_number m n e = eqb-true m n e

equal_columns : (xs ys : List ℕ) → same_columns xs ys ≡ true → xs ≡ ys
equal_columns [] [] e = refl
equal_columns [] (y ∷ ys) e = absurd (cc e)
equal_columns (x ∷ xs) [] e = absurd (cc e)
equal_columns (x ∷ xs) (y ∷ ys) e =
    let both = both_true (nat_eq x y) (pointwise nat_eq xs ys) e in
    let head = equal_number x y both.0 in
    let tail = equal_columns xs ys both.1 in
    cc

pub some_one : {X : Type 0} (x y : X) → Some x ≡ Some y → x ≡ y
some_one x y e = cc

-- an index that is found from place k on stands k places before in what is left
placed : (columns : List ℕ) (indexes : List Index) (k place : ℕ) → position_from (λ (index : Index). same_columns index.columns columns) k indexes ≡ Some place
    → (at : ℕ) × (place ≡ k + at) × (option_map (λ (index : Index). index.columns) (slice_get indexes at) ≡ Some columns)
placed columns [] k place e = absurd (cc e)
placed columns (index ∷ indexes) k place e = by (same_columns index.columns columns) refl e (placed columns indexes (k + 1) place)
  where
    by : (b : Bool) → same_columns index.columns columns ≡ b
        → cond b (Some k) (position_from (λ (index : Index). same_columns index.columns columns) (k + 1) indexes) ≡ Some place
        → (position_from (λ (index : Index). same_columns index.columns columns) (k + 1) indexes ≡ Some place
        → (at : ℕ) × (place ≡ (k + 1) + at) × (option_map (λ (index : Index). index.columns) (slice_get indexes at) ≡ Some columns))
        → (at : ℕ) × (place ≡ k + at) × (option_map (λ (index : Index). index.columns) (slice_get (index ∷ indexes) at) ≡ Some columns)
    by true is found rest =
        let here : k ≡ place = some_one k place found in
        (0, omega (arith, here), ap (λ c. Some c) (equal_columns index.columns columns is))
    by false is found rest =
        let there = rest found in
        let more = there.1 in
        (suc there.0, omega (arith, more), there.2)

pub index_there : (columns : List ℕ) (indexes : List Index) (table : StoredTable) (place : ℕ) → place_of columns indexes ≡ Some place → map index_of indexes ≡ table.indexes
    → columns_at (Some table) place ≡ Some columns
index_there columns indexes table place e declares =
    let found = placed columns indexes 0 place e in
    let at : place ≡ found.0 = found.1 ∙ zero-plus found.0 in
    ap (λ (k : ℕ). columns_at (Some table) k) at
    ∙ ap (λ (is : List IndexDeclaration). option_map (λ (i : IndexDeclaration). i.columns) (slice_get is found.0)) (sym declares)
    ∙ ap (option_map (λ (i : IndexDeclaration). i.columns)) (slice_get-map index_of indexes found.0)
    ∙ mapped-mapped (slice_get indexes found.0)
    ∙ found.2
  where
    zero-plus : (n : ℕ) → 0 + n ≡ n
    zero-plus n = omega arith

    mapped-mapped : (o : Option Index) → option_map (λ (i : IndexDeclaration). i.columns) (option_map index_of o) ≡ option_map (λ (i : Index). i.columns) o
    mapped-mapped None = refl
    mapped-mapped (Some i) = refl

-- ---- constraints

module _ (q : Constraint → Bool) (met : Key → Option Bool) (indexes : List Index) where
  -- what is met names a constraint at which the test passes
  pub names-one : ((c : Constraint) (columns : List ℕ) → columns_of_key c.rule ≡ Some columns → met (key_over indexes c.name columns) ≡ Some true → q c ≡ true)
      → (cs : List Constraint) (n : Name) → foreseen_by met (keys_asked indexes cs) ≡ Violates n → Contains (map (λ (c : Constraint). c.name) (filter q cs)) n
  names-one h [] n e = absurd (cc e)
  names-one h (c ∷ cs) n e = by (columns_of_key c.rule) refl e (names-one h cs n)
    where
      further : (b : Bool) → Contains (map (λ (c : Constraint). c.name) (filter q cs)) n → Contains (map (λ (c : Constraint). c.name) (cond b (c ∷ filter q cs) (filter q cs))) n
      further true one = behind n c.name (map (λ (c : Constraint). c.name) (filter q cs)) one
      further false one = one

      here : (b : Bool) → b ≡ true → n ≡ c.name → Contains (map (λ (c : Constraint). c.name) (cond b (c ∷ filter q cs) (filter q cs))) n
      here true is named = (0, omega arith, sym named)
      here false is named = absurd (cc is)

      at : (columns : List ℕ) → columns_of_key c.rule ≡ Some columns → (o : Option Bool) → met (key_over indexes c.name columns) ≡ o
          → foreseen_at o c.name (foreseen_by met (keys_asked indexes cs)) ≡ Violates n
          → (foreseen_by met (keys_asked indexes cs) ≡ Violates n → Contains (map (λ (c : Constraint). c.name) (filter q cs)) n)
          → Contains (map (λ (c : Constraint). c.name) (cond (q c) (c ∷ filter q cs) (filter q cs))) n
      at columns asked None is found rest = absurd (cc found)
      at columns asked (Some true) is found rest = here (q c) (h c columns asked is) (sym (same_name_violated c.name n found))
        where
          same_name_violated : (a b : Name) → Violates a ≡ Violates b → a ≡ b
          same_name_violated a b e = cc
      at columns asked (Some false) is found rest = further (q c) (rest found)

      by : (o : Option (List ℕ)) → columns_of_key c.rule ≡ o
          → foreseen_by met (cons_option (option_map (key_over indexes c.name) o) (keys_asked indexes cs)) ≡ Violates n
          → (foreseen_by met (keys_asked indexes cs) ≡ Violates n → Contains (map (λ (c : Constraint). c.name) (filter q cs)) n)
          → Contains (map (λ (c : Constraint). c.name) (cond (q c) (c ∷ filter q cs) (filter q cs))) n
      by None asked found rest = further (q c) (rest found)
      by (Some columns) asked found rest = at columns asked (met (key_over indexes c.name columns)) refl found rest

module _ (old new q m : Constraint → Bool) (met : Key → Option Bool) (indexes : List Index) (either : (c : Constraint) → q c ≡ (old c || (new c || m c))) where
  -- where none is met, the test passes where one of the others does
  pub none-named : ((c : Constraint) (columns : List ℕ) → columns_of_key c.rule ≡ Some columns → met (key_over indexes c.name columns) ≡ Some false → m c ≡ false)
      → ((c : Constraint) → columns_of_key c.rule ≡ None → m c ≡ false)
      → (cs : List Constraint) → foreseen_by met (keys_asked indexes cs) ≡ Fits
      → map (λ (c : Constraint). c.name) (filter old cs) ≡ [] → map (λ (c : Constraint). c.name) (filter new cs) ≡ [] → map (λ (c : Constraint). c.name) (filter q cs) ≡ []
  none-named h g [] e before alone = refl
  none-named h g (c ∷ cs) e before alone = by (columns_of_key c.rule) refl e (none-named h g cs)
    where
      not_first : (p : Constraint → Bool) (b : Bool) → map (λ (c : Constraint). c.name) (cond b (c ∷ filter p cs) (filter p cs)) ≡ []
          → (b ≡ false) × (map (λ (c : Constraint). c.name) (filter p cs) ≡ [])
      not_first p true none = absurd (cc none)
      not_first p false none = (refl, none)

      none_of : (a b d r : Bool) → r ≡ (a || (b || d)) → a ≡ false → b ≡ false → d ≡ false → r ≡ false
      none_of a b d r e x y z = e ∙ (λ i. x i || (y i || z i))

      passed : (b : Bool) → b ≡ false → map (λ (c : Constraint). c.name) (filter q cs) ≡ [] → map (λ (c : Constraint). c.name) (cond b (c ∷ filter q cs) (filter q cs)) ≡ []
      passed true is rest = absurd (cc is)
      passed false is rest = rest

      without : m c ≡ false → foreseen_by met (keys_asked indexes cs) ≡ Fits
          → (foreseen_by met (keys_asked indexes cs) ≡ Fits → map (λ (c : Constraint). c.name) (filter old cs) ≡ [] → map (λ (c : Constraint). c.name) (filter new cs) ≡ []
          → map (λ (c : Constraint). c.name) (filter q cs) ≡ [])
          → map (λ (c : Constraint). c.name) (cond (q c) (c ∷ filter q cs) (filter q cs)) ≡ []
      without unmet rest later =
          let a = not_first old (old c) before in
          let b = not_first new (new c) alone in
          passed (q c) (none_of (old c) (new c) (m c) (q c) (either c) a.0 b.0 unmet) (later rest a.1 b.1)

      at : (columns : List ℕ) → columns_of_key c.rule ≡ Some columns → (o : Option Bool) → met (key_over indexes c.name columns) ≡ o
          → foreseen_at o c.name (foreseen_by met (keys_asked indexes cs)) ≡ Fits
          → (foreseen_by met (keys_asked indexes cs) ≡ Fits → map (λ (c : Constraint). c.name) (filter old cs) ≡ [] → map (λ (c : Constraint). c.name) (filter new cs) ≡ []
          → map (λ (c : Constraint). c.name) (filter q cs) ≡ [])
          → map (λ (c : Constraint). c.name) (cond (q c) (c ∷ filter q cs) (filter q cs)) ≡ []
      at columns asked None is found later = absurd (cc found)
      at columns asked (Some true) is found later = absurd (cc found)
      at columns asked (Some false) is found later = without (h c columns asked is) found later

      by : (o : Option (List ℕ)) → columns_of_key c.rule ≡ o
          → foreseen_by met (cons_option (option_map (key_over indexes c.name) o) (keys_asked indexes cs)) ≡ Fits
          → (foreseen_by met (keys_asked indexes cs) ≡ Fits → map (λ (c : Constraint). c.name) (filter old cs) ≡ [] → map (λ (c : Constraint). c.name) (filter new cs) ≡ []
          → map (λ (c : Constraint). c.name) (filter q cs) ≡ [])
          → map (λ (c : Constraint). c.name) (cond (q c) (c ∷ filter q cs) (filter q cs)) ≡ []
      by None asked found later = without (g c asked) found later
      by (Some columns) asked found later = at columns asked (met (key_over indexes c.name columns)) refl found later

-- ---- the table

module _ (reading : CheckReading) (name : Name) (d : declared.Table) (table : StoredTable) (new : List Row) (indexes : map index_of d.indexes ≡ table.indexes) where
  abbrev pub met_here : Key → Option Bool
  met_here = met_in 0 (Some table) new

  -- what is found of a key is whether its columns are met
  found-met : (constraint : Name) (columns : List ℕ) (b : Bool) → met_here (key_over d.indexes constraint columns) ≡ Some b → meets columns (rows_of table.entries) new ≡ b
  found-met constraint columns b e = by (place_of columns d.indexes) refl e
    where
      by : (o : Option ℕ) → place_of columns d.indexes ≡ o → option_map (λ (place : ℕ). is_met 0 (Some table) place columns new) o ≡ Some b → meets columns (rows_of table.entries) new ≡ b
      by None is found = absurd (cc found)
      by (Some place) is found =
          sym (met-found (Some table) place columns new (index_there columns d.indexes table place is indexes))
          ∙ some_one (is_met 0 (Some table) place columns new) b found

  pub foretold : (foreseen : Foreseen) → foreseen ≡ foreseen_by met_here (keys_asked d.indexes d.constraints) → violated_by reading name (table_of d new) ≡ []
      → Foretells foreseen (violated_by reading name (table_of d (rows_of table.entries)) ≡ [] → violated_by reading name (table_of d (rows_of table.entries ++ new)) ≡ [])
      (λ constraint. Contains (violated_by reading name (table_of d (rows_of table.entries ++ new))) constraint)
  foretold Fits e alone = λ before.
      none-named (λ (c : Constraint). is_violated reading name (table_of d (rows_of table.entries)) c.rule) (λ (c : Constraint). is_violated reading name (table_of d new) c.rule)
      (λ (c : Constraint). is_violated reading name (table_of d (rows_of table.entries ++ new)) c.rule) (λ (c : Constraint). meets_rule c.rule (rows_of table.entries) new)
      met_here d.indexes (λ c. rule-behind reading name d (rows_of table.entries) new c.rule)
      (λ c columns asked is. asked-met c.rule columns (rows_of table.entries) new asked ∙ found-met c.name columns false is)
      (λ c asked. unasked-met c.rule (rows_of table.entries) new asked)
      d.constraints (sym e) before alone
  foretold (Violates constraint) e alone =
      names-one (λ (c : Constraint). is_violated reading name (table_of d (rows_of table.entries ++ new)) c.rule) met_here d.indexes
      (λ c columns asked is. last (is_violated reading name (table_of d (rows_of table.entries)) c.rule) (is_violated reading name (table_of d new) c.rule)
      (meets_rule c.rule (rows_of table.entries) new) (is_violated reading name (table_of d (rows_of table.entries ++ new)) c.rule) (rule-behind reading name d (rows_of table.entries) new c.rule)
      (asked-met c.rule columns (rows_of table.entries) new asked ∙ found-met c.name columns true is))
      d.constraints constraint (sym e)
    where
      last : (a b m r : Bool) → r ≡ (a || (b || m)) → m ≡ true → r ≡ true
      last true b m r e is = e
      last false true m r e is = e
      last false false m r e is = e ∙ is
  foretold Open e alone = tt

  -- what the new rows violate alone, the table violates with them
  pub violated-alone : (constraint : Name) → Contains (violated_by reading name (table_of d new)) constraint → Contains (violated_by reading name (table_of d (rows_of table.entries ++ new))) constraint
  violated-alone constraint one =
      wider (λ (c : Constraint). is_violated reading name (table_of d new) c.rule) (λ (c : Constraint). is_violated reading name (table_of d (rows_of table.entries ++ new)) c.rule)
      (λ c is. middle (is_violated reading name (table_of d (rows_of table.entries)) c.rule) (is_violated reading name (table_of d new) c.rule)
      (meets_rule c.rule (rows_of table.entries) new) (is_violated reading name (table_of d (rows_of table.entries ++ new)) c.rule) (rule-behind reading name d (rows_of table.entries) new c.rule) is)
      d.constraints constraint one
    where
      middle : (a b m r : Bool) → r ≡ (a || (b || m)) → b ≡ true → r ≡ true
      middle true b m r e is = e
      middle false true m r e is = e
      middle false false m r e is = absurd (cc is)
