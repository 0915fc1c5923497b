-- A row that is not matched, and a row that went and that another one still references, show that a
-- database violates a foreign key.
use Rattle.std.proofs.Common.{◌≡◌, refl, ap, sym, ◌∙◌, subst, ◌<◌, zero, suc, ℕ, Bool, true, false, cond, not, ◌&&◌, ◌||◌, List, [], ◌∷◌, ◌++◌, map, Some, ◌⊎◌, inl, inr, arith}
use Rattle.std.specs.Prelude.{Contains, filter, length, slice_index_or}
use Rattle.std.specs.List.{list_any}
use Rattle.std.specs.Cmp.Lexicographic.{pointwise}
use Rattle.std.specs.FinMap.{get}
use Rattle.std.proofs.lemmas.List.Elements.{Contains-append_right, Contains-append_cases}
use Rattle.sqlval.specs.declared.schema.Constraint.{Constraint}
use Rattle.sqlval.specs.declared.schema.Reference.{Reference}
use Rattle.sqlval.specs.declared.schema.Rule.TheVariants.{ForeignKey}
use Rattle.sqlval.specs.declared.value.Value.{Value}
use Rattle.sqlval.specs.declared.value.Value.TheVariants.{Null, Int, Text}
use Rattle.sqlval.specs.Matching.{is_equal, key_of, matches}
use Rattle.sqlval.specs.Value.{Row, is_null}
use Rattle.denote.specs.Database.{Name, Table, Database, rows_in, CheckReading, violated_by, is_matched, has_unmatched, is_unmatched, unmatched_by, violated_in}
use Rattle.denote_laws.specs.Difference.{may_go}
use Rattle.denote_laws.proofs.Referring.{equal_keys, or_left, or_right}
use Rattle.denote_laws.proofs.Violated.{violated-at}

-- ---- members of lists

pub none_in : {X : Type 0} (x : X) → Contains [] x → ⊥
none_in x h = let l : h.0 < 0 = h.1 in omega arith

only_one : {X : Type 0} (y x : X) → Contains (y ∷ []) x → y ≡ x
only_one y x c = by c.0 c.1 c.2
  where
    by : (k : ℕ) → k < 1 → slice_index_or (y ∷ []) k x ≡ x → y ≡ x
    by zero below is = is
    by (suc k) below is = absurd (omega arith)

pub first_or_later : {X : Type 0} (y : X) (ys : List X) (x : X) → Contains (y ∷ ys) x → (y ≡ x) ⊎ Contains ys x
first_or_later y ys x c = elim (Contains-append_cases (y ∷ []) ys x c) [ inl h ↦ inl (only_one y x h) | inr h ↦ inr h ]

named-contains : (p : Constraint → Bool) (cs : List Constraint) (c : Constraint) → Contains cs c → p c ≡ true → Contains (map (λ k. k.name) (filter p cs)) c.name
named-contains p [] c h e = absurd (none_in c h)
named-contains p (k ∷ cs) c h e = by (p k) refl (first_or_later k cs c h) (λ later. named-contains p cs c later e)
  where
    begins : Contains (k.name ∷ map (λ (x : Constraint). x.name) (filter p cs)) k.name
    begins = (0, omega arith, refl)

    by : (b : Bool) → p k ≡ b → (k ≡ c) ⊎ Contains cs c → (Contains cs c → Contains (map (λ (x : Constraint). x.name) (filter p cs)) c.name)
        → Contains (map (λ (x : Constraint). x.name) (cond b (k ∷ filter p cs) (filter p cs))) c.name
    by true is (inl same) rest = subst (λ (x : Constraint). Contains (k.name ∷ map (λ (y : Constraint). y.name) (filter p cs)) x.name) same begins
    by true is (inr later) rest = Contains-append_right (k.name ∷ []) (map (λ (x : Constraint). x.name) (filter p cs)) c.name (rest later)
    by false is (inl same) rest = absurd (let f : p k ≡ true = ap p same ∙ e in cc)
    by false is (inr later) rest = rest later

pub any-contained : {X : Type 0} (p : X → Bool) (xs : List X) (x : X) → Contains xs x → p x ≡ true → list_any p xs ≡ true
any-contained p [] x h e = absurd (none_in x h)
any-contained p (y ∷ xs) x h e = by (first_or_later y xs x h) (λ later. any-contained p xs x later e)
  where
    by : (y ≡ x) ⊎ Contains xs x → (Contains xs x → list_any p xs ≡ true) → (p y || list_any p xs) ≡ true
    by (inl same) rest = or_left (p y) (list_any p xs) (ap p same ∙ e)
    by (inr later) rest = or_right (p y) (list_any p xs) (rest later)

-- ---- rows that are not matched

equal_not_null : (x y : Value) → is_equal x y ≡ true → is_null x ≡ false
equal_not_null Null Null e = absurd (cc)
equal_not_null Null (Int y) e = absurd (cc)
equal_not_null Null (Text y) e = absurd (cc)
equal_not_null (Int x) y e = refl
equal_not_null (Text x) y e = refl

and-both : (a b : Bool) → (a && b) ≡ true → (a ≡ true) × (b ≡ true)
and-both true b e = (refl, e)
and-both false b e = absurd (cc)

or-none : (a b : Bool) → a ≡ false → b ≡ false → (a || b) ≡ false
or-none true b e f = absurd (cc)
or-none false b e f = f

equal_none_null : (xs ys : List Value) → pointwise is_equal xs ys ≡ true → list_any is_null xs ≡ false
equal_none_null [] ys e = refl
equal_none_null (x ∷ xs) [] e = absurd (cc)
equal_none_null (x ∷ xs) (y ∷ ys) e =
    let both = and-both (is_equal x y) (pointwise is_equal xs ys) e in
    or-none (is_null x) (list_any is_null xs) (equal_not_null x y both.0) (equal_none_null xs ys both.1)

unmatched_one : (reference : Reference) (others : List Row) (key : List Value) (row : Row) → matches reference.columns key row ≡ true
    → list_any (matches reference.referenced key) others ≡ false → is_matched reference others row ≡ false
unmatched_one reference others key row has none =
    or-none (list_any is_null (key_of reference.columns row)) (list_any (matches reference.referenced (key_of reference.columns row)) others)
    (equal_none_null (key_of reference.columns row) key has)
    (ap (λ k. list_any (matches reference.referenced k) others) (equal_keys (key_of reference.columns row) key has) ∙ none)

unmatched_some : (reference : Reference) (others rows : List Row) (key : List Value) → list_any (matches reference.referenced key) others ≡ false
    → list_any (matches reference.columns key) rows ≡ true → has_unmatched reference others rows ≡ true
unmatched_some reference others [] key none some = absurd (cc)
unmatched_some reference others (row ∷ rows) key none some = by (matches reference.columns key row) refl some (unmatched_some reference others rows key none)
  where
    by : (b : Bool) → matches reference.columns key row ≡ b → (b || list_any (matches reference.columns key) rows) ≡ true
        → (list_any (matches reference.columns key) rows ≡ true → has_unmatched reference others rows ≡ true)
        → (not (is_matched reference others row) || has_unmatched reference others rows) ≡ true
    by true is some rest = or_left (not (is_matched reference others row)) (has_unmatched reference others rows) (ap not (unmatched_one reference others key row is none))
    by false is some rest = or_right (not (is_matched reference others row)) (has_unmatched reference others rows) (rest some)

still_there : (a b : Bool) → (a || not b) ≡ false → (a ≡ false) × (b ≡ true)
still_there true b e = absurd (cc)
still_there false true e = (refl, refl)
still_there false false e = absurd (cc)

missing : (reference : Reference) (others rows : List Row) (gone : Row) → may_go reference others rows gone ≡ false → has_unmatched reference others rows ≡ true
missing reference others rows gone e =
    let both = still_there (list_any (matches reference.referenced (key_of reference.referenced gone)) others) (list_any (matches reference.columns (key_of reference.referenced gone)) rows) e in
    unmatched_some reference others rows (key_of reference.referenced gone) both.0 both.1

-- ---- the database

module _ (reading : CheckReading) (db : Database) (name : Name) (table : Table) (c : Constraint) (reference : Reference) where
  violated-reference : get db name ≡ Some table → Contains table.constraints c → c.rule ≡ ForeignKey reference
      → has_unmatched reference (rows_in db reference.table) table.rows ≡ true → Contains (violated_in reading db) c.name
  violated-reference there inside is e = violated-at reading db name table c.name there
      (Contains-append_right (violated_by reading name table) (unmatched_by (rows_in db) table.constraints table.rows) c.name
      (named-contains (λ (k : Constraint). is_unmatched (rows_in db) table.rows k.rule) table.constraints c inside (ap (is_unmatched (rows_in db) table.rows) is ∙ e)))

  pub unmatched-violated : (row : Row) → get db name ≡ Some table → Contains table.constraints c → c.rule ≡ ForeignKey reference → Contains table.rows row
      → is_matched reference (rows_in db reference.table) row ≡ false → Contains (violated_in reading db) c.name
  unmatched-violated row there inside is has e =
      violated-reference there inside is (any-contained (λ r. not (is_matched reference (rows_in db reference.table) r)) table.rows row has (ap not e))

  pub missed-violated : (gone : Row) → get db name ≡ Some table → Contains table.constraints c → c.rule ≡ ForeignKey reference
      → may_go reference (rows_in db reference.table) table.rows gone ≡ false → Contains (violated_in reading db) c.name
  missed-violated gone there inside is e = violated-reference there inside is (missing reference (rows_in db reference.table) table.rows gone e)
