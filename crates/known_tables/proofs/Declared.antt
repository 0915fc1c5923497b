-- What a schema describes is so in the database whose schema it is.
use Rattle.std.proofs.Common.{◌≡◌, refl, sym, ap, ◌∙◌, subst, ℕ, zero, suc, ◌+◌, Bool, true, false, ◌||◌, List, [], ◌∷◌, map, length, is_some, Option, Some, None, ◌⊎◌, inl, inr, arith}
use Rattle.std.specs.Cmp.Lexicographic.{bytes_decides}
use Rattle.std.specs.FinMap.{contains_key-keys, get, keys, nat_cmp-IsAntisymmetric, slice_cmp-IsAntisymmetric}
use Rattle.std.specs.List.{list_any, position_from}
use Rattle.std.specs.Option.{option_map}
use Rattle.std.specs.Ordering.{eq_by_cmp, is_eq}
use Rattle.std.specs.Prelude.{Contains, cond, slice_get}
use Rattle.std.specs.declared.cmp.Ordering.{Ordering}
use Rattle.std.specs.declared.cmp.Ordering.TheVariants.{Equal, Greater, Less}
use Rattle.std.proofs.lemmas.Cmp.{nat_list_cmp_total, tied_itself}
use Rattle.std.proofs.lemmas.Map.Text.{is_eq-slice_cmp}
use Rattle.std.proofs.lemmas.Option.{get_or_from_slice_get, none-some, same_Some, slice_get_within}
use Rattle.sqlval.specs.declared.schema.Index.{Index}
use Rattle.sqlval.specs.declared.schema.Schema.{Schema}
use Rattle.sqlval.specs.declared.schema.Table as declared
use Rattle.sqlval.specs.Comparison.{text_order}
use Rattle.sqlval.specs.Schema.{same_name, table_place}
use Rattle.sqlval.specs.Value.{Row}
use Rattle.algebra.specs.Described.{described_in, known_of, primary_key, table_at}
use Rattle.algebra.specs.declared.tree.StoredTable.{StoredTable}
use Rattle.denote.specs.Bag.{Permutes}
use Rattle.denote.specs.Bag.Permutes.{exchanges, goes_on, keeps, nothing}
use Rattle.denote.specs.Database.{CheckReading, Database, IndexDeclaration, IsGood, Name, Table, rows_in, rows_of}
use Rattle.denote.specs.SchemaOf.{Declares, IsSchemaOf, index_of}
use Rattle.operator_laws.specs.Same.{Every}
use Rattle.places.specs.Indexes.{index_columns}
use Rattle.rewrite_laws.proofs.GoodDatabases.{good-has}
use Rattle.rules.specs.Same.{Has, HasTable}
use Rattle.store.specs.Contents as stored
use Rattle.store.proofs.Databases.{database-get}

-- ---- the table of a name in a schema

-- an element that passes a test
abbrev Passes : {A : Type 0} → (A → Bool) → ℕ → List A → ℕ → Type 0
Passes {A} test at xs p = (k : ℕ) × (p ≡ at + k) × (x : A) × (slice_get xs k ≡ Some x) × (test x ≡ true)

first-passes : {A : Type 0} (test : A → Bool) (at : ℕ) (xs : List A) (p : ℕ) → position_from test at xs ≡ Some p
    → Passes test at xs p
first-passes test at [] p e = absurd (none-some p e)
first-passes {A} test at (x ∷ xs) p e = go (test x) refl (first-passes test (at + 1) xs p) e
  where
    later : Passes test (at + 1) xs p → Passes test at (x ∷ xs) p
    later (k, is, y, there, passes) = (suc k, omega (arith, is), y, there, passes)

    go : (b : Bool) → test x ≡ b → (position_from test (at + 1) xs ≡ Some p → Passes test (at + 1) xs p)
        → cond b (Some at) (position_from test (at + 1) xs) ≡ Some p → Passes test at (x ∷ xs) p
    go true passes rest f = let here : at ≡ p = same_Some at p f in (zero, omega (arith, here), x, refl, passes)
    go false fails rest f = later (rest f)

none-passes : {A : Type 0} (test : A → Bool) (at : ℕ) (xs : List A) → position_from test at xs ≡ None
    → list_any test xs ≡ false
none-passes test at [] e = refl
none-passes {A} test at (x ∷ xs) e = go (test x) (none-passes test (at + 1) xs) e
  where
    go : (b : Bool) → (position_from test (at + 1) xs ≡ None → list_any test xs ≡ false)
        → cond b (Some at) (position_from test (at + 1) xs) ≡ None → (b || list_any test xs) ≡ false
    go true rest f = absurd (none-some at (sym f))
    go false rest f = rest f

-- ---- a name that no table of the schema has

is-equal : (r : Ordering) → is_eq r ≡ true → r ≡ Equal
is-equal Less e = cc
is-equal Equal e = refl
is-equal Greater e = cc

tied : (a b : Name) → eq_by_cmp text_order a b ≡ true → a ≡ b
tied a b e = slice_cmp-IsAntisymmetric nat_cmp-IsAntisymmetric a b (is-equal (text_order a b) e)

itself : (a : Name) → same_name a a ≡ true
itself a = sym (is_eq-slice_cmp a a) ∙ ap is_eq (tied_itself nat_list_cmp_total a)

-- names that differ do not tie
apart : (a q : Name) → same_name a q ≡ false → eq_by_cmp text_order q a ≡ false
apart a q e = by (eq_by_cmp text_order q a) refl
  where
    by : (b : Bool) → eq_by_cmp text_order q a ≡ b → eq_by_cmp text_order q a ≡ false
    by true is = let same : same_name a q ≡ true = subst (λ (n : Name). same_name n q ≡ true) (tied q a is) (itself q) in
        absurd (cc (same, e))
    by false is = is

either-first : (a b c : Bool) → (a || (b || c)) ≡ (b || (a || c))
either-first true true c = refl
either-first true false c = refl
either-first false true c = refl
either-first false false c = refl

any-permutes : {X : Type 0} (p : X → Bool) (xs ys : List X) → Permutes xs ys → list_any p xs ≡ list_any p ys
any-permutes p _ _ nothing = refl
any-permutes p _ _ (keeps x {xs} {ys} h) = ap (λ b. p x || b) (any-permutes p xs ys h)
any-permutes p _ _ (exchanges x y xs) = either-first (p x) (p y) (list_any p xs)
any-permutes p _ _ (goes_on {xs} {ys} {zs} h g) = any-permutes p xs ys h ∙ any-permutes p ys zs g

unnamed : (q : Name) (tables : List declared.Table) → list_any (λ (t : declared.Table). same_name t.name q) tables ≡ false
    → list_any (eq_by_cmp text_order q) (map (λ (t : declared.Table). t.name) tables) ≡ false
unnamed q [] e = refl
unnamed q (t ∷ tables) e = by (same_name t.name q) refl e (unnamed q tables)
  where
    by : (b : Bool) → same_name t.name q ≡ b → (b || list_any (λ (t : declared.Table). same_name t.name q) tables) ≡ false
        → (list_any (λ (t : declared.Table). same_name t.name q) tables ≡ false
        → list_any (eq_by_cmp text_order q) (map (λ (t : declared.Table). t.name) tables) ≡ false)
        → (eq_by_cmp text_order q t.name || list_any (eq_by_cmp text_order q) (map (λ (t : declared.Table). t.name) tables)) ≡ false
    by true is none rest = absurd (cc none)
    by false is none rest = rw (apart t.name q is) (rest none)

none-there : {X : Type 0} (o : Option X) → is_some o ≡ false → o ≡ None
none-there None e = refl
none-there (Some x) e = cc

no-table : (schema : Schema) (db : Database) (q : Name) → IsSchemaOf schema db
    → list_any (λ (t : declared.Table). same_name t.name q) schema.tables ≡ false → get db q ≡ None
no-table schema db q h e = none-there (get db q) (contains_key-keys db q
    ∙ sym (any-permutes (eq_by_cmp text_order q) (map (λ (t : declared.Table). t.name) schema.tables) (keys db) h.names)
    ∙ unnamed q schema.tables e)

-- ---- what is described

-- there is no such table, and nothing is said of it
record IsUnknown (db : Database) (known : StoredTable) : Type 0 where
  gone : get db known.name ≡ None
  keyless : known.key ≡ None
  bare : known.indexes ≡ []

columns-declared : (indexes : List Index)
    → map (λ (index : IndexDeclaration). index.columns) (map index_of indexes) ≡ map (λ (index : Index). index.columns) indexes
columns-declared [] = refl
columns-declared (index ∷ indexes) = ap (λ rest. index.columns ∷ rest) (columns-declared indexes)

of-declared : (db : Database) (name : Name) (d : declared.Table) (t : Table) → get db name ≡ Some t → Declares d t
    → Has db (known_of name (Some d))
of-declared db name d t there declares = record {
  table = t;
  found = there;
  width = ap length (sym declares.columns);
  key = ap primary_key (sym declares.constraints);
  indexes = ap (map (λ (index : IndexDeclaration). index.columns)) (sym declares.indexes) ∙ columns-declared d.indexes;
}

described-is : (schema : Schema) (db : Database) (name : Name) → IsSchemaOf schema db
    → Has db (described_in schema name) ⊎ IsUnknown db (described_in schema name)
described-is schema db name of = go (table_place name schema) refl
  where
    at : (p : ℕ) → Passes (λ (t : declared.Table). same_name t.name name) 0 schema.tables p
        → Has db (known_of name (table_at schema (Some p)))
    at p (k, is, d, there, passes) =
        let same : p ≡ k = omega (arith, is) in
        let here : slice_get schema.tables p ≡ Some d = ap (slice_get schema.tables) same ∙ there in
        let among : Contains schema.tables d =
        (p, slice_get_within schema.tables p d here, get_or_from_slice_get schema.tables p d d here) in
        let found = of.tables d among in
        let named : d.name ≡ name = (bytes_decides d.name name).0 passes in
        subst (λ (o : Option declared.Table). Has db (known_of name o)) (sym here)
        (of-declared db name d found.0 (subst (λ (n : Name). get db n ≡ Some found.0) named found.1) found.2)

    go : (place : Option ℕ) → table_place name schema ≡ place
        → Has db (known_of name (table_at schema place)) ⊎ IsUnknown db (known_of name (table_at schema place))
    go None is = inr (record {
      gone = no-table schema db name of (none-passes (λ (t : declared.Table). same_name t.name name) 0 schema.tables is);
      keyless = refl;
      bare = refl;
    })
    go (Some p) is = inl (at p (first-passes (λ (t : declared.Table). same_name t.name name) 0 schema.tables p is))

-- ---- its rows

unknown-fits : (db : Database) (known : StoredTable) → IsUnknown db known → HasTable (rows_in db) known
unknown-fits db known u =
    let none : rows_in db known.name ≡ [] = ap rows_of u.gone in
    record {
      width = subst (λ (rows : List Row). Every (λ row. length row ≡ known.width) rows) (sym none) tt;
      key = λ columns e. absurd (none-some columns (sym u.keyless ∙ e));
    }

pub described-fits : (reading : CheckReading) (schema : Schema) (db : Database) (name : Name) → IsGood reading db
    → IsSchemaOf schema db → HasTable (rows_in db) (described_in schema name)
described-fits reading schema db name good of = elim (described-is schema db name of) [
  | inl has ↦ good-has reading db (described_in schema name) good has
  | inr unknown ↦ unknown-fits db (described_in schema name) unknown
]

-- ---- its indexes

abbrev AreKnown : stored.Contents → StoredTable → Type 0
AreKnown contents known = index_columns (get contents known.name) ≡ known.indexes

has-indexes : (contents : stored.Contents) (known : StoredTable) → Has (stored.database_of contents) known
    → AreKnown contents known
has-indexes contents known has = at (get contents known.name) refl
  where
    at : (found : Option stored.StoredTable) → get contents known.name ≡ found → AreKnown contents known
    at None e =
        let none : get (stored.database_of contents) known.name ≡ None =
        database-get contents known.name ∙ ap (option_map stored.table_of) e in
        absurd (none-some has.table (sym none ∙ has.found))
    at (Some table) e =
        let there : get (stored.database_of contents) known.name ≡ Some (stored.table_of table) =
        database-get contents known.name ∙ ap (option_map stored.table_of) e in
        let same : has.table ≡ stored.table_of table = same_Some has.table (stored.table_of table) (sym has.found ∙ there) in
        ap index_columns e
        ∙ ap (λ (t : Table). map (λ (index : IndexDeclaration). index.columns) t.indexes) (sym same) ∙ has.indexes

unknown-indexes : (contents : stored.Contents) (known : StoredTable) → IsUnknown (stored.database_of contents) known
    → AreKnown contents known
unknown-indexes contents known u = at (get contents known.name) refl
  where
    at : (found : Option stored.StoredTable) → get contents known.name ≡ found → AreKnown contents known
    at None e = ap index_columns e ∙ sym u.bare
    at (Some table) e =
        let there : get (stored.database_of contents) known.name ≡ Some (stored.table_of table) =
        database-get contents known.name ∙ ap (option_map stored.table_of) e in
        absurd (none-some (stored.table_of table) (sym u.gone ∙ there))

pub described-indexes : (contents : stored.Contents) (schema : Schema) (name : Name)
    → IsSchemaOf schema (stored.database_of contents) → AreKnown contents (described_in schema name)
described-indexes contents schema name of = elim (described-is schema (stored.database_of contents) name of) [
  | inl has ↦ has-indexes contents (described_in schema name) has
  | inr unknown ↦ unknown-indexes contents (described_in schema name) unknown
]
