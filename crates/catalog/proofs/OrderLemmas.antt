-- The order of records.
use Rattle.std.proofs.Common.{◌≡◌, ◌≢◌, ℕ, ◌+◌, ◌<◌, ◌≤◌, true, false, List, [], ◌∷◌, ◌++◌, map, refl, sym, ap, ◌∙◌, arith, nat_lt}
use Rattle.std.specs.List.{AllByRecursion, enumerate_from}
use Rattle.std.specs.declared.cmp.Ordering.{Ordering}
use Rattle.std.specs.declared.cmp.Ordering.TheVariants.{Less, Equal, Greater}
use Rattle.std.specs.Ordering.{is_lt}
use Rattle.std.specs.Prelude.{pos}
use Rattle.std.specs.Ordering.{int_cmp}
use Rattle.std.proofs.lemmas.Bool.{lt-ltb}
use Rattle.std.proofs.lemmas.Cmp.{tied_itself, int_cmp_total, nat_list_cmp_total}
use Rattle.std.proofs.lemmas.Map.Lookups.{exact_bytes}
use Rattle.std.specs.Ordering.{ordering_reverse}
use Rattle.sqlval.specs.declared.value.Value.{Value}
use Rattle.sqlval.specs.declared.schema.Table.{Table}
use Rattle.sqlval.specs.declared.schema.Column.{Column}
use Rattle.sqlval.specs.declared.schema.Constraint.{Constraint}
use Rattle.sqlval.specs.declared.schema.Index.{Index}
use Rattle.sqlval.specs.Comparison.{text_order}
use Rattle.catalog_records.specs.declared.record.Record.{Record}
use Rattle.catalog_records.specs.Records.{key_of, table_record, column_record, constraint_record, index_record, column_records, constraint_records, index_records, table_records}
use Rattle.sqlrecord.specs.Key.{key_code, key_order}
use Rattle.sqlrecord.proofs.OrderLemmas.{whole_keys}
use Rattle.btree_read.specs.Nodes.{precedes}
use Rattle.btree_read.proofs.ListLemmas.{each_append, each_map}
use Rattle.catalog.specs.Held.{IsCoded}

-- the key of one record is less than that of another
abbrev pub IsLess : Record → Record → Type 0
IsLess a b = is_lt (key_order a.key b.key) ≡ true

-- so it is as bytes
pub less_bytes : (a b : Record) → IsCoded a → IsCoded b → IsLess a b → precedes (key_code a.key) (key_code b.key) ≡ true
unfolding precedes
less_bytes a b h g less = ap is_lt (whole_keys a.key b.key h.key g.key) ∙ less

-- ---- numbers

int_less : (m n : ℕ) → m < n → int_cmp (pos m) (pos n) ≡ Less
int_less m n h = let t : nat_lt m n ≡ true = lt-ltb m n h in rw t refl

int_same : (m : ℕ) → int_cmp (pos m) (pos m) ≡ Equal
int_same m = tied_itself int_cmp_total (pos m)

text_same : (name : List ℕ) → text_order name name ≡ Equal
text_same name = tied_itself nat_list_cmp_total name

-- ---- keys

pub number_less : (name : List ℕ) (kind m n : ℕ) → m < n → is_lt (key_order (key_of name kind m) (key_of name kind n)) ≡ true
number_less name kind m n h = rw (text_same name, int_same kind, int_less m n h) refl

pub kind_less : (name : List ℕ) (j k m n : ℕ) → j < k → is_lt (key_order (key_of name j m) (key_of name k n)) ≡ true
kind_less name j k m n h = rw (text_same name, int_less j k h) refl

is_less : (o : Ordering) → is_lt o ≡ true → o ≡ Less
is_less Less h = refl
is_less Equal h = cc
is_less Greater h = cc

pub name_less : (name other : List ℕ) (j k m n : ℕ) → is_lt (text_order name other) ≡ true → is_lt (key_order (key_of name j m) (key_of other k n)) ≡ true
name_less name other j k m n h = rw (is_less (text_order name other) h) refl

-- a name that is neither less nor the same is greater
pub name_greater : (name other : List ℕ) → is_lt (text_order name other) ≡ false → name ≢ other → is_lt (text_order other name) ≡ true
name_greater name other h apart = by (text_order name other) refl h
  where
    by : (o : Ordering) → o ≡ text_order name other → is_lt o ≡ false → is_lt (text_order other name) ≡ true
    by Less e g = absurd (cc)
    by Equal e g = absurd (apart (exact_bytes name other (sym e)))
    by Greater e g = ap is_lt (nat_list_cmp_total.antisymm other name ∙ ap ordering_reverse (sym e))

-- ---- records of a table

-- a record of this table and kind, of at least this number
pub record IsOf (name : List ℕ) (kind from : ℕ) (r : Record) : Type 0 where
  pub number : ℕ
  pub least : from ≤ number
  pub is : r.key ≡ key_of name kind number

-- a record of this table
pub record IsNamed (name : List ℕ) (r : Record) : Type 0 where
  pub kind : ℕ
  pub number : ℕ
  pub is : r.key ≡ key_of name kind number

named : (name : List ℕ) (kind from : ℕ) (r : Record) → IsOf name kind from r → IsNamed name r
named name kind from r h = record { kind = kind; number = h.number; is = h.is }

-- each key is less than those behind it
abbrev pub Rises : List Record → Type 0
Rises [] = Unit {0}
Rises (r ∷ records) = AllByRecursion (IsLess r) records × Rises records

same_less : (a b : Record) (k l : List Value) → a.key ≡ k → b.key ≡ l → is_lt (key_order k l) ≡ true → IsLess a b
same_less a b k l e f h = rw (e, f) h

numbered_of : {A : Type 0} (f : ℕ × A → Record) (name : List ℕ) (kind n : ℕ) (xs : List A) → ((m : ℕ) (y : A) → (f (m, y)).key ≡ key_of name kind m)
    → AllByRecursion (IsOf name kind n) (map f (enumerate_from n xs))
numbered_of f name kind n [] keys = tt
numbered_of f name kind n (x ∷ xs) keys = (
  record { number = n; least = omega arith; is = keys n x },
  each_map (IsOf name kind (n + 1)) (IsOf name kind n) (map f (enumerate_from (n + 1) xs)) (λ r h. record { number = h.number; least = omega (arith, h.least); is = h.is }) (numbered_of f name kind (n + 1) xs keys),
)

numbered_rises : {A : Type 0} (f : ℕ × A → Record) (name : List ℕ) (kind n : ℕ) (xs : List A) → ((m : ℕ) (y : A) → (f (m, y)).key ≡ key_of name kind m)
    → Rises (map f (enumerate_from n xs))
numbered_rises f name kind n [] keys = tt
numbered_rises f name kind n (x ∷ xs) keys = (
  each_map (IsOf name kind (n + 1)) (IsLess (f (n, x))) (map f (enumerate_from (n + 1) xs))
      (λ r h. same_less (f (n, x)) r _ _ (keys n x) h.is (number_less name kind n h.number (omega (arith, h.least)))) (numbered_of f name kind (n + 1) xs keys),
  numbered_rises f name kind (n + 1) xs keys,
)

rises_join : (xs ys : List Record) → Rises xs → Rises ys → AllByRecursion (λ x. AllByRecursion (IsLess x) ys) xs → Rises (xs ++ ys)
rises_join [] ys h g less = g
rises_join (x ∷ xs) ys h g less = (each_append (IsLess x) xs ys h.0 less.0, rises_join xs ys h.1 g less.1)

-- records of one kind are before those of a later kind
kinds_rise : (name : List ℕ) (j k m n : ℕ) (xs ys : List Record) → j < k → AllByRecursion (IsOf name j m) xs → AllByRecursion (IsOf name k n) ys → AllByRecursion (λ x. AllByRecursion (IsLess x) ys) xs
kinds_rise name j k m n xs ys h of_xs of_ys =
    each_map (IsOf name j m) (λ x. AllByRecursion (IsLess x) ys) xs (λ x a.
    each_map (IsOf name k n) (IsLess x) ys (λ y b. same_less x y _ _ a.is b.is (kind_less name j k a.number b.number h)) of_ys) of_xs

both_less : (xs ys zs : List Record) → AllByRecursion (λ x. AllByRecursion (IsLess x) ys) xs → AllByRecursion (λ x. AllByRecursion (IsLess x) zs) xs → AllByRecursion (λ x. AllByRecursion (IsLess x) (ys ++ zs)) xs
both_less [] ys zs h g = tt
both_less (x ∷ xs) ys zs h g = (each_append (IsLess x) ys zs h.0 g.0, both_less xs ys zs h.1 g.1)

columns_of : (t : Table) → AllByRecursion (IsOf t.name 1 0) (column_records t.name 0 t.columns)
columns_of t = numbered_of (λ (x : ℕ × Column). column_record t.name x.0 x.1) t.name 1 0 t.columns (λ m y. refl)

constraints_of : (t : Table) → AllByRecursion (IsOf t.name 2 1) (constraint_records t.name 1 t.constraints)
constraints_of t = numbered_of (λ (x : ℕ × Constraint). constraint_record t.name x.0 x.1) t.name 2 1 t.constraints (λ m y. refl)

indexes_of : (t : Table) → AllByRecursion (IsOf t.name 3 1) (index_records t.name 1 t.indexes)
indexes_of t = numbered_of (λ (x : ℕ × Index). index_record t.name x.0 x.1) t.name 3 1 t.indexes (λ m y. refl)

-- the records of a table rise
pub table_rises : (t : Table) → Rises (table_records t)
table_rises t = (
  each_append (IsLess (table_record t.name t.root)) (column_records t.name 0 t.columns) (constraint_records t.name 1 t.constraints ++ index_records t.name 1 t.indexes) (first 1 0 _ (omega arith) (columns_of t))
      (each_append (IsLess (table_record t.name t.root)) (constraint_records t.name 1 t.constraints) (index_records t.name 1 t.indexes) (first 2 1 _ (omega arith) (constraints_of t)) (first 3 1 _ (omega arith) (indexes_of t))),
  rises_join (column_records t.name 0 t.columns) (constraint_records t.name 1 t.constraints ++ index_records t.name 1 t.indexes)
      (numbered_rises (λ (x : ℕ × Column). column_record t.name x.0 x.1) t.name 1 0 t.columns (λ m y. refl))
      (rises_join (constraint_records t.name 1 t.constraints) (index_records t.name 1 t.indexes)
      (numbered_rises (λ (x : ℕ × Constraint). constraint_record t.name x.0 x.1) t.name 2 1 t.constraints (λ m y. refl))
      (numbered_rises (λ (x : ℕ × Index). index_record t.name x.0 x.1) t.name 3 1 t.indexes (λ m y. refl))
      (kinds_rise t.name 2 3 1 1 _ _ (omega arith) (constraints_of t) (indexes_of t)))
      (both_less (column_records t.name 0 t.columns) (constraint_records t.name 1 t.constraints) (index_records t.name 1 t.indexes)
      (kinds_rise t.name 1 2 0 1 _ _ (omega arith) (columns_of t) (constraints_of t)) (kinds_rise t.name 1 3 0 1 _ _ (omega arith) (columns_of t) (indexes_of t))),
)
  where
    first : (kind from : ℕ) (rs : List Record) → 0 < kind → AllByRecursion (IsOf t.name kind from) rs → AllByRecursion (IsLess (table_record t.name t.root)) rs
    first kind from rs some of = each_map (IsOf t.name kind from) (IsLess (table_record t.name t.root)) rs
        (λ r h. same_less (table_record t.name t.root) r _ _ refl h.is (kind_less t.name 0 kind 0 h.number some)) of

-- and have its name
pub table_named : (t : Table) → AllByRecursion (IsNamed t.name) (table_records t)
table_named t = (
  record { kind = 0; number = 0; is = refl },
  each_append (IsNamed t.name) (column_records t.name 0 t.columns) (constraint_records t.name 1 t.constraints ++ index_records t.name 1 t.indexes) (each_map _ _ _ (named t.name 1 0) (columns_of t))
      (each_append (IsNamed t.name) (constraint_records t.name 1 t.constraints) (index_records t.name 1 t.indexes) (each_map _ _ _ (named t.name 2 1) (constraints_of t)) (each_map _ _ _ (named t.name 3 1) (indexes_of t))),
)

-- records of a table before another are less than its records
pub named_less : (name other : List ℕ) (a b : Record) → is_lt (text_order name other) ≡ true → IsNamed name a → IsNamed other b → IsLess a b
named_less name other a b h p q = same_less a b _ _ p.is q.is (name_less name other p.kind q.kind p.number q.number h)
