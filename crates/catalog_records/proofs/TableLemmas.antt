-- The records of a table, and of the tables behind it.
use Rattle.std.proofs.Common.{◌≡◌, ℕ, ◌≤◌, List, [], ◌∷◌, ◌++◌, map, length, refl, sym, ap, ◌∙◌, arith, append_assoc, subst}
use Rattle.std.proofs.lemmas.List.{length-append}
use Rattle.std.specs.List.{AllByRecursion, enumerate_from}
use Rattle.sqlval.specs.declared.schema.Table.{Table}
use Rattle.sqlval.specs.declared.schema.Column.{Column}
use Rattle.sqlval.specs.declared.schema.Constraint.{Constraint}
use Rattle.sqlval.specs.declared.schema.Index.{Index}
use Rattle.catalog_records.specs.declared.record.Record.{Record}
use Rattle.catalog_records.specs.Records.{counted, key_of, table_record, constraint_record, index_record, column_records, constraint_records, index_records, table_records, schema_records}
use Rattle.catalog_records.specs.Rows.{EndsAt, EndsTable}

kind_same : (name other : List ℕ) (kind k number n : ℕ) → key_of name kind number ≡ key_of other k n → kind ≡ k
kind_same name other kind k number n e = cc

-- numbered records of another kind do not go on with one
ends_before : {A : Type 0} (f : ℕ × A → Record) (name other : List ℕ) (kind k : ℕ) (n : ℕ) (all : List A) (more : List Record)
    → ((m : ℕ) (y : A) → (f (m, y)).key ≡ key_of name kind m) → (kind ≡ k → ⊥) → EndsAt (key_of other k) more → EndsAt (key_of other k) (map f (enumerate_from n all) ++ more)
ends_before f name other kind k n [] more keys apart ends = ends
ends_before f name other kind k n (y ∷ ys) more keys apart ends = λ number first others is own.
    let one : f (n, y) ≡ first = cc in
    apart (kind_same name other kind k n number (sym (keys n y) ∙ ap (λ (r : Record). r.key) one ∙ own))

-- the records of tables do not go on with one of the table before
pub schema_ends : (tables : List Table) → EndsTable (schema_records tables)
schema_ends [] name kind some number first others is own = cc
schema_ends (t ∷ tables) name kind some number first others is own =
    let one : table_record t.name t.root ≡ first = cc in
    let none : 0 ≡ kind = kind_same t.name name 0 kind 0 number (ap (λ (r : Record). r.key) one ∙ own) in
    absurd (omega (arith, none, some))

-- a table's records and what is behind them, by its parts
pub record IsFront (t : Table) (more : List Record) (name : List ℕ) (root : ℕ) (behind : List Record) : Type 0 where
  pub name_is : name ≡ t.name
  pub root_is : root ≡ t.root
  pub left : column_records name 0 t.columns ++ (constraint_records name 1 t.constraints ++ (index_records name 1 t.indexes ++ more)) ≡ behind
  pub columns_end : EndsAt (key_of name 1) (constraint_records name 1 t.constraints ++ (index_records name 1 t.indexes ++ more))
  pub constraints_end : EndsAt (key_of name 2) (index_records name 1 t.indexes ++ more)
  pub indexes_end : EndsAt (key_of name 3) more

pub table_front : (t : Table) (more : List Record) (first : Record) (behind : List Record) → table_records t ++ more ≡ first ∷ behind → table_record t.name t.root ≡ first
table_front t more first behind e = cc

-- a record names one table
pub table_same : (name other : List ℕ) (root r : ℕ) (first : Record) → table_record name root ≡ first → table_record other r ≡ first → (name ≡ other) × (root ≡ r)
table_same name other root r first e f =
    let same : table_record name root ≡ table_record other r = e ∙ sym f in
    (name_same name other (ap (λ (x : Record). x.key) same), root_same root r (ap (λ (x : Record). x.row) same))
  where
    name_same : (name other : List ℕ) → key_of name 0 0 ≡ key_of other 0 0 → name ≡ other
    name_same name other h = cc

    root_same : (root r : ℕ) → counted root ∷ [] ≡ counted r ∷ [] → root ≡ r
    root_same root r h = cc

pub table_parts : (t : Table) (more : List Record) (name : List ℕ) (root : ℕ) (first : Record) (behind : List Record)
    → EndsTable more → table_record name root ≡ first → table_records t ++ more ≡ first ∷ behind → IsFront t more name root behind
table_parts t more name root first behind ends own e = go (table_same name t.name root t.root first own (table_front t more first behind e))
  where
    cols : List Record
    cols = column_records t.name 0 t.columns

    tail : cols ++ (constraint_records t.name 1 t.constraints ++ index_records t.name 1 t.indexes) ++ more ≡ behind → cols ++ (constraint_records t.name 1 t.constraints ++ (index_records t.name 1 t.indexes ++ more)) ≡ behind
    tail h = ap (λ rs. cols ++ rs) (sym (append_assoc (constraint_records t.name 1 t.constraints) (index_records t.name 1 t.indexes) more)) ∙ sym (append_assoc cols _ more) ∙ h

    go : (name ≡ t.name) × (root ≡ t.root) → IsFront t more name root behind
    go same = record {
      name_is = same.0;
      root_is = same.1;
      left = rw same.0 (tail (cc));
      columns_end = ends_before (λ (x : ℕ × Constraint). constraint_record name x.0 x.1) name name 2 1 1 t.constraints _ (λ m y. refl) (λ h. omega (arith, h))
          (ends_before (λ (x : ℕ × Index). index_record name x.0 x.1) name name 3 1 1 t.indexes more (λ m y. refl) (λ h. omega (arith, h)) (ends name 1 (omega arith)));
      constraints_end = ends_before (λ (x : ℕ × Index). index_record name x.0 x.1) name name 3 2 1 t.indexes more (λ m y. refl) (λ h. omega (arith, h)) (ends name 2 (omega arith));
      indexes_end = ends name 3 (omega arith);
    }

-- and put together again
pub table_whole : (t : Table) (name : List ℕ) (first : Record) (behind one two three : List Record) → t.name ≡ name → table_record name t.root ≡ first
    → column_records name 0 t.columns ++ one ≡ behind → constraint_records name 1 t.constraints ++ two ≡ one → index_records name 1 t.indexes ++ three ≡ two
    → table_records t ++ three ≡ first ∷ behind
table_whole t name first behind one two three same =
    subst (λ (n : List ℕ). table_record n t.root ≡ first → column_records n 0 t.columns ++ one ≡ behind → constraint_records n 1 t.constraints ++ two ≡ one → index_records n 1 t.indexes ++ three ≡ two
    → table_records t ++ three ≡ first ∷ behind) same own_name
  where
    cols : List Record
    cols = column_records t.name 0 t.columns

    cons : List Record
    cons = constraint_records t.name 1 t.constraints

    inds : List Record
    inds = index_records t.name 1 t.indexes

    own_name : table_record t.name t.root ≡ first → cols ++ one ≡ behind → cons ++ two ≡ one → inds ++ three ≡ two → table_records t ++ three ≡ first ∷ behind
    own_name own e f g =
        let behind_is : (cols ++ (cons ++ inds)) ++ three ≡ behind =
        append_assoc cols (cons ++ inds) three ∙ ap (λ rs. cols ++ rs) (append_assoc cons inds three ∙ ap (λ rs. cons ++ rs) g ∙ f) ∙ e in
        ap (λ rs. table_record t.name t.root ∷ rs) behind_is ∙ ap (λ r. r ∷ behind) own

pub some_records : (t : Table) → table_records t ≡ [] → ⊥
some_records t e = cc

-- what is behind a table is shorter
pub table_shorter : (t : Table) (more : List Record) (first : Record) (behind : List Record) → table_records t ++ more ≡ first ∷ behind → length more ≤ length behind
table_shorter t more first behind e =
    let long : length (table_records t ++ more) ≡ length (first ∷ behind) = ap length e in
    omega (arith, length-append (table_records t) more, long)

pub table_is : (t : Table) (name : List ℕ) (columns : List Column) (constraints : List Constraint) (indexes : List Index) (root : ℕ)
    → name ≡ t.name → columns ≡ t.columns → constraints ≡ t.constraints → indexes ≡ t.indexes → root ≡ t.root
    → record { name = name; columns = columns; constraints = constraints; indexes = indexes; root = root } ≡ t
table_is t name columns constraints indexes root a b c d e = rw (a, b, c, d, e) refl

-- parts that are those of a table name only its columns, where the table does
pub all_over : {A : Type 0} (Over : ℕ → A → Type 0) (count : ℕ) (columns own : List Column) (slice given parts : List A) → count ≡ length columns → columns ≡ own → slice ≡ given → given ≡ parts
    → AllByRecursion (Over (length own)) parts → AllByRecursion (Over count) slice
all_over Over count columns own slice given parts is_count is_own is_given is_parts all =
    subst (λ (n : ℕ). AllByRecursion (Over n) slice) (sym (is_count ∙ ap length is_own)) (subst (AllByRecursion (Over (length own))) (sym (is_given ∙ is_parts)) all)
