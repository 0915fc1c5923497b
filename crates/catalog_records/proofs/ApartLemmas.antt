-- Schemas by their records.
use Rattle.std.proofs.Common.{◌≡◌, ℕ, ◌+◌, ◌^◌, ◌<◌, List, [], ◌∷◌, ◌++◌, map, length, Option, Some, None, refl, sym, ap, ◌∙◌, arith}
use Rattle.std.specs.List.{AllByRecursion, enumerate_from, flat_map}
use Rattle.std.specs.Fmt.{decimal}
use Rattle.std.proofs.lemmas.Fmt.{decimal_injective, decimal_nonempty}
use Rattle.std.proofs.lemmas.List.{length-append}
use Rattle.sqlval.specs.declared.value.Value.{Value}
use Rattle.sqlval.specs.declared.storing.ColumnType.{ColumnType}
use Rattle.sqlval.specs.declared.storing.ColumnType.TheVariants.{Integer, Varchar}
use Rattle.sqlval.specs.declared.schema.Table.{Table}
use Rattle.sqlval.specs.declared.schema.Column.{Column}
use Rattle.sqlval.specs.declared.schema.Constraint.{Constraint}
use Rattle.sqlval.specs.declared.schema.Reference.{Reference}
use Rattle.sqlval.specs.declared.schema.Rule.{Rule}
use Rattle.sqlval.specs.declared.schema.Rule.TheVariants.{NotNull, PrimaryKey, Unique, Check, ForeignKey}
use Rattle.sqlval.specs.declared.schema.Index.{Index}
use Rattle.catalog_records.specs.declared.record.Record.{Record}
use Rattle.catalog_records.specs.Places.{next_place, places_text}
use Rattle.catalog_records.specs.Records.{key_of, width_of, sort_of, detail_of, others_of, referenced_values, name_value, owner_number, table_record, column_record, constraint_record, index_record, table_records, schema_records}
use Rattle.catalog_records.specs.Keepable.{ArePlaces, IsType, IsColumn, IsReference, IsRule, IsConstraint, IsIndex, IsTable, AreTables}
use Rattle.catalog_records.specs.Rows.{column_row, constraint_row, index_row, EndsAt, EndsTable}
use Rattle.catalog_records.proofs.PlaceLemmas.{decimal_none, cut_same, at_comma}
use Rattle.catalog_records.proofs.TableLemmas.{schema_ends, table_front, table_parts, table_is}

-- ---- places

next_same : (xs ys : List ℕ) → ArePlaces xs → ArePlaces ys → flat_map next_place xs ≡ flat_map next_place ys → xs ≡ ys
next_same [] [] h g e = refl
next_same [] (y ∷ ys) h g e = absurd (cc)
next_same (x ∷ xs) [] h g e = absurd (cc)
next_same (x ∷ xs) (y ∷ ys) h g e =
    let behind : decimal x ++ flat_map next_place xs ≡ decimal y ++ flat_map next_place ys = cc in
    let both = cut_same (decimal y) (flat_map next_place ys) (decimal x) (flat_map next_place xs) (decimal_none y g.0) (at_comma ys) (decimal_none x h.0) (at_comma xs) behind in
    ap (λ z. z ∷ xs) (decimal_injective x y h.0 g.0 both.0) ∙ ap (λ zs. y ∷ zs) (next_same xs ys h.1 g.1 both.1)

not_empty : (x : ℕ) (rest : List ℕ) → x < 2 ^ 64 → decimal x ++ rest ≡ [] → ⊥
not_empty x rest small e =
    let some = decimal_nonempty x small in
    let gone : length (decimal x ++ rest) ≡ 0 = ap length e in
    omega (arith, some, length-append (decimal x) rest, gone)

places_same : (xs ys : List ℕ) → ArePlaces xs → ArePlaces ys → places_text xs ≡ places_text ys → xs ≡ ys
places_same [] [] h g e = refl
places_same [] (y ∷ ys) h g e = absurd (not_empty y (flat_map next_place ys) g.0 (sym e))
places_same (x ∷ xs) [] h g e = absurd (not_empty x (flat_map next_place xs) h.0 e)
places_same (x ∷ xs) (y ∷ ys) h g e =
    let both = cut_same (decimal y) (flat_map next_place ys) (decimal x) (flat_map next_place xs) (decimal_none y g.0) (at_comma ys) (decimal_none x h.0) (at_comma xs) e in
    ap (λ z. z ∷ xs) (decimal_injective x y h.0 g.0 both.0) ∙ ap (λ zs. y ∷ zs) (next_same xs ys h.1 g.1 both.1)

-- ---- rows

type_same : (s t : ColumnType) → IsType s → IsType t → width_of s ≡ width_of t → s ≡ t
type_same Integer Integer h g e = refl
type_same Integer (Varchar n) h g e = absurd (omega (arith, g.0, e))
type_same (Varchar m) Integer h g e = absurd (omega (arith, h.0, e))
type_same (Varchar m) (Varchar n) h g e = ap Varchar e

column_same : (c d : Column) → IsColumn c → IsColumn d → column_row c ≡ column_row d → c ≡ d
column_same c d h g e =
    let names : c.name ≡ d.name = cc in
    let widths : width_of c.column_type ≡ width_of d.column_type = cc in
    let types = type_same c.column_type d.column_type h g widths in
    λ i. record { name = names i; column_type = types i }

one_place : (x y : ℕ) → x ∷ [] ≡ y ∷ [] → x ≡ y
one_place x y e = cc

reference_same : (r s : Reference) → IsReference r → IsReference s → places_text r.columns ≡ places_text s.columns → referenced_values r ≡ referenced_values s → r ≡ s
reference_same r s h g e f =
    let columns = places_same r.columns s.columns h.columns g.columns e in
    let names : r.table ≡ s.table = cc in
    let placed : places_text r.referenced ≡ places_text s.referenced = cc in
    let places = places_same r.referenced s.referenced h.referenced g.referenced placed in
    λ i. record { columns = columns i; table = names i; referenced = places i }

rule_same : (r s : Rule) → IsRule r → IsRule s → sort_of r ≡ sort_of s → detail_of r ≡ detail_of s → others_of r ≡ others_of s → r ≡ s
rule_same (NotNull c) (NotNull d) h g sort e f = ap NotNull (one_place c d (places_same (c ∷ []) (d ∷ []) (h, tt) (g, tt) e))
rule_same (NotNull c) (PrimaryKey d) h g sort e f = absurd (omega (arith, sort))
rule_same (NotNull c) (Unique d) h g sort e f = absurd (omega (arith, sort))
rule_same (NotNull c) (Check d) h g sort e f = absurd (omega (arith, sort))
rule_same (PrimaryKey c) (NotNull d) h g sort e f = absurd (omega (arith, sort))
rule_same (PrimaryKey c) (PrimaryKey d) h g sort e f = ap PrimaryKey (places_same c d h g e)
rule_same (PrimaryKey c) (Unique d) h g sort e f = absurd (omega (arith, sort))
rule_same (PrimaryKey c) (Check d) h g sort e f = absurd (omega (arith, sort))
rule_same (Unique c) (NotNull d) h g sort e f = absurd (omega (arith, sort))
rule_same (Unique c) (PrimaryKey d) h g sort e f = absurd (omega (arith, sort))
rule_same (Unique c) (Unique d) h g sort e f = ap Unique (places_same c d h g e)
rule_same (Unique c) (Check d) h g sort e f = absurd (omega (arith, sort))
rule_same (Check c) (NotNull d) h g sort e f = absurd (omega (arith, sort))
rule_same (Check c) (PrimaryKey d) h g sort e f = absurd (omega (arith, sort))
rule_same (Check c) (Unique d) h g sort e f = absurd (omega (arith, sort))
rule_same (Check c) (Check d) h g sort e f = ap Check e
rule_same (ForeignKey c) (NotNull d) h g sort e f = absurd (omega (arith, sort))
rule_same (ForeignKey c) (PrimaryKey d) h g sort e f = absurd (omega (arith, sort))
rule_same (ForeignKey c) (Unique d) h g sort e f = absurd (omega (arith, sort))
rule_same (ForeignKey c) (Check d) h g sort e f = absurd (omega (arith, sort))
rule_same (ForeignKey c) (ForeignKey d) h g sort e f = ap ForeignKey (reference_same c d h g e f)
rule_same (NotNull c) (ForeignKey d) h g sort e f = absurd (omega (arith, sort))
rule_same (PrimaryKey c) (ForeignKey d) h g sort e f = absurd (omega (arith, sort))
rule_same (Unique c) (ForeignKey d) h g sort e f = absurd (omega (arith, sort))
rule_same (Check c) (ForeignKey d) h g sort e f = absurd (omega (arith, sort))

constraint_same : (c d : Constraint) → IsConstraint c → IsConstraint d → constraint_row c ≡ constraint_row d → c ≡ d
constraint_same c d h g e =
    let names : c.name ≡ d.name = cc in
    let sorts : sort_of c.rule ≡ sort_of d.rule = cc in
    let details : detail_of c.rule ≡ detail_of d.rule = cc in
    let others : others_of c.rule ≡ others_of d.rule = cc in
    let rules = rule_same c.rule d.rule h g sorts details others in
    λ i. record { name = names i; rule = rules i }

name_same : (a b : Option (List ℕ)) → name_value a ≡ name_value b → a ≡ b
name_same None None e = refl
name_same None (Some b) e = absurd (cc)
name_same (Some a) None e = absurd (cc)
name_same (Some a) (Some b) e = let same : a ≡ b = cc in ap Some same

owner_same : (a b : Option ℕ) → owner_number a ≡ owner_number b → a ≡ b
owner_same None None e = refl
owner_same None (Some b) e = absurd (omega (arith, e))
owner_same (Some a) None e = absurd (omega (arith, e))
owner_same (Some a) (Some b) e = let same : a ≡ b = omega (arith, e) in ap Some same

index_same : (c d : Index) → IsIndex c → IsIndex d → index_row c ≡ index_row d → c ≡ d
index_same c d h g e =
    let named : name_value c.name ≡ name_value d.name = cc in
    let owned : owner_number c.owner ≡ owner_number d.owner = cc in
    let roots : c.root ≡ d.root = cc in
    let placed : places_text c.columns ≡ places_text d.columns = cc in
    let names = name_same c.name d.name named in
    let owners = owner_same c.owner d.owner owned in
    let columns = places_same c.columns d.columns h.columns g.columns placed in
    λ i. record { name = names i; columns = columns i; owner = owners i; root = roots i }

-- ---- records, one behind another

numbered_same : {A : Type 0} (f : ℕ × A → Record) (Good : A → Type 0) (key : ℕ → List Value) (n : ℕ) (xs ys : List A) (more rest : List Record)
    → ((m : ℕ) (y : A) → (f (m, y)).key ≡ key m) → ((m : ℕ) (x y : A) → Good x → Good y → f (m, x) ≡ f (m, y) → x ≡ y)
    → AllByRecursion Good xs → AllByRecursion Good ys → EndsAt key more → EndsAt key rest → map f (enumerate_from n xs) ++ more ≡ map f (enumerate_from n ys) ++ rest → (xs ≡ ys) × (more ≡ rest)
numbered_same f Good key n [] [] more rest keys one h g a b e = (refl, e)
numbered_same f Good key n [] (y ∷ ys) more rest keys one h g a b e = absurd (a n (f (n, y)) (map f (enumerate_from (n + 1) ys) ++ rest) e (keys n y))
numbered_same f Good key n (x ∷ xs) [] more rest keys one h g a b e = absurd (b n (f (n, x)) (map f (enumerate_from (n + 1) xs) ++ more) (sym e) (keys n x))
numbered_same f Good key n (x ∷ xs) (y ∷ ys) more rest keys one h g a b e =
    let first : f (n, x) ≡ f (n, y) = cc in
    let others : map f (enumerate_from (n + 1) xs) ++ more ≡ map f (enumerate_from (n + 1) ys) ++ rest = cc in
    let again = numbered_same f Good key (n + 1) xs ys more rest keys one h.1 g.1 a b others in
    (ap (λ z. z ∷ xs) (one n x y h.0 g.0 first) ∙ ap (λ zs. y ∷ zs) again.0, again.1)

table_same_by : (t u : Table) (more rest : List Record) → IsTable t → IsTable u → EndsTable more → EndsTable rest → table_records t ++ more ≡ table_records u ++ rest → (t ≡ u) × (more ≡ rest)
table_same_by t u more rest h g a b e =
    let first = table_front t more _ _ e in
    let p = table_parts t more u.name u.root (table_record u.name u.root) _ a refl e in
    let q = table_parts u rest u.name u.root (table_record u.name u.root) _ b refl refl in
    let columns = numbered_same (λ (x : ℕ × Column). column_record u.name x.0 x.1) IsColumn (key_of u.name 1) 0 t.columns u.columns _ _ (λ m y. refl)
    (λ m x y k l same. column_same x y k l (ap (λ (r : Record). r.row) same)) h.columns g.columns p.columns_end q.columns_end (p.left ∙ sym q.left) in
    let constraints = numbered_same (λ (x : ℕ × Constraint). constraint_record u.name x.0 x.1) IsConstraint (key_of u.name 2) 1 t.constraints u.constraints _ _ (λ m y. refl)
    (λ m x y k l same. constraint_same x y k l (ap (λ (r : Record). r.row) same)) h.constraints g.constraints p.constraints_end q.constraints_end columns.1 in
    let indexes = numbered_same (λ (x : ℕ × Index). index_record u.name x.0 x.1) IsIndex (key_of u.name 3) 1 t.indexes u.indexes more rest (λ m y. refl)
    (λ m x y k l same. index_same x y k l (ap (λ (r : Record). r.row) same)) h.indexes g.indexes p.indexes_end q.indexes_end constraints.1 in
    (table_is u t.name t.columns t.constraints t.indexes t.root (sym p.name_is) columns.0 constraints.0 indexes.0 (sym p.root_is), indexes.1)

pub schema_same : (tables others : List Table) → AreTables tables → AreTables others → schema_records tables ≡ schema_records others → tables ≡ others
schema_same [] [] h g e = refl
schema_same [] (u ∷ others) h g e = absurd (cc)
schema_same (t ∷ tables) [] h g e = absurd (cc)
schema_same (t ∷ tables) (u ∷ others) h g e =
    let both = table_same_by t u (schema_records tables) (schema_records others) h.0 g.0 (schema_ends tables) (schema_ends others) e in
    ap (λ x. x ∷ tables) both.0 ∙ ap (λ xs. u ∷ xs) (schema_same tables others h.1 g.1 both.1)
