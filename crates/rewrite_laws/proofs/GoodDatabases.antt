-- A good database has what a tree knows of its tables.
use Rattle.algebra.specs.Described.{key_or, primary_key}
use Rattle.algebra.specs.declared.tree.StoredTable.{StoredTable}
use Rattle.denote.specs.Bag.{are_alike}
use Rattle.denote.specs.Database.{Name, Table, Database, CheckReading, rows_of, rows_in, has_null, has_twins, is_violated, fits_columns, IsGood}
use Rattle.denote.specs.Expression.{column}
use Rattle.operator_laws.proofs.Alike.{are_alike-equal}
use Rattle.operator_laws.specs.Same.{Every}
use Rattle.rules.specs.Same.{Has, HasTable, Apart}
use Rattle.sqlval.specs.Matching.{key_of, matches, is_equal}
use Rattle.sqlval.specs.Storing.{fits_column}
use Rattle.sqlval.specs.Truth.{truth_of, same_truth}
use Rattle.sqlval.specs.Value.{Row, is_null}
use Rattle.sqlval.specs.declared.schema.Column.{Column}
use Rattle.sqlval.specs.declared.schema.Constraint.{Constraint}
use Rattle.sqlval.specs.declared.schema.Rule.{Rule}
use Rattle.sqlval.specs.declared.schema.Rule.TheVariants.{NotNull, PrimaryKey, Unique, Check, ForeignKey}
use Rattle.sqlval.specs.declared.truth.Truth.TheVariants.{True}
use Rattle.sqlval.specs.declared.value.Value.{Value}
use Rattle.sqlval.specs.declared.value.Value.TheVariants.{Null, Int, Text}
use Rattle.std.proofs.Common.{◌≡◌, refl, sym, subst, ap, ◌∙◌, ℕ, suc, Bool, List, [], ◌∷◌, map, true, false, ◌&&◌, ◌||◌, cond, length, Some}
use Rattle.std.proofs.lemmas.Cmp.{int_eq_equiv, eq_by_cmp_equiv, nat_list_cmp_total}
use Rattle.std.specs.Cmp.Lexicographic.{pointwise}
use Rattle.std.specs.List.{list_any, list_all}
use Rattle.std.specs.Prelude.{filter}

both : (a b : Bool) → (a && b) ≡ true → (a ≡ true) × (b ≡ true)
both true b e = (refl, e)
both false b e = absurd (cc)

neither : (a b : Bool) → (a || b) ≡ false → (a ≡ false) × (b ≡ false)
neither true b e = absurd (cc)
neither false b e = (refl, e)

-- ---- widths

as_long : (row : Row) (columns : List Column) → fits_columns columns row ≡ true → length row ≡ length columns
as_long [] [] e = refl
as_long [] (c ∷ columns) e = absurd (cc (e))
as_long (x ∷ row) [] e = absurd (cc (e))
as_long (x ∷ row) (c ∷ columns) e =
    ap suc (as_long row columns (both (fits_column x c.column_type) (fits_columns columns row) e).1)

all-wide : (columns : List Column) (rows : List Row) → list_all (fits_columns columns) rows ≡ true
    → Every (λ row. length row ≡ length columns) rows
all-wide columns [] e = tt
all-wide columns (row ∷ rows) e = let c = both (fits_columns columns row) (list_all (fits_columns columns) rows) e in
    (as_long row columns c.0, all-wide columns rows c.1)

-- ---- keys

not-violated : (reading : CheckReading) (name : Name) (table : Table) (constraints : List Constraint) (columns : List ℕ)
    → map (λ (c : Constraint). c.name) (filter (λ (c : Constraint). is_violated reading name table c.rule) constraints)
    ≡ [] → primary_key constraints ≡ Some columns
    → is_violated reading name table (PrimaryKey columns) ≡ false
not-violated reading name table [] columns e k = absurd (cc (k))
not-violated reading name table (c ∷ constraints) columns e k =
    at (is_violated reading name table c.rule) refl e (λ f g. not-violated reading name table constraints columns f g)
  where
    here : (r : Rule) → is_violated reading name table r ≡ false → key_or r (primary_key constraints) ≡ Some columns
        → (primary_key constraints ≡ Some columns → is_violated reading name table (PrimaryKey columns) ≡ false)
        → is_violated reading name table (PrimaryKey columns) ≡ false
    here (PrimaryKey others) v g rest = subst (λ (z : List ℕ). is_violated reading name table (PrimaryKey z) ≡ false)
        (some-is g) v
      where
        some-is : {x y : List ℕ} → Some x ≡ Some y → x ≡ y
        some-is g = cc
    here (NotNull column) v g rest = rest g
    here (Unique others) v g rest = rest g
    here (Check text) v g rest = rest g
    here (ForeignKey reference) v g rest = rest g

    at : (b : Bool) → is_violated reading name table c.rule ≡ b
        → map (λ (c : Constraint). c.name)
        (cond b (c ∷ filter (λ (c : Constraint). is_violated reading name table c.rule) constraints)
        (filter (λ (c : Constraint). is_violated reading name table c.rule) constraints)) ≡ []
        → (map (λ (c : Constraint). c.name)
        (filter (λ (c : Constraint). is_violated reading name table c.rule) constraints) ≡ []
        → primary_key constraints ≡ Some columns → is_violated reading name table (PrimaryKey columns) ≡ false)
        → is_violated reading name table (PrimaryKey columns) ≡ false
    at true v f rest = absurd (cc (f))
    at false v f rest = here c.rule v k (rest f)

-- a value that is not null equals itself
equals-itself : (x : Value) → is_null x ≡ false → is_equal x x ≡ true
equals-itself Null e = absurd (cc (e))
equals-itself (Int x) e = ap (λ b. same_truth (truth_of b) True) (int_eq_equiv.refl x)
equals-itself (Text x) e = ap (λ b. same_truth (truth_of b) True) ((eq_by_cmp_equiv nat_list_cmp_total).refl x)

key-equals : (key : Row) → list_any is_null key ≡ false → pointwise is_equal key key ≡ true
key-equals [] e = refl
key-equals (x ∷ key) e = let c = neither (is_null x) (list_any is_null key) e in rw
    (equals-itself x c.0, key-equals key c.1) refl

not-alike : (a b : Row) → list_any is_null a ≡ false → pointwise is_equal b a ≡ false → are_alike a b ≡ false
not-alike a b full differ = at (are_alike a b) refl
  where
    at : (t : Bool) → are_alike a b ≡ t → t ≡ false
    at false e = refl
    at true e = absurd (let same = are_alike-equal a b e in let f = subst (λ (z : Row). pointwise is_equal z a ≡ false)
        (sym same) differ in let g = key-equals a full in let bad : true ≡ false = sym g ∙ f in cc)

apart : (columns : List ℕ) (rows : List Row) → has_null columns rows ≡ false → has_twins columns rows ≡ false
    → Apart (map (key_of columns) rows)
apart columns [] n t = tt
apart columns (row ∷ rows) n t =
    let full = neither (list_any is_null (key_of columns row)) (has_null columns rows) n in
    let alone = neither (list_any (matches columns (key_of columns row)) rows) (has_twins columns rows) t in
    (others rows alone.0 full.0, apart columns rows full.1 alone.1)
  where
    others : (ys : List Row) → list_any (matches columns (key_of columns row)) ys ≡ false
        → list_any is_null (key_of columns row) ≡ false
        → Every (λ key. are_alike (key_of columns row) key ≡ false) (map (key_of columns) ys)
    others [] e full = tt
    others (y ∷ ys) e full =
        let c = neither (matches columns (key_of columns row) y) (list_any (matches columns (key_of columns row)) ys) e
        in
        (not-alike (key_of columns row) (key_of columns y) full c.0, others ys c.1 full)

pub good-has : (reading : CheckReading) (db : Database) (known : StoredTable) → IsGood reading db → Has db known
    → HasTable (rows_in db) known
good-has reading db known good has =
    let table = (good known.name has.table has.found).alone in
    let rows : rows_in db known.name ≡ has.table.rows = ap rows_of has.found in
    record {
      width = subst (λ (z : List Row). Every (λ row. length row ≡ known.width) z) (sym rows)
          (subst (λ (n : ℕ). Every (λ row. length row ≡ n) has.table.rows) has.width
          (all-wide has.table.columns has.table.rows table.fitting));
      key = λ columns e.
          let kept = neither (has_null columns has.table.rows) (has_twins columns has.table.rows)
          (not-violated reading known.name has.table has.table.constraints columns table.unviolated (has.key ∙ e))
          in
          subst (λ (z : List Row). Apart (map (key_of columns) z)) (sym rows)
          (apart columns has.table.rows kept.0 kept.1);
    }
