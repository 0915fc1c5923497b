-- The rows of a select list ascend by the keys whose columns are among its items.
use Rattle.std.proofs.Common.{◌≡◌, refl, ap, sym, ◌∙◌, subst, ℕ, suc, ◌+◌, Bool, true, false, if◌then◌else◌, List, [], ◌∷◌, Option, Some, None, Ok, Err, arith}
use Rattle.std.proofs.lemmas.Bool.{eqb-true}
use Rattle.std.specs.List.{position_from}
use Rattle.std.specs.Ordering.{is_lt, ordering_then}
use Rattle.std.specs.declared.cmp.Ordering.{Ordering}
use Rattle.std.specs.declared.cmp.Ordering.TheVariants.{Less, Equal, Greater}
use Rattle.sqlval.specs.Value.{Row}
use Rattle.sqlval.specs.declared.value.Value.{Value}
use Rattle.typing.specs.declared.typed.OrderKey.{OrderKey}
use Rattle.algebra.specs.Listing.{ended, onwards, row_by_row}
use Rattle.algebra.specs.OrderKeys.{is_column, key_at, handed_on}
use Rattle.denote.specs.Answer.{directed, by_keys}
use Rattle.denote.specs.Evaluation.{Env, Evaluation, ◌>>=◌, joined}
use Rattle.denote.specs.Expression.{ExpressionMeaning, cell}
use Rattle.denote.specs.Outcome.{Outcome}
use Rattle.denote.specs.Select.{values_of, shown_row}
use Rattle.operator_laws.specs.Same.{Each}
use Rattle.order_laws.proofs.Ascending.{Ascends}
use Rattle.order_laws.proofs.RowByRow.{IsMadeOf, KeepsOrder, onwards-ascends}

-- what is said to be a column of the row has that column's value
abbrev pub ShowsColumn : Option ℕ → ExpressionMeaning → Type 0
ShowsColumn seen item = (place : ℕ) → seen ≡ Some place → (row : Row) (env : Env) → item (row ∷ env) ≡ Ok (cell row place)

-- a row of values has each column of another where these say that it stands
abbrev HasColumns : List (Option ℕ) → Row → Row → Type 0
HasColumns columns values row = (column place : ℕ) → position_from (is_column column) 0 columns ≡ Some place → cell values place ≡ cell row column

-- ---- keys that are handed on

then-less : (o a b : Ordering) → (is_lt a ≡ false → is_lt b ≡ false) → is_lt (ordering_then o a) ≡ false → is_lt (ordering_then o b) ≡ false
then-less Less a b h e = e
then-less Equal a b h e = h e
then-less Greater a b h e = refl

directed-same : (descending : Bool) (made other row next : Row) (place column : ℕ) → cell made place ≡ cell row column → cell other place ≡ cell next column
    → directed descending other made (record { place = place; descending = descending }) ≡ directed descending next row (record { place = column; descending = descending })
directed-same false made other row next place column e f = rw (e, f) refl
directed-same true made other row next place column e f = rw (e, f) refl

handed-keeps : (columns : List (Option ℕ)) (keys : List OrderKey) → KeepsOrder keys (handed_on columns keys) (HasColumns columns)
handed-keeps columns [] made other row next h k e = refl
handed-keeps columns (key ∷ keys) made other row next h k e = at (position_from (is_column key.place) 0 columns) refl (handed-keeps columns keys made other row next h k)
  where
    at : (found : Option ℕ) → position_from (is_column key.place) 0 columns ≡ found
        → (is_lt (by_keys keys next row) ≡ false → is_lt (by_keys (handed_on columns keys) other made) ≡ false)
        → is_lt (by_keys (key_at key found (handed_on columns keys)) other made) ≡ false
    at None f further = refl
    at (Some place) f further = subst (λ (o : Ordering). is_lt (ordering_then o (by_keys (handed_on columns keys) other made)) ≡ false)
        (sym (directed-same key.descending made other row next place key.place (h key.place place f) (k key.place place f)))
        (then-less (directed key.descending next row key) (by_keys keys next row) (by_keys (handed_on columns keys) other made) further e)

-- ---- items that are columns

-- the values of items, one after another
all-of : (x : Evaluation Value) (xs : Evaluation Row) (values : Row) → joined x xs ≡ Ok values
    → (first : Value) × (rest : Row) × (x ≡ Ok first) × (xs ≡ Ok rest) × (values ≡ first ∷ rest)
all-of (Ok x) (Ok xs) values e = (x, xs, refl, refl, sym (ok-same (x ∷ xs) values e))
  where
    ok-same : (a b : Row) → let left : Evaluation Row = Ok a in let right : Evaluation Row = Ok b in left ≡ right → a ≡ b
    ok-same a b e = cc
all-of (Ok x) (Err faults) values e = absurd (cc)
all-of (Err faults) (Ok xs) values e = absurd (cc)
all-of (Err faults) (Err others) values e = absurd (cc)

found-shown : (columns : List (Option ℕ)) (items : List ExpressionMeaning) → Each ShowsColumn columns items → (row : Row) (env : Env) (values : Row)
    → values_of items (row ∷ env) ≡ Ok values → (start column place : ℕ) → position_from (is_column column) start columns ≡ Some place
    → (k : ℕ) × (place ≡ start + k) × (cell values k ≡ cell row column)
found-shown [] items h row env values e start column place f = absurd (cc)
found-shown (seen ∷ columns) [] h row env values e start column place f = absurd h
found-shown (seen ∷ columns) (item ∷ items) h row env values e start column place f =
    let parts = all-of (item (row ∷ env)) (values_of items (row ∷ env)) values e in
    at (is_column column seen) refl f parts.0 parts.1 parts.2 parts.4
    (λ g. found-shown columns items h.1 row env parts.1 parts.3 (start + 1) column place g)
  where
    first-is : (x : Option ℕ) → is_column column x ≡ true → x ≡ Some column
    first-is None e = absurd (cc)
    first-is (Some other) e = ap (λ n. Some n) (sym (eqb-true column other e))

    at : (b : Bool) → is_column column seen ≡ b → (if b then Some start else position_from (is_column column) (start + 1) columns) ≡ Some place
        → (first : Value) (rest : Row) → item (row ∷ env) ≡ Ok first → values ≡ first ∷ rest
        → (position_from (is_column column) (start + 1) columns ≡ Some place → (k : ℕ) × (place ≡ start + 1 + k) × (cell rest k ≡ cell row column))
        → (k : ℕ) × (place ≡ start + k) × (cell values k ≡ cell row column)
    at true g f first rest here made further =
        let same : start ≡ place = cc in
        let shown : item (row ∷ env) ≡ Ok (cell row column) = h.0 column (first-is seen g) row env in
        let value : first ≡ cell row column = value-same first (cell row column) (sym here ∙ shown) in
        (0, omega (arith, same), ap (λ (v : Row). cell v 0) made ∙ value)
      where
        value-same : (a b : Value) → let left : Evaluation Value = Ok a in let right : Evaluation Value = Ok b in left ≡ right → a ≡ b
        value-same a b e = cc
    at false g f first rest here made further =
        let found = further f in
        (suc found.0, omega (arith, found.1), ap (λ (v : Row). cell v (suc found.0)) made ∙ found.2)

has-columns : (columns : List (Option ℕ)) (items : List ExpressionMeaning) → Each ShowsColumn columns items → (row : Row) (env : Env) (values : Row)
    → values_of items (row ∷ env) ≡ Ok values → HasColumns columns values row
has-columns columns items h row env values e column place f =
    let found = found-shown columns items h row env values e 0 column place f in
    let same : place ≡ found.0 = omega (arith, found.1) in
    ap (λ (k : ℕ). cell values k) same ∙ found.2

shown-made : (columns : List (Option ℕ)) (items : List ExpressionMeaning) → Each ShowsColumn columns items → (env : Env) (row : Row)
    → IsMadeOf (HasColumns columns) (ended (shown_row items env row)).rows row
shown-made columns items h env row = at (values_of items (row ∷ env)) refl
  where
    at : (x : Evaluation Row) → values_of items (row ∷ env) ≡ x → IsMadeOf (HasColumns columns) (ended (x >>= (λ values. Ok (values ∷ [])))).rows row
    at (Ok values) e = has-columns columns items h row env values e
    at (Err faults) e = tt

pub projected-ascends : (columns : List (Option ℕ)) (items : List ExpressionMeaning) → Each ShowsColumn columns items → (keys : List OrderKey) (env : Env) (part : Outcome)
    → Ascends keys part.rows → Ascends (handed_on columns keys) (onwards part (row_by_row (shown_row items env))).rows
projected-ascends columns items h keys env part up =
    onwards-ascends keys (handed_on columns keys) (HasColumns columns) (handed-keeps columns keys) (λ row. ended (shown_row items env row)) (shown-made columns items h env) part up
