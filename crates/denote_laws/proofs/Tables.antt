-- What a table violates, and which rows of it have no match in other tables, does not depend on the
-- order of rows, nor on indexes.
use Rattle.std.proofs.Common.{◌≡◌, refl, ap, ◌∙◌, ℕ, Bool, true, false, not, ◌||◌, List, [], ◌∷◌, map}
use Rattle.std.specs.Prelude.{filter}
use Rattle.std.specs.List.{list_any}
use Rattle.std.specs.Cmp.{eq_by_cmp_equiv}
use Rattle.std.specs.Cmp.Lexicographic.{pointwise, nat_list_cmp_total}
use Rattle.std.proofs.lemmas.Cmp.{int_eq_equiv}
use Rattle.sqlval.specs.declared.value.Value.{Value}
use Rattle.sqlval.specs.declared.value.Value.TheVariants.{Null, Int, Text}
use Rattle.sqlval.specs.declared.truth.Truth.TheVariants.{True}
use Rattle.sqlval.specs.declared.schema.Column.{Column}
use Rattle.sqlval.specs.declared.schema.Constraint.{Constraint}
use Rattle.sqlval.specs.declared.schema.Reference.{Reference}
use Rattle.sqlval.specs.declared.schema.Rule.{Rule}
use Rattle.sqlval.specs.declared.schema.Rule.TheVariants.{NotNull, PrimaryKey, Unique, Check, ForeignKey}
use Rattle.sqlval.specs.Matching.{key_of, is_equal, matches}
use Rattle.sqlval.specs.Truth.{truth_of, same_truth}
use Rattle.sqlval.specs.Value.{Row, is_null}
use Rattle.denote.specs.Bag.{Permutes, nothing, keeps, exchanges, goes_on}
use Rattle.denote.specs.Database.{Name, Table, CheckReading, check_at, is_false, has_null, has_twins, is_violated, violated_by, is_matched, is_unmatched, unmatched_by}
use Rattle.operator_laws.proofs.Orders.{list_any-permutes}

is_equal-symm : (x y : Value) → is_equal x y ≡ is_equal y x
is_equal-symm Null Null = refl
is_equal-symm Null (Int y) = refl
is_equal-symm Null (Text y) = refl
is_equal-symm (Int x) Null = refl
is_equal-symm (Int x) (Int y) = ap (λ b. same_truth (truth_of b) True) (int_eq_equiv.symm x y)
is_equal-symm (Int x) (Text y) = refl
is_equal-symm (Text x) Null = refl
is_equal-symm (Text x) (Int y) = refl
is_equal-symm (Text x) (Text y) = ap (λ b. same_truth (truth_of b) True) ((eq_by_cmp_equiv nat_list_cmp_total).symm x y)

pub pointwise-symm : (xs ys : List Value) → pointwise is_equal xs ys ≡ pointwise is_equal ys xs
pointwise-symm [] [] = refl
pointwise-symm [] (y ∷ ys) = refl
pointwise-symm (x ∷ xs) [] = refl
pointwise-symm (x ∷ xs) (y ∷ ys) = rw (is_equal-symm x y, pointwise-symm xs ys) refl

twins-swap : (a b c d : Bool) → ((a || b) || (c || d)) ≡ ((a || c) || (b || d))
twins-swap true b c d = refl
twins-swap false true true d = refl
twins-swap false true false d = refl
twins-swap false false true d = refl
twins-swap false false false d = refl

has_twins-permutes : (columns : List ℕ) (rows others : List Row) → Permutes rows others → has_twins columns rows ≡ has_twins columns others
has_twins-permutes columns _ _ nothing = refl
has_twins-permutes columns _ _ (keeps x {xs = xs} {ys = ys} p) =
    rw (list_any-permutes (matches columns (key_of columns x)) xs ys p, has_twins-permutes columns xs ys p) refl
has_twins-permutes columns _ _ (exchanges x y xs) =
    twins-swap (matches columns (key_of columns x) y) (list_any (matches columns (key_of columns x)) xs)
    (list_any (matches columns (key_of columns y)) xs) (has_twins columns xs)
    ∙ ap (λ b. (b || list_any (matches columns (key_of columns y)) xs) || (list_any (matches columns (key_of columns x)) xs || has_twins columns xs))
    (pointwise-symm (key_of columns y) (key_of columns x))
has_twins-permutes columns _ _ (goes_on {xs = xs} {ys = ys} {zs = zs} p q) = has_twins-permutes columns xs ys p ∙ has_twins-permutes columns ys zs q

has_null-permutes : (columns : List ℕ) (rows others : List Row) → Permutes rows others → has_null columns rows ≡ has_null columns others
has_null-permutes columns rows others p = list_any-permutes (λ row. list_any is_null (key_of columns row)) rows others p

is_violated-same : (reading : CheckReading) (name : Name) (t u : Table) (rule : Rule) → t.columns ≡ u.columns → Permutes t.rows u.rows
    → is_violated reading name t rule ≡ is_violated reading name u rule
is_violated-same reading name t u (NotNull column) e p = has_null-permutes (column ∷ []) t.rows u.rows p
is_violated-same reading name t u (PrimaryKey columns) e p = rw (has_null-permutes columns t.rows u.rows p, has_twins-permutes columns t.rows u.rows p) refl
is_violated-same reading name t u (Unique columns) e p = has_twins-permutes columns t.rows u.rows p
is_violated-same reading name t u (Check text) e p =
    list_any-permutes (λ row. is_false (check_at (reading name t.columns text) row)) t.rows u.rows p
    ∙ ap (λ (columns : List Column). list_any (λ row. is_false (check_at (reading name columns text) row)) u.rows) e
is_violated-same reading name t u (ForeignKey reference) e p = refl

pub filter-same : {X : Type 0} (p q : X → Bool) (xs : List X) → ((x : X) → p x ≡ q x) → filter p xs ≡ filter q xs
filter-same p q [] h = refl
filter-same p q (x ∷ xs) h = rw (h x, filter-same p q xs h) refl

pub violated_by-same : (reading : CheckReading) (name : Name) (t u : Table) → t.columns ≡ u.columns → t.constraints ≡ u.constraints → Permutes t.rows u.rows
    → violated_by reading name t ≡ violated_by reading name u
violated_by-same reading name t u e f p =
    ap (λ (cs : List Constraint). map (λ c. c.name) (filter (λ c. is_violated reading name t c.rule) cs)) f
    ∙ ap (λ cs. map (λ c. c.name) cs)
    (filter-same (λ (c : Constraint). is_violated reading name t c.rule) (λ c. is_violated reading name u c.rule) u.constraints
    (λ c. is_violated-same reading name t u c.rule e p))

-- ---- foreign keys

pub any-same : {X : Type 0} (p q : X → Bool) (xs : List X) → ((x : X) → p x ≡ q x) → list_any p xs ≡ list_any q xs
any-same p q [] h = refl
any-same p q (x ∷ xs) h = rw (h x, any-same p q xs h) refl

pub is_matched-permutes : (reference : Reference) (others more : List Row) (row : Row) → Permutes others more → is_matched reference others row ≡ is_matched reference more row
is_matched-permutes reference others more row p =
    ap (λ b. list_any is_null (key_of reference.columns row) || b) (list_any-permutes (matches reference.referenced (key_of reference.columns row)) others more p)

is_unmatched-same : (tables news : Name → List Row) (rows others : List Row) → ((name : Name) → Permutes (tables name) (news name)) → Permutes rows others → (rule : Rule)
    → is_unmatched tables rows rule ≡ is_unmatched news others rule
is_unmatched-same tables news rows others h p (NotNull column) = refl
is_unmatched-same tables news rows others h p (PrimaryKey columns) = refl
is_unmatched-same tables news rows others h p (Unique columns) = refl
is_unmatched-same tables news rows others h p (Check text) = refl
is_unmatched-same tables news rows others h p (ForeignKey reference) =
    list_any-permutes (λ row. not (is_matched reference (tables reference.table) row)) rows others p
    ∙ any-same (λ row. not (is_matched reference (tables reference.table) row)) (λ row. not (is_matched reference (news reference.table) row)) others
    (λ row. ap not (is_matched-permutes reference (tables reference.table) (news reference.table) row (h reference.table)))

pub unmatched_by-same : (tables news : Name → List Row) (constraints : List Constraint) (rows others : List Row) → ((name : Name) → Permutes (tables name) (news name)) → Permutes rows others
    → unmatched_by tables constraints rows ≡ unmatched_by news constraints others
unmatched_by-same tables news constraints rows others h p = ap (λ cs. map (λ c. c.name) cs)
    (filter-same (λ (c : Constraint). is_unmatched tables rows c.rule) (λ c. is_unmatched news others c.rule) constraints
    (λ c. is_unmatched-same tables news rows others h p c.rule))

-- ---- a table without rows violates nothing

not_violated : (reading : CheckReading) (name : Name) (t : Table) (rule : Rule) → t.rows ≡ [] → is_violated reading name t rule ≡ false
not_violated reading name t (NotNull column) e = ap (has_null (column ∷ [])) e
not_violated reading name t (PrimaryKey columns) e = ap (λ rows. has_null columns rows || has_twins columns rows) e
not_violated reading name t (Unique columns) e = ap (has_twins columns) e
not_violated reading name t (Check text) e = ap (list_any (λ row. is_false (check_at (reading name t.columns text) row))) e
not_violated reading name t (ForeignKey reference) e = refl

is_unmatched-none : (tables : Name → List Row) (rule : Rule) → is_unmatched tables [] rule ≡ false
is_unmatched-none tables (NotNull column) = refl
is_unmatched-none tables (PrimaryKey columns) = refl
is_unmatched-none tables (Unique columns) = refl
is_unmatched-none tables (Check text) = refl
is_unmatched-none tables (ForeignKey reference) = refl

filter-none : {X : Type 0} (p : X → Bool) (xs : List X) → ((x : X) → p x ≡ false) → filter p xs ≡ []
filter-none p [] h = refl
filter-none p (x ∷ xs) h = rw (h x) (filter-none p xs h)

pub nothing-violated : (reading : CheckReading) (name : Name) (t : Table) → t.rows ≡ [] → violated_by reading name t ≡ []
nothing-violated reading name t e = ap (λ (cs : List Constraint). map (λ c. c.name) cs)
    (filter-none (λ (c : Constraint). is_violated reading name t c.rule) t.constraints (λ c. not_violated reading name t c.rule e))

pub nothing-unmatched : (tables : Name → List Row) (constraints : List Constraint) → unmatched_by tables constraints [] ≡ []
nothing-unmatched tables constraints = ap (λ (cs : List Constraint). map (λ c. c.name) cs)
    (filter-none (λ (c : Constraint). is_unmatched tables [] c.rule) constraints (λ c. is_unmatched-none tables c.rule))
