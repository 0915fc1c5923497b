-- The rows that a table may hold are short enough for a store.
use Rattle.std.proofs.Common.{◌≡◌, ◌∙◌, refl, sym, ap, ℕ, zero, suc, ◌+◌, ◌<◌, Bool, true, false, cond, List, [], ◌∷◌, ◌++◌, map, length, slice_index_or, Ok, Err, arith}
use Rattle.std.specs.Prelude.{Contains, flat_map, nat_le}
use Rattle.sqlval.specs.CodedLength.{row_length, key_length}
use Rattle.sqlval.specs.Matching.{key_of}
use Rattle.sqlval.specs.Value.{Row}
use Rattle.typing.specs.declared.typed.Condition.{Condition}
use Rattle.denote.specs.declared.fault.Fault.{Fault}
use Rattle.denote.specs.declared.fault.Fault.TheVariants.{Record, Key}
use Rattle.denote.specs.Database.{Table, IndexDeclaration, check_at}
use Rattle.denote.specs.Evaluation.{Evaluation, joined, together, unless, faults_in}
use Rattle.denote.specs.StoredRow.{row_faults, record_faults, key_faults, admitted}
use Rattle.store.specs.Errors.{HasLongRow, HasLongKey}

same_ok : {A : Type 0} (x y : A) → ◌≡◌ {A = Evaluation A} (Ok x) (Ok y) → x ≡ y
same_ok x y e = cc

-- where all are given, each is
pub given_each : {X A : Type 0} (f : X → Evaluation A) (P : A → Type 0) → ((x : X) (r : A) → f x ≡ Ok r → P r) → (xs : List X) (rs : List A) → together (map f xs) ≡ Ok rs
    → (k : ℕ) (d r : A) → k < length rs → slice_index_or rs k d ≡ r → P r
given_each {A = A} f P each [] rs e k d r below is = let none : rs ≡ [] = sym (same_ok [] rs e) in absurd (short rs none k below)
  where
    short : (rs : List A) → rs ≡ [] → (k : ℕ) → k < length rs → ⊥
    short [] e k below = omega arith
    short (x ∷ rs) e k below = cc
given_each {X = X} {A = A} f P each (x ∷ xs) rs e k d r below is = by (f x) refl (together (map f xs)) refl e (given_each f P each xs)
  where
    by : (here : Evaluation A) → f x ≡ here → (later : Evaluation (List A)) → together (map f xs) ≡ later → joined here later ≡ Ok rs
        → ((rs : List A) → together (map f xs) ≡ Ok rs → (k : ℕ) (d r : A) → k < length rs → slice_index_or rs k d ≡ r → P r) → P r
    by (Ok y) here_is (Ok ys) later_is e rest = at k rs (sym (same_ok (y ∷ ys) rs e)) below is
      where
        at : (k : ℕ) (rs : List A) → rs ≡ y ∷ ys → k < length rs → slice_index_or rs k d ≡ r → P r
        at zero [] e below is = cc
        at zero (z ∷ zs) e below is = let same : z ≡ y = cc in let one : z ≡ r = is in each x r (rw (← one, same) here_is)
        at (suc k) [] e below is = cc
        at (suc k) (z ∷ zs) e below is = let same : zs ≡ ys = cc in rest zs (rw same later_is) k d r (omega (arith, below)) is
    by (Ok y) here_is (Err faults) later_is e rest = absurd (cc e)
    by (Err faults) here_is later later_is e rest = absurd (cc e)

none_of : {A : Type 0} (faults : List Fault) (x y : A) → unless faults x ≡ Ok y → (faults ≡ []) × (x ≡ y)
none_of [] x y e = (refl, same_ok x y e)
none_of (fault ∷ faults) x y e = absurd (cc e)

-- a row without faults of its lengths
pub record Fits (table : Table) (row : Row) : Type 0 where
  pub record_none : record_faults row ≡ []
  pub key_none : flat_map (λ (index : IndexDeclaration). key_faults row index.columns) table.indexes ≡ []

split_none : (xs ys : List Fault) → xs ++ ys ≡ [] → (xs ≡ []) × (ys ≡ [])
split_none [] ys e = (refl, e)
split_none (x ∷ xs) ys e = absurd (cc e)

-- what is admitted fits
pub admitted_fits : (checks : List Condition) (table : Table) (row : Evaluation Row) (r : Row) → admitted checks table row ≡ Ok r → Fits table r
admitted_fits checks table (Ok x) r e =
    let p = none_of (row_faults checks table x) x r e in
    let none : row_faults checks table r ≡ [] = ap (row_faults checks table) (sym p.1) ∙ p.0 in
    let outer = split_none (flat_map (λ check. faults_in (check_at check r)) checks) (record_faults r ++ flat_map (λ (index : IndexDeclaration). key_faults r index.columns) table.indexes) none in
    let two = split_none (record_faults r) (flat_map (λ (index : IndexDeclaration). key_faults r index.columns) table.indexes) outer.1 in
    record { record_none = two.0; key_none = two.1 }
admitted_fits checks table (Err faults) r e = absurd (cc e)

short_record : (r : Row) → record_faults r ≡ [] → 1000 < row_length r → ⊥
short_record r e long = by (nat_le (row_length r) 1000) refl e
  where
    by : (b : Bool) → nat_le (row_length r) 1000 ≡ b → cond b [] (Record ∷ []) ≡ [] → ⊥
    by true is e = grind (arith, is, long)
    by false is e = cc e

pub short_key : (r : Row) (columns : List ℕ) → key_faults r columns ≡ [] → 600 < key_length (key_of columns r) + 8 → ⊥
short_key r columns e long = by (nat_le (key_length (key_of columns r) + 8) 600) refl e
  where
    by : (b : Bool) → nat_le (key_length (key_of columns r) + 8) 600 ≡ b → cond b [] (Key ∷ []) ≡ [] → ⊥
    by true is e = grind (arith, is, long)
    by false is e = cc e

none_at : {X : Type 0} (f : X → List Fault) (xs : List X) → flat_map f xs ≡ [] → (k : ℕ) (d x : X) → k < length xs → slice_index_or xs k d ≡ x → f x ≡ []
none_at f [] e k d x below is = absurd (omega arith)
none_at f (y ∷ xs) e zero d x below is = let one : y ≡ x = is in ap f (sym one) ∙ (split_none (f y) (flat_map f xs) e).0
none_at f (y ∷ xs) e (suc k) d x below is = none_at f xs (split_none (f y) (flat_map f xs) e).1 k d x (omega (arith, below)) is

-- where no part has a fault, one of them has none
pub none_in : {X : Type 0} (f : X → List Fault) (xs : List X) (x : X) → flat_map f xs ≡ [] → Contains xs x → f x ≡ []
none_in f xs x e one = none_at f xs e one.0 x x one.1 one.2

pub no_long_row : (table : Table) (rows : List Row) → ((row : Row) → Contains rows row → Fits table row) → HasLongRow rows → ⊥
no_long_row table rows fits long = short_record long.row (fits long.row long.one).record_none long.long

pub no_long_key : (table : Table) (rows : List Row) → ((row : Row) → Contains rows row → Fits table row) → HasLongKey table.indexes rows → ⊥
no_long_key table rows fits long =
    short_key long.row long.index.columns
    (none_in (λ (index : IndexDeclaration). key_faults long.row index.columns) table.indexes long.index (fits long.row long.one).key_none long.among) long.long
