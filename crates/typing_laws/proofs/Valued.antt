-- The row of a group has the values of the set functions behind its key.
use Rattle.std.proofs.Common.{◌≡◌, ◌<◌, refl, sym, ap, ◌∙◌, subst, ℕ, zero, suc, ◌+◌, Bool, true, false, cond, not, List, [], ◌∷◌, ◌++◌, map, length, Ok, Err, Option, Some, None, append_assoc, arith}
use Rattle.std.specs.Prelude.{slice_index_or, Contains, filter}
use Rattle.std.specs.List.{AllByRecursion, range_with_len}
use Rattle.std.proofs.lemmas.List.{length-append, length-map}
use Rattle.std.proofs.Math.Seq.{get_or-append_seam}
use Rattle.sqlval.specs.declared.value.Value.{Value}
use Rattle.sqlval.specs.declared.value.Value.TheVariants.{Null}
use Rattle.sqlval.specs.Matching.{key_of}
use Rattle.sqlval.specs.Value.{Row}
use Rattle.typing.specs.declared.typed.Grouping.{Grouping, out-Grouping}
use Rattle.typing.specs.declared.typed.SetFunction.{SetFunction}
use Rattle.typing.specs.Select.{width}
use Rattle.denote.specs.Bag.{are_alike, distinct, distinct_by}
use Rattle.denote.specs.Evaluation.{Env, Evaluation, ◌>>=◌, joined, together}
use Rattle.denote.specs.Expression.{cell}
use Rattle.denote.specs.Group.{SetFunctionMeaning, keys_of, members}
use Rattle.denote.specs.Meaning.{Tables, function_value}
use Rattle.typing_laws.specs.Placed.{IsValued}

-- ---- what is found of lists of evaluations

same_ok : {A : Type 0} (x y : A) → ◌≡◌ {A = Evaluation A} (Ok x) (Ok y) → x ≡ y
same_ok x y e = cc

bound : {A B : Type 0} (x : Evaluation A) (next : A → Evaluation B) (y : B) → (x >>= next) ≡ Ok y → (a : A) × (x ≡ Ok a) × (next a ≡ Ok y)
bound (Ok a) next y e = (a, refl, e)
bound (Err faults) next y e = absurd (cc)

abbrev each_ok : {A : Type 0} → List A → List (Evaluation A)
each_ok xs = map (λ x. Ok x) xs

both : {A : Type 0} (x : Evaluation A) (xs : Evaluation (List A)) (all : List A) → joined x xs ≡ Ok all → (a : A) × (more : List A) × (x ≡ Ok a) × (xs ≡ Ok more) × (a ∷ more ≡ all)
both (Ok a) (Ok more) all e = (a, more, refl, refl, same_ok (a ∷ more) all e)
both (Ok a) (Err faults) all e = absurd (cc)
both (Err faults) xs all e = absurd (cc)

all_found : {A : Type 0} (xs : List (Evaluation A)) (all : List A) → together xs ≡ Ok all → xs ≡ each_ok all
all_found [] all e = ap each_ok (same_ok [] all e)
all_found (x ∷ xs) all e =
    let h = both x (together xs) all e in
    ap (λ y. y ∷ xs) h.2 ∙ ap (λ ys. Ok h.0 ∷ ys) (all_found xs h.1 h.3) ∙ ap each_ok h.4

-- ---- the key of a group has the grouping columns

module _ {X : Type 0} (P : X → Type 0) where
  at_place : (xs : List X) → AllByRecursion P xs → (k : ℕ) (d : X) → k < length xs → P (slice_index_or xs k d)
  at_place [] h k d lt = absurd (omega (arith, lt))
  at_place (x ∷ xs) h zero d lt = h.0
  at_place (x ∷ xs) h (suc k) d lt = at_place xs h.1 k d (omega (arith, lt))

  contained : (xs : List X) → AllByRecursion P xs → (x : X) → Contains xs x → P x
  contained xs h x c = subst P c.2 (at_place xs h c.0 x c.1)

  filtered : (test : X → Bool) (xs : List X) → AllByRecursion P xs → AllByRecursion P (filter test xs)
  filtered test [] h = tt
  filtered test (x ∷ xs) h = by (test x) (filtered test xs h.1)
    where
      by : (b : Bool) → AllByRecursion P (filter test xs) → AllByRecursion P (cond b (x ∷ filter test xs) (filter test xs))
      by true k = (h.0, k)
      by false k = k

  one_of_each : (alike : X → X → Bool) (xs : List X) → AllByRecursion P xs → AllByRecursion P (distinct_by alike xs)
  one_of_each alike [] h = tt
  one_of_each alike (x ∷ xs) h = (h.0, filtered (λ y. not (alike x y)) (distinct_by alike xs) (one_of_each alike xs h.1))

abbrev HasWidth : ℕ → Row → Type 0
HasWidth n row = length row ≡ n

keys_wide : (columns : List ℕ) (rows : List Row) → AllByRecursion (HasWidth (length columns)) (map (key_of columns) rows)
keys_wide columns [] = tt
keys_wide columns (row ∷ rows) = (length-map columns _, keys_wide columns rows)

key_wide : (columns : Option (List ℕ)) (rows : List Row) (key : Row) → Contains (keys_of columns rows) key → length key ≡ width columns
key_wide None rows key c = contained (HasWidth 0) ([] ∷ []) (refl, tt) key c
key_wide (Some columns) rows key c = contained (HasWidth (length columns)) (distinct (map (key_of columns) rows)) (one_of_each (HasWidth (length columns)) are_alike (map (key_of columns) rows) (keys_wide columns rows)) key c

-- ---- the cells behind the key

abbrev found_at : Row → ℕ → Evaluation Value
found_at row place = Ok (cell row place)

cells : (key values : Row) → map (found_at (key ++ values)) (range_with_len (length key) (length values)) ≡ each_ok values
cells key [] = refl
cells key (v ∷ values) =
    let longer : (key ++ (v ∷ [])) ++ values ≡ key ++ (v ∷ values) = append_assoc key (v ∷ []) values in
    let next : length (key ++ (v ∷ [])) ≡ length key + 1 = length-append key (v ∷ []) in
    let rest : map (found_at (key ++ (v ∷ values))) (range_with_len (length key + 1) (length values)) ≡ each_ok values =
    ap (λ n. map (found_at (key ++ (v ∷ values))) (range_with_len n (length values))) (sym next) ∙ ap (λ row. map (found_at row) (range_with_len (length (key ++ (v ∷ []))) (length values))) (sym longer) ∙ cells (key ++ (v ∷ [])) values in
    ap (λ x. Ok x ∷ map (found_at (key ++ (v ∷ values))) (range_with_len (length key + 1) (length values))) (get_or-append_seam key v values Null) ∙ ap (λ l. Ok v ∷ l) rest

applied : (functions : List SetFunction) (meaning : SetFunction → SetFunctionMeaning) (env : Env) (rows : List Row)
    → map (λ (function : SetFunctionMeaning). function env rows) (map meaning functions) ≡ map (λ function. meaning function env rows) functions
applied [] meaning env rows = refl
applied (function ∷ functions) meaning env rows = ap (λ l. meaning function env rows ∷ l) (applied functions meaning env rows)

pub groups-valued : (tables : Tables) (grouping : Grouping) (env : Env) (rows : List Row) (key row : Row) → IsValued tables grouping env rows key row
groups-valued tables grouping env rows key row = λ contained is.
    let columns = (out-Grouping grouping).columns in
    let functions = (out-Grouping grouping).functions in
    let found = map (λ (function : SetFunctionMeaning). function env (members columns key rows)) (map (function_value tables) functions) in
    let values = bound (together found) (λ values. Ok ((key ++ values) ∷ [])) (row ∷ []) is in
    let made : (key ++ values.0) ∷ [] ≡ row ∷ [] = same_ok ((key ++ values.0) ∷ []) (row ∷ []) values.2 in
    let whole : key ++ values.0 ≡ row = ap (λ rows. slice_index_or rows 0 []) made in
    let all : found ≡ each_ok values.0 = all_found found values.0 values.1 in
    let each : map (λ function. function_value tables function env (members columns key rows)) functions ≡ each_ok values.0 = sym (applied functions (function_value tables) env (members columns key rows)) ∙ all in
    let many : length functions ≡ length values.0 =
    sym (length-map functions (λ function. function_value tables function env (members columns key rows))) ∙ ap length each ∙ length-map values.0 (λ x. Ok x) in
    ap (λ n. map (found_at row) (range_with_len n (length functions))) (sym (key_wide columns rows key contained))
    ∙ ap (λ n. map (found_at row) (range_with_len (length key) n)) many
    ∙ ap (λ r. map (found_at r) (range_with_len (length key) (length values.0))) (sym whole)
    ∙ cells key values.0 ∙ sym each
