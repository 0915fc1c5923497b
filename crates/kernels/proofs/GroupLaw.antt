-- The rows of groups over arguments that were evaluated before are the listing's.
use Rattle.std.proofs.Common.{◌≡◌, refl, ap, sym, ◌∙◌, subst, ℕ, zero, suc, ◌+◌, ◌^◌, Bool, true, false, if◌then◌else◌, List, [], ◌∷◌, ◌++◌, map, drop, length, Option, Some, None, add-one}
use Rattle.std.specs.Prelude.{Result, Ok, Err, filter, flat_map, nat_lt, pos, slice_index_or}
use Rattle.sqlval.specs.declared.value.Value.{Value}
use Rattle.sqlval.specs.Arithmetic.{in_range}
use Rattle.sqlval.specs.Matching.{key_of}
use Rattle.sqlval.specs.Value.{Row}
use Rattle.algebra.specs.Listing.{row_by_row, then_list, ended, listed_rows, whole_first, unless_ended, all_argument_faults, argument_faults, groups_listed}
use Rattle.algebra.specs.Meaning.{MeantFunction, Rows, Argument, function_of}
use Rattle.denote.specs.declared.fault.Fault.{Fault as Raised}
use Rattle.denote.specs.declared.fault.Fault.TheVariants.{OutOfRange}
use Rattle.denote.specs.declared.fault.Stop.{Stop}
use Rattle.denote.specs.declared.fault.Stop.TheVariants.{Memory, Fault}
use Rattle.denote.specs.Bag.{are_alike}
use Rattle.denote.specs.Evaluation.{Env, Evaluation, ◌>>=◌, given, adding, together, joined, faults_in}
use Rattle.denote.specs.Expression.{cell}
use Rattle.denote.specs.Group.{taken, aggregated, group_row, keys_of}
use Rattle.denote.specs.Outcome.{Outcome, nothing_at_all}
use Rattle.kernels.specs.declared.aggregate.Aggregate.{Aggregate}
use Rattle.kernels.specs.declared.groups.Group.{Group}
use Rattle.kernels.specs.Groups.{places_from, group_of}
use Rattle.kernels.specs.Aggregates.{kind_of, argument_value, argument_values, value_at, values_at, value_over, values_over, row_of, rows_of, all_keys, groups_in, IsFirstFault, GivesFirst, GivesRows}
use Rattle.kernels.proofs.Firsts.{filter-all}

-- ---- evaluations without faults

abbrev fine : {A : Type 0} → A → Evaluation A
fine x = Ok x

all-fine : {A : Type 0} (xs : List (Evaluation A)) (ys : List A) → together xs ≡ Ok ys → xs ≡ map fine ys
all-fine [] [] e = refl
all-fine [] (y ∷ ys) e = absurd (cc)
all-fine {A} (x ∷ xs) ys e = go x (together xs) refl ys e (all-fine xs)
  where
    go : (x : Evaluation A) (m : Evaluation (List A)) → together xs ≡ m → (ys : List A) → joined x m ≡ Ok ys → ((zs : List A) → together xs ≡ Ok zs → xs ≡ map fine zs) → x ∷ xs ≡ map fine ys
    go (Ok x) (Ok zs) f ys e more = let same : x ∷ zs ≡ ys = cc in subst (λ (ws : List A). Ok x ∷ xs ≡ map fine ws) same (ap (λ ws. Ok x ∷ ws) (more zs f))
    go (Ok x) (Err faults) f ys e more = absurd (cc)
    go (Err faults) m f ys e more = absurd (cc)

fine-all : {A : Type 0} (ys : List A) → together (map fine ys) ≡ Ok ys
fine-all [] = refl
fine-all (y ∷ ys) = ap (joined (Ok y)) (fine-all ys)

-- ---- the arguments' faults

joined-faults : {A : Type 0} (x : Evaluation A) (more : Evaluation (List A)) → faults_in (joined x more) ≡ faults_in x ++ faults_in more
joined-faults (Ok x) (Ok xs) = refl
joined-faults (Ok x) (Err faults) = refl
joined-faults (Err faults) more = refl

own-faults : (env : Env) (function : MeantFunction) → faults_in (argument_value env function) ≡ argument_faults function env
own-faults env Rows = refl
own-faults env (Argument function is_distinct argument) = refl

row-faults : (env : Env) (functions : List MeantFunction) → faults_in (together (map (argument_value env) functions)) ≡ flat_map (λ function. argument_faults function env) functions
row-faults env [] = refl
row-faults env (f ∷ fs) = joined-faults (argument_value env f) (together (map (argument_value env) fs)) ∙ (λ i. own-faults env f i ++ row-faults env fs i)

pub arguments-faults : (functions : List MeantFunction) (env : Env) (rows : List Row) → faults_in (together (map (argument_values functions env) rows)) ≡ all_argument_faults functions env rows
arguments-faults functions env [] = refl
arguments-faults functions env (row ∷ rows) =
    joined-faults (argument_values functions env row) (together (map (argument_values functions env) rows)) ∙ (λ i. row-faults (row ∷ env) functions i ++ arguments-faults functions env rows i)

-- ---- the arguments at each row

-- at each row the functions have the values from this place on
abbrev Fits : Env → List MeantFunction → ℕ → List Row → List Row → Type 0
Fits env functions number [] [] = Unit {0}
Fits env functions number [] (values ∷ arguments) = ⊥
Fits env functions number (row ∷ rows) [] = ⊥
Fits env functions number (row ∷ rows) (values ∷ arguments) = (map (argument_value (row ∷ env)) functions ≡ map fine (drop number values)) × Fits env functions number rows arguments

-- at each row a function has the value at this place
abbrev Stands : Env → MeantFunction → ℕ → List Row → List Row → Type 0
Stands env function number [] [] = Unit {0}
Stands env function number [] (values ∷ arguments) = ⊥
Stands env function number (row ∷ rows) [] = ⊥
Stands env function number (row ∷ rows) (values ∷ arguments) = (argument_value (row ∷ env) function ≡ Ok (cell values number)) × Stands env function number rows arguments

all-fit : (functions : List MeantFunction) (env : Env) (rows arguments : List Row) → map (argument_values functions env) rows ≡ map fine arguments → Fits env functions 0 rows arguments
all-fit functions env [] [] e = tt
all-fit functions env [] (values ∷ arguments) e = absurd (cc)
all-fit functions env (row ∷ rows) [] e = absurd (cc)
all-fit functions env (row ∷ rows) (values ∷ arguments) e =
    let head : argument_values functions env row ≡ fine values = cc in
    let tail : map (argument_values functions env) rows ≡ map fine arguments = cc in
    (all-fine (map (argument_value (row ∷ env)) functions) values head, all-fit functions env rows arguments tail)

head-drop : (g : MeantFunction → Evaluation Value) (f : MeantFunction) (fs : List MeantFunction) (number : ℕ) (values : Row) → map g (f ∷ fs) ≡ map fine (drop number values)
    → (g f ≡ Ok (cell values number)) × (map g fs ≡ map fine (drop (suc number) values))
head-drop g f fs zero [] e = absurd (cc)
head-drop g f fs zero (v ∷ vs) e = let head : g f ≡ fine v = cc in let tail : map g fs ≡ map fine vs = cc in (head, tail)
head-drop g f fs (suc number) [] e = absurd (cc)
head-drop g f fs (suc number) (v ∷ vs) e = head-drop g f fs number vs e

fits-first : (env : Env) (f : MeantFunction) (fs : List MeantFunction) (number : ℕ) (rows arguments : List Row) → Fits env (f ∷ fs) number rows arguments → Stands env f number rows arguments
fits-first env f fs number [] [] h = tt
fits-first env f fs number [] (values ∷ arguments) h = absurd h
fits-first env f fs number (row ∷ rows) [] h = absurd h
fits-first env f fs number (row ∷ rows) (values ∷ arguments) h = ((head-drop (argument_value (row ∷ env)) f fs number values h.0).0, fits-first env f fs number rows arguments h.1)

fits-rest : (env : Env) (f : MeantFunction) (fs : List MeantFunction) (number : ℕ) (rows arguments : List Row) → Fits env (f ∷ fs) number rows arguments → Fits env fs (suc number) rows arguments
fits-rest env f fs number [] [] h = tt
fits-rest env f fs number [] (values ∷ arguments) h = absurd h
fits-rest env f fs number (row ∷ rows) [] h = absurd h
fits-rest env f fs number (row ∷ rows) (values ∷ arguments) h = ((head-drop (argument_value (row ∷ env)) f fs number values h.0).1, fits-rest env f fs number rows arguments h.1)

-- ---- the rows of a group

abbrev picked : List ℕ → Row → List Row → List Row
picked columns key rows = filter (λ row. are_alike key (key_of columns row)) rows

abbrev picked_places : List ℕ → Row → ℕ → List Row → List ℕ
picked_places columns key at rows = places_from key at (map (key_of columns) rows)

picked-length : (columns : List ℕ) (key : Row) (at : ℕ) (rows : List Row) → length (picked columns key rows) ≡ length (picked_places columns key at rows)
picked-length columns key at [] = refl
picked-length columns key at (row ∷ rows) = go (are_alike key (key_of columns row)) (picked-length columns key (at + 1) rows)
  where
    go : (b : Bool) → length (picked columns key rows) ≡ length (picked_places columns key (at + 1) rows)
        → length (if b then row ∷ picked columns key rows else picked columns key rows) ≡ length (if b then at ∷ picked_places columns key (at + 1) rows else picked_places columns key (at + 1) rows)
    go true e = ap (λ n. suc n) e
    go false e = e

at-place : (all : List Row) (at : ℕ) (values : Row) (more : List Row) → drop at all ≡ values ∷ more → (slice_index_or all at [] ≡ values) × (drop (suc at) all ≡ more)
at-place [] zero values more e = absurd (cc)
at-place [] (suc at) values more e = absurd (cc)
at-place (x ∷ xs) zero values more e = let head : x ≡ values = cc in let tail : xs ≡ more = cc in (head, tail)
at-place (x ∷ xs) (suc at) values more e = at-place xs at values more e

picked-values : (columns : List ℕ) (key : Row) (env : Env) (f : MeantFunction) (number : ℕ) (all : List Row) (at : ℕ) (rows arguments : List Row) → Stands env f number rows arguments → drop at all ≡ arguments
    → map (λ row. argument_value (row ∷ env) f) (picked columns key rows) ≡ map fine (values_at all number (picked_places columns key at rows))
picked-values columns key env f number all at [] [] h e = refl
picked-values columns key env f number all at [] (values ∷ arguments) h e = absurd h
picked-values columns key env f number all at (row ∷ rows) [] h e = absurd h
picked-values columns key env f number all at (row ∷ rows) (values ∷ arguments) h e =
    let here = at-place all at values arguments e in
    let value : argument_value (row ∷ env) f ≡ fine (value_at all number at) = h.0 ∙ ap (λ (r : Row). fine (cell r number)) (sym here.0) in
    go (are_alike key (key_of columns row)) value (picked-values columns key env f number all (at + 1) rows arguments h.1 (ap (λ k. drop k all) (add-one at) ∙ here.1))
  where
    go : (b : Bool) → argument_value (row ∷ env) f ≡ fine (value_at all number at)
        → map (λ row. argument_value (row ∷ env) f) (picked columns key rows) ≡ map fine (values_at all number (picked_places columns key (at + 1) rows))
        → map (λ row. argument_value (row ∷ env) f) (if b then row ∷ picked columns key rows else picked columns key rows)
        ≡ map fine (values_at all number (if b then at ∷ picked_places columns key (at + 1) rows else picked_places columns key (at + 1) rows))
    go true v more = λ i. v i ∷ more i
    go false v more = more

function-value : (columns : List ℕ) (key : Row) (env : Env) (f : MeantFunction) (number : ℕ) (rows arguments : List Row) → Stands env f number rows arguments
    → function_of f env (picked columns key rows) ≡ value_over arguments (picked_places columns key 0 rows) (kind_of f) number
function-value columns key env Rows number rows arguments h = ap (λ n. given (in_range (pos n))) (picked-length columns key 0 rows)
function-value columns key env (Argument function is_distinct argument) number rows arguments h =
    let values : together (map (λ row. argument (row ∷ env)) (picked columns key rows)) ≡ Ok (values_at arguments number (picked_places columns key 0 rows)) =
    ap together (picked-values columns key env (Argument function is_distinct argument) number arguments 0 rows arguments h refl) ∙ fine-all (values_at arguments number (picked_places columns key 0 rows)) in
    λ i. adding (if nat_lt (picked-length columns key 0 rows i) (2 ^ 63) then [] else OutOfRange ∷ []) (values i >>= (λ xs. given (aggregated function (taken is_distinct xs))))

functions-values : (columns : List ℕ) (key : Row) (env : Env) (functions : List MeantFunction) (number : ℕ) (rows arguments : List Row) → Fits env functions number rows arguments
    → map (λ function. function env (picked columns key rows)) (map function_of functions) ≡ values_over arguments (picked_places columns key 0 rows) (map kind_of functions) number
functions-values columns key env [] number rows arguments h = refl
functions-values columns key env (f ∷ fs) number rows arguments h =
    let one = function-value columns key env f number rows arguments (fits-first env f fs number rows arguments h) in
    let more = functions-values columns key env fs (suc number) rows arguments (fits-rest env f fs number rows arguments h)
    ∙ ap (values_over arguments (picked_places columns key 0 rows) (map kind_of fs)) (sym (add-one number)) in
    λ i. one i ∷ more i

-- a group's row, as a list of one
abbrev listed_row : List Row → List Aggregate → Group → Evaluation (List Row)
listed_row arguments aggregates group = row_of arguments aggregates group >>= (λ row. Ok (row ∷ []))

row-listed : (columns : List ℕ) (key : Row) (env : Env) (functions : List MeantFunction) (rows arguments : List Row) → Fits env functions 0 rows arguments
    → (together (map (λ function. function env (picked columns key rows)) (map function_of functions)) >>= (λ values. Ok ((key ++ values) ∷ [])))
    ≡ listed_row arguments (map kind_of functions) (group_of (map (key_of columns) rows) key)
row-listed columns key env functions rows arguments h =
    ap (λ xs. together xs >>= (λ values. Ok ((key ++ values) ∷ []))) (functions-values columns key env functions 0 rows arguments h)
    ∙ go (together (values_over arguments (picked_places columns key 0 rows) (map kind_of functions) 0))
  where
    go : (m : Evaluation Row) → (m >>= (λ values. Ok ((key ++ values) ∷ []))) ≡ ((m >>= (λ values. Ok (key ++ values))) >>= (λ row. Ok (row ∷ [])))
    go (Ok values) = refl
    go (Err faults) = refl

rows-listed : (columns : Option (List ℕ)) (env : Env) (functions : List MeantFunction) (rows arguments : List Row) → Fits env functions 0 rows arguments
    → row_by_row (group_row columns (map function_of functions) env rows) (keys_of columns rows)
    ≡ row_by_row (λ key. listed_row arguments (map kind_of functions) (group_of (all_keys columns rows) key)) (keys_of columns rows)
rows-listed None env functions rows arguments h =
    ap (λ ms. then_list (ended (together (map (λ function. function env ms) (map function_of functions)) >>= (λ values. Ok (([] ++ values) ∷ [])))) nothing_at_all) (sym (filter-all (λ row. are_alike [] (key_of [] row)) (λ row. refl) rows))
    ∙ ap (λ x. then_list (ended x) nothing_at_all) (row-listed [] [] env functions rows arguments h)
rows-listed (Some columns) env functions rows arguments h = λ i. row_by_row (λ key. row-listed columns key env functions rows arguments h i) (keys_of (Some columns) rows)

-- ---- all groups

module _ (arguments : List Row) (aggregates : List Aggregate) (group : Row → Group) where
  rows-ok : (keys rows : List Row) → rows_of arguments aggregates (map group keys) ≡ Ok rows → row_by_row (λ key. listed_row arguments aggregates (group key)) keys ≡ listed_rows rows
  rows-ok [] rows e = let same : [] ≡ rows = cc in ap listed_rows same
  rows-ok (key ∷ keys) rows e = go (row_of arguments aggregates (group key)) (rows_of arguments aggregates (map group keys)) refl e (rows-ok keys)
    where
      go : (x : Evaluation Row) (m : Evaluation (List Row)) → rows_of arguments aggregates (map group keys) ≡ m → (x >>= (λ row. m >>= (λ more. Ok (row ∷ more)))) ≡ Ok rows
          → ((more : List Row) → rows_of arguments aggregates (map group keys) ≡ Ok more → row_by_row (λ key. listed_row arguments aggregates (group key)) keys ≡ listed_rows more)
          → then_list (ended (x >>= (λ row. Ok (row ∷ [])))) (row_by_row (λ key. listed_row arguments aggregates (group key)) keys) ≡ listed_rows rows
      go (Ok row) (Ok more) f e rest = let same : row ∷ more ≡ rows = cc in ap (then_list (listed_rows (row ∷ []))) (rest more f) ∙ ap listed_rows same
      go (Ok row) (Err faults) f e rest = absurd (cc)
      go (Err faults) m f e rest = absurd (cc)

  rows-ended : (keys : List Row) (fault : Raised) → IsFirstFault (faults_in (rows_of arguments aggregates (map group keys))) (Fault fault)
      → (row_by_row (λ key. listed_row arguments aggregates (group key)) keys).faults ≡ fault ∷ []
  rows-ended [] fault h = absurd h
  rows-ended (key ∷ keys) fault h = go (row_of arguments aggregates (group key)) (rows_of arguments aggregates (map group keys)) refl h (rows-ended keys fault)
    where
      go : (x : Evaluation Row) (m : Evaluation (List Row)) → rows_of arguments aggregates (map group keys) ≡ m → IsFirstFault (faults_in (x >>= (λ row. m >>= (λ more. Ok (row ∷ more))))) (Fault fault)
          → (IsFirstFault (faults_in (rows_of arguments aggregates (map group keys))) (Fault fault) → (row_by_row (λ key. listed_row arguments aggregates (group key)) keys).faults ≡ fault ∷ [])
          → (then_list (ended (x >>= (λ row. Ok (row ∷ [])))) (row_by_row (λ key. listed_row arguments aggregates (group key)) keys)).faults ≡ fault ∷ []
      go (Ok row) (Ok more) f h rest = absurd h
      go (Ok row) (Err faults) f h rest = rest (subst (λ (m : Evaluation (List Row)). IsFirstFault (faults_in m) (Fault fault)) (sym f) h)
      go (Err []) m f h rest = absurd h
      go (Err (first ∷ faults)) m f h rest = ap (λ x. x ∷ []) h

-- a list taken whole
whole-ok : (listed : Outcome) (rows : List Row) → listed ≡ listed_rows rows → whole_first listed listed_rows ≡ listed_rows rows
whole-ok listed rows e = ap (λ o. whole_first o listed_rows) e

whole-ended : (listed : Outcome) (fault : Raised) → listed.faults ≡ fault ∷ [] → whole_first listed listed_rows ≡ record { rows = []; faults = fault ∷ [] }
whole-ended listed fault e = ap (λ faults. unless_ended faults (listed_rows listed.rows)) e

pub group-law : (columns : Option (List ℕ)) (functions : List MeantFunction) (env : Env) (aggregates : List Aggregate) (rows arguments : List Row) (groups : List Group) (reply : Result (List Row) Stop)
    → aggregates ≡ map kind_of functions → together (map (argument_values functions env) rows) ≡ Ok arguments → groups ≡ groups_in columns rows
    → GivesFirst reply (rows_of arguments aggregates groups) → GivesRows reply (groups_listed columns functions env rows)
group-law columns functions env aggregates rows arguments groups reply kinds evaluated are h = go reply h
  where
    no-faults : all_argument_faults functions env rows ≡ []
    no-faults = sym (arguments-faults functions env rows) ∙ ap faults_in evaluated

    fit : Fits env functions 0 rows arguments
    fit = all-fit functions env rows arguments (all-fine (map (argument_values functions env) rows) arguments evaluated)

    same : rows_of arguments aggregates groups ≡ rows_of arguments (map kind_of functions) (groups_in columns rows)
    same = λ i. rows_of arguments (kinds i) (are i)

    listing : groups_listed columns functions env rows
        ≡ whole_first (row_by_row (λ key. listed_row arguments (map kind_of functions) (group_of (all_keys columns rows) key)) (keys_of columns rows)) listed_rows
    listing = ap (λ faults. unless_ended faults (whole_first (row_by_row (group_row columns (map function_of functions) env rows) (keys_of columns rows)) listed_rows)) no-faults
        ∙ ap (λ o. whole_first o listed_rows) (rows-listed columns env functions rows arguments fit)

    go : (reply : Result (List Row) Stop) → GivesFirst reply (rows_of arguments aggregates groups) → GivesRows reply (groups_listed columns functions env rows)
    go (Ok found) k = record {
      ok = listing ∙ whole-ok _ found (rows-ok arguments (map kind_of functions) (group_of (all_keys columns rows)) (keys_of columns rows) found (sym same ∙ k.ok));
      err = tt;
    }
    go (Err Memory) k = record { ok = tt; err = tt }
    go (Err (Fault fault)) k = record {
      ok = tt;
      err = listing ∙ whole-ended _ fault (rows-ended arguments (map kind_of functions) (group_of (all_keys columns rows)) (keys_of columns rows) fault
          (subst (λ (m : Evaluation (List Row)). IsFirstFault (faults_in m) (Fault fault)) same k.err));
    }
