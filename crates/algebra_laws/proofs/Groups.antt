-- Groups: their listing stands to their outcome.
use Rattle.std.proofs.Common.{◌≡◌, refl, ap, sym, ◌∙◌, subst, ℕ, zero, suc, ◌<◌, Bool, true, false, not, if◌then◌else◌, List, [], ◌∷◌, ◌++◌, map, slice_index_or, append-nil, arith, Option, None, Some, Ok, Err, ◌⊎◌, inl, inr}
use Rattle.std.specs.Prelude.{Contains, flat_map, filter}
use Rattle.std.proofs.lemmas.List.Elements.{Contains-append_left, Contains-append_right, Contains-append_cases}
use Rattle.sqlval.specs.declared.value.Value.{Value}
use Rattle.sqlval.specs.Matching.{key_of}
use Rattle.sqlval.specs.Value.{Row}
use Rattle.typing.specs.declared.typed.SetFunctionType.{SetFunctionType}
use Rattle.algebra.specs.Meaning.{MeantFunction, Rows, Argument, function_of}
use Rattle.algebra.specs.Listing.{end_by, ended, unless_ended, row_by_row, whole_first, listed_rows, argument_faults, all_argument_faults, groups_listed}
use Rattle.denote.specs.declared.fault.Fault.{Fault}
use Rattle.denote.specs.Bag.{Permutes, IsSame, are_alike, distinct}
use Rattle.denote.specs.Evaluation.{Env, Evaluation, ◌>>=◌, joined, together, adding, given, faults_in}
use Rattle.denote.specs.Expression.{ExpressionMeaning}
use Rattle.denote.specs.Group.{keys_of, members, group_row, count_of_rows, set_function, beyond_count, aggregated, taken}
use Rattle.denote.specs.Outcome.{Outcome, before, each, through}
use Rattle.operator_laws.specs.Same.{IsSameValue, Each, AgreeOnGroups}
use Rattle.operator_laws.proofs.Same.{Each-maps, IsSameValue-refl}
use Rattle.operator_laws.proofs.Alike.{are_alike-equal}
use Rattle.operator_laws.proofs.Multiplicity.{alike}
use Rattle.operator_laws.proofs.Permuting.{Permutes-refl}
use Rattle.operator_laws.proofs.Rows.{grouped-agree, set_function-agree, count-agree}
use Rattle.algebra_laws.specs.Shown.{IsShown, Shows, ShowsAt, Lists}
use Rattle.algebra_laws.proofs.Evaluations.{faults_in-shown, then-shows, together-shows, Shows-refl, IsShown-refl, IsShown-append}
use Rattle.algebra_laws.proofs.Rows.{as_outcome, each-is, Lists-same, ended-lists, rows-list, whole-lists, ended-early}
use Rattle.algebra_laws.proofs.Sets.{reordered-lists}

-- ---- set functions

-- the same function over arguments of which one shows the other
abbrev pub ShowsFunction : MeantFunction → MeantFunction → Type 0
ShowsFunction Rows Rows = Unit {0}
ShowsFunction Rows (Argument g e b) = ⊥
ShowsFunction (Argument f d a) Rows = ⊥
ShowsFunction (Argument f d a) (Argument g e b) = (f ≡ g) × (d ≡ e) × ShowsAt a b

adding-shows : (faults : List Fault) (x y : Evaluation Value) → Shows x y → Shows (adding faults x) (adding faults y)
adding-shows [] x y h = h
adding-shows (fault ∷ faults) x y h = IsShown-append (fault ∷ faults) (fault ∷ faults) (faults_in x) (faults_in y) (IsShown-refl (fault ∷ faults)) (faults_in-shown x y h)

argument-shows : (function : SetFunctionType) (is_distinct : Bool) (f g : ExpressionMeaning) → ShowsAt f g → (env : Env) (rows : List Row)
    → Shows (set_function function is_distinct f env rows) (set_function function is_distinct g env rows)
argument-shows function is_distinct f g h env rows =
    adding-shows (beyond_count rows) (together (map (λ row. f (row ∷ env)) rows) >>= (λ xs. given (aggregated function (taken is_distinct xs))))
    (together (map (λ row. g (row ∷ env)) rows) >>= (λ xs. given (aggregated function (taken is_distinct xs))))
    (then-shows (together (map (λ row. f (row ∷ env)) rows)) (together (map (λ row. g (row ∷ env)) rows)) (λ xs. given (aggregated function (taken is_distinct xs)))
    (together-shows (map (λ row. f (row ∷ env)) rows) (map (λ row. g (row ∷ env)) rows)
    (Each-maps Shows (λ row. f (row ∷ env)) (λ row. g (row ∷ env)) rows (λ row. h (row ∷ env)))))

function-shows : (f g : MeantFunction) → ShowsFunction f g → (env : Env) (rows : List Row) → Shows (function_of f env rows) (function_of g env rows)
function-shows Rows Rows h env rows = Shows-refl (count_of_rows env rows)
function-shows Rows (Argument g e b) h env rows = absurd h
function-shows (Argument f d a) Rows h env rows = absurd h
function-shows (Argument f d a) (Argument g e b) h env rows =
    subst (λ (z : SetFunctionType). Shows (set_function f d a env rows) (set_function z e b env rows)) h.0
    (subst (λ (z : Bool). Shows (set_function f d a env rows) (set_function f z b env rows)) h.1 (argument-shows f d a b h.2 env rows))

group_row-shows : (columns : Option (List ℕ)) (fs gs : List MeantFunction) (env : Env) (rows : List Row) (key : Row) → Each ShowsFunction fs gs
    → Shows (group_row columns (map function_of fs) env rows key) (group_row columns (map function_of gs) env rows key)
group_row-shows columns fs gs env rows key h =
    then-shows (together (map (λ function. function env (members columns key rows)) (map function_of fs)))
    (together (map (λ function. function env (members columns key rows)) (map function_of gs))) (λ values. Ok ((key ++ values) ∷ []))
    (together-shows (map (λ function. function env (members columns key rows)) (map function_of fs)) (map (λ function. function env (members columns key rows)) (map function_of gs))
    (at fs gs h))
  where
    at : (fs gs : List MeantFunction) → Each ShowsFunction fs gs
        → Each Shows (map (λ function. function env (members columns key rows)) (map function_of fs)) (map (λ function. function env (members columns key rows)) (map function_of gs))
    at [] [] h = tt
    at [] (g ∷ gs) h = absurd h
    at (f ∷ fs) [] h = absurd h
    at (f ∷ fs) (g ∷ gs) h = (function-shows f g h.0 env (members columns key rows), at fs gs h.1)

-- ---- elements

none_in : {X : Type 0} (x : X) → Contains [] x → ⊥
none_in x c = omega (arith, c.1)

begins_with : {X : Type 0} (x : X) (xs : List X) → Contains (x ∷ xs) x
begins_with x xs = (0, omega arith, refl)

only_one : {X : Type 0} (y x : X) → Contains (y ∷ []) x → y ≡ x
only_one y x c = at c.0 c.1 c.2
  where
    at : (k : ℕ) → k < 1 → slice_index_or (y ∷ []) k x ≡ x → y ≡ x
    at zero below is = is
    at (suc k) below is = absurd (omega arith)

first_or_later : {X : Type 0} (y : X) (ys : List X) (x : X) → Contains (y ∷ ys) x → (y ≡ x) ⊎ Contains ys x
first_or_later y ys x c = elim (Contains-append_cases (y ∷ []) ys x c) [ inl h ↦ inl (only_one y x h) | inr h ↦ inr h ]

later : {X : Type 0} (y : X) (ys : List X) (x : X) → Contains ys x → Contains (y ∷ ys) x
later y ys x c = Contains-append_right (y ∷ []) ys x c

mapped-contains : {X Y : Type 0} (f : X → Y) (xs : List X) (x : X) → Contains xs x → Contains (map f xs) (f x)
mapped-contains f [] x c = absurd (none_in x c)
mapped-contains f (y ∷ ys) x c = at (first_or_later y ys x c) (mapped-contains f ys x)
  where
    at : (y ≡ x) ⊎ Contains ys x → (Contains ys x → Contains (map f ys) (f x)) → Contains (f y ∷ map f ys) (f x)
    at (inl e) go = subst (λ z. Contains (f y ∷ map f ys) (f z)) e (begins_with (f y) (map f ys))
    at (inr h) go = later (f y) (map f ys) (f x) (go h)

filtered-contains : {X : Type 0} (p : X → Bool) (xs : List X) (x : X) → p x ≡ true → Contains xs x → Contains (filter p xs) x
filtered-contains p [] x e c = absurd (none_in x c)
filtered-contains p (y ∷ ys) x e c = at (p y) refl (first_or_later y ys x c) (filtered-contains p ys x e)
  where
    at : (b : Bool) → p y ≡ b → (y ≡ x) ⊎ Contains ys x → (Contains ys x → Contains (filter p ys) x) → Contains (if b then y ∷ filter p ys else filter p ys) x
    at true f (inl i) go = subst (λ z. Contains (y ∷ filter p ys) z) i (begins_with y (filter p ys))
    at true f (inr h) go = later y (filter p ys) x (go h)
    at false f (inl i) go = absurd (let g : p y ≡ true = ap p i ∙ e in cc)
    at false f (inr h) go = go h

distinct-contains : (rows : List Row) (row : Row) → Contains rows row → Contains (distinct rows) row
distinct-contains [] row c = absurd (none_in row c)
distinct-contains (other ∷ rows) row c = at (first_or_later other rows row c) (distinct-contains rows row) (are_alike other row) refl
  where
    at : (other ≡ row) ⊎ Contains rows row → (Contains rows row → Contains (distinct rows) row) → (b : Bool) → are_alike other row ≡ b → Contains (distinct (other ∷ rows)) row
    at (inl e) go b f = subst (λ z. Contains (distinct (other ∷ rows)) z) e (begins_with other (filter (λ y. not (are_alike other y)) (distinct rows)))
    at (inr h) go true f = subst (λ z. Contains (distinct (other ∷ rows)) z) (are_alike-equal other row f) (begins_with other (filter (λ y. not (are_alike other y)) (distinct rows)))
    at (inr h) go false f = later other (filter (λ y. not (are_alike other y)) (distinct rows)) row (filtered-contains (λ y. not (are_alike other y)) (distinct rows) row (ap not f) (go h))

-- ---- the faults of arguments are faults of the groups

next-contains : {A B : Type 0} (x : Evaluation A) (next : A → Evaluation B) (fault : Fault) → Contains (faults_in x) fault → Contains (faults_in (x >>= next)) fault
next-contains (Ok x) next fault c = absurd (none_in fault c)
next-contains (Err faults) next fault c = c

adding-contains : (faults : List Fault) (x : Evaluation Value) (fault : Fault) → Contains (faults_in x) fault → Contains (faults_in (adding faults x)) fault
adding-contains [] x fault c = c
adding-contains (f ∷ faults) x fault c = Contains-append_right (f ∷ faults) (faults_in x) fault c

joined-first : {A : Type 0} (x : Evaluation A) (xs : Evaluation (List A)) (fault : Fault) → Contains (faults_in x) fault → Contains (faults_in (joined x xs)) fault
joined-first (Ok x) xs fault c = absurd (none_in fault c)
joined-first (Err faults) xs fault c = Contains-append_left faults (faults_in xs) fault c

joined-others : {A : Type 0} (x : Evaluation A) (xs : Evaluation (List A)) (fault : Fault) → Contains (faults_in xs) fault → Contains (faults_in (joined x xs)) fault
joined-others (Ok x) (Ok xs) fault c = absurd (none_in fault c)
joined-others (Ok x) (Err faults) fault c = c
joined-others (Err faults) xs fault c = Contains-append_right faults (faults_in xs) fault c

together-contains : {X A : Type 0} (at : X → Evaluation A) (xs : List X) (x : X) (fault : Fault) → Contains xs x → Contains (faults_in (at x)) fault → Contains (faults_in (together (map at xs))) fault
together-contains at [] x fault c h = absurd (none_in x c)
together-contains at (y ∷ ys) x fault c h = go (first_or_later y ys x c) (λ k. together-contains at ys x fault k h)
  where
    go : (y ≡ x) ⊎ Contains ys x → (Contains ys x → Contains (faults_in (together (map at ys))) fault) → Contains (faults_in (joined (at y) (together (map at ys)))) fault
    go (inl e) further = joined-first (at y) (together (map at ys)) fault (subst (λ z. Contains (faults_in (at z)) fault) (sym e) h)
    go (inr k) further = joined-others (at y) (together (map at ys)) fault (further k)

each-contains : (at : Row → Evaluation (List Row)) (rows : List Row) (row : Row) (fault : Fault) → Contains rows row → Contains (faults_in (at row)) fault → Contains (each at rows).faults fault
each-contains at [] row fault c h = absurd (none_in row c)
each-contains at (other ∷ rows) row fault c h = go (first_or_later other rows row c) (λ k. each-contains at rows row fault k h)
  where
    first : (x : Evaluation (List Row)) (o : Outcome) → Contains (faults_in x) fault → Contains (before x o).faults fault
    first (Ok x) o k = absurd (none_in fault k)
    first (Err faults) o k = Contains-append_left faults o.faults fault k

    others : (x : Evaluation (List Row)) (o : Outcome) → Contains o.faults fault → Contains (before x o).faults fault
    others (Ok x) o k = k
    others (Err faults) o k = Contains-append_right faults o.faults fault k

    go : (other ≡ row) ⊎ Contains rows row → (Contains rows row → Contains (each at rows).faults fault) → Contains (before (at other) (each at rows)).faults fault
    go (inl e) further = first (at other) (each at rows) (subst (λ z. Contains (faults_in (at z)) fault) (sym e) h)
    go (inr k) further = others (at other) (each at rows) (further k)

-- a fault of the argument at one row of a group is one of the set function
function-contains : (f g : MeantFunction) → ShowsFunction f g → (env : Env) (rows : List Row) (row : Row) (fault : Fault) → Contains rows row
    → Contains (argument_faults f (row ∷ env)) fault → Contains (faults_in (function_of g env rows)) fault
function-contains Rows g h env rows row fault there c = absurd (none_in fault c)
function-contains (Argument f d a) Rows h env rows row fault there c = absurd h
function-contains (Argument f d a) (Argument g e b) h env rows row fault there c =
    adding-contains (beyond_count rows) (together (map (λ r. b (r ∷ env)) rows) >>= (λ xs. given (aggregated g (taken e xs)))) fault
    (next-contains (together (map (λ r. b (r ∷ env)) rows)) (λ xs. given (aggregated g (taken e xs))) fault
    (together-contains (λ r. b (r ∷ env)) rows row fault there ((faults_in-shown (a (row ∷ env)) (b (row ∷ env)) (h.2 (row ∷ env))).within fault c)))

functions-contain : (fs gs : List MeantFunction) → Each ShowsFunction fs gs → (env : Env) (rows : List Row) (row : Row) (fault : Fault) → Contains rows row
    → Contains (flat_map (λ f. argument_faults f (row ∷ env)) fs) fault → Contains (faults_in (together (map (λ function. function env rows) (map function_of gs)))) fault
functions-contain [] gs h env rows row fault there c = absurd (none_in fault c)
functions-contain (f ∷ fs) [] h env rows row fault there c = absurd h
functions-contain (f ∷ fs) (g ∷ gs) h env rows row fault there c =
    go (Contains-append_cases (argument_faults f (row ∷ env)) (flat_map (λ f. argument_faults f (row ∷ env)) fs) fault c) (functions-contain fs gs h.1 env rows row fault there)
  where
    go : Contains (argument_faults f (row ∷ env)) fault ⊎ Contains (flat_map (λ f. argument_faults f (row ∷ env)) fs) fault
        → (Contains (flat_map (λ f. argument_faults f (row ∷ env)) fs) fault → Contains (faults_in (together (map (λ function. function env rows) (map function_of gs)))) fault)
        → Contains (faults_in (joined (function_of g env rows) (together (map (λ function. function env rows) (map function_of gs))))) fault
    go (inl k) further = joined-first (function_of g env rows) (together (map (λ function. function env rows) (map function_of gs))) fault (function-contains f g h.0 env rows row fault there k)
    go (inr k) further = joined-others (function_of g env rows) (together (map (λ function. function env rows) (map function_of gs))) fault (further k)

abbrev groups_made : Option (List ℕ) → List MeantFunction → Env → List Row → Outcome
groups_made columns gs env rows = each (group_row columns (map function_of gs) env rows) (keys_of columns rows)

-- the group of a row
row-contains : (columns : Option (List ℕ)) (fs gs : List MeantFunction) → Each ShowsFunction fs gs → (env : Env) (rows : List Row) (row : Row) (fault : Fault) → Contains rows row
    → Contains (flat_map (λ f. argument_faults f (row ∷ env)) fs) fault → Contains (groups_made columns gs env rows).faults fault
row-contains None fs gs h env rows row fault there c =
    each-contains (group_row None (map function_of gs) env rows) ([] ∷ []) [] fault (begins_with [] [])
    (next-contains (together (map (λ function. function env rows) (map function_of gs))) (λ values. Ok (([] ++ values) ∷ [])) fault (functions-contain fs gs h env rows row fault there c))
row-contains (Some columns) fs gs h env rows row fault there c =
    each-contains (group_row (Some columns) (map function_of gs) env rows) (distinct (map (key_of columns) rows)) (key_of columns row) fault
    (distinct-contains (map (key_of columns) rows) (key_of columns row) (mapped-contains (key_of columns) rows row there))
    (next-contains (together (map (λ function. function env (members (Some columns) (key_of columns row) rows)) (map function_of gs))) (λ values. Ok ((key_of columns row ++ values) ∷ [])) fault
    (functions-contain fs gs h env (members (Some columns) (key_of columns row) rows) row fault
    (filtered-contains (λ other. are_alike (key_of columns row) (key_of columns other)) rows row (alike.refl (key_of columns row)) there) c))

groups-contain : (columns : Option (List ℕ)) (fs gs : List MeantFunction) → Each ShowsFunction fs gs → (env : Env) (rows some : List Row) → ((row : Row) → Contains some row → Contains rows row)
    → (fault : Fault) → Contains (all_argument_faults fs env some) fault → Contains (groups_made columns gs env rows).faults fault
groups-contain columns fs gs h env rows [] within fault c = absurd (none_in fault c)
groups-contain columns fs gs h env rows (row ∷ some) within fault c =
    go (Contains-append_cases (flat_map (λ f. argument_faults f (row ∷ env)) fs) (all_argument_faults fs env some) fault c)
    (groups-contain columns fs gs h env rows some (λ r k. within r (later row some r k)) fault)
  where
    go : Contains (flat_map (λ f. argument_faults f (row ∷ env)) fs) fault ⊎ Contains (all_argument_faults fs env some) fault
        → (Contains (all_argument_faults fs env some) fault → Contains (groups_made columns gs env rows).faults fault) → Contains (groups_made columns gs env rows).faults fault
    go (inl k) further = row-contains columns fs gs h env rows row fault (within row (begins_with row some)) k
    go (inr k) further = further k

-- ---- groups

orderless : (f : MeantFunction) → AgreeOnGroups (function_of f) (function_of f)
orderless Rows = count-agree
orderless (Argument function is_distinct argument) = set_function-agree function is_distinct argument argument (λ env. IsSameValue-refl (argument env))

all-orderless : (fs : List MeantFunction) → Each AgreeOnGroups (map function_of fs) (map function_of fs)
all-orderless [] = tt
all-orderless (f ∷ fs) = (orderless f, all-orderless fs)

-- the groups of rows that are whole
listed-groups : (columns : Option (List ℕ)) (fs gs : List MeantFunction) (env : Env) (rows : List Row) → Each ShowsFunction fs gs → Lists (groups_listed columns fs env rows) (groups_made columns gs env rows)
listed-groups columns fs gs env rows h = at (all_argument_faults fs env rows) refl
  where
    one_by_one : Lists (row_by_row (group_row columns (map function_of fs) env rows) (keys_of columns rows)) (groups_made columns gs env rows)
    one_by_one = subst (λ (z : Outcome). Lists (row_by_row (group_row columns (map function_of fs) env rows) (keys_of columns rows)) z)
        (sym (each-is (group_row columns (map function_of gs) env rows) (keys_of columns rows)))
        (rows-list (λ key. ended (group_row columns (map function_of fs) env rows key)) (λ key. as_outcome (group_row columns (map function_of gs) env rows key)) (keys_of columns rows)
        (λ key. ended-lists (group_row columns (map function_of fs) env rows key) (group_row columns (map function_of gs) env rows key) (group_row-shows columns fs gs env rows key h)))

    whole : Lists (whole_first (row_by_row (group_row columns (map function_of fs) env rows) (keys_of columns rows)) listed_rows) (groups_made columns gs env rows)
    whole = reordered-lists (λ rows. rows) Permutes-refl (row_by_row (group_row columns (map function_of fs) env rows) (keys_of columns rows)) (groups_made columns gs env rows) one_by_one

    at : (faults : List Fault) → all_argument_faults fs env rows ≡ faults → Lists (groups_listed columns fs env rows) (groups_made columns gs env rows)
    at [] e = rw e whole
    at (fault ∷ faults) e = ended-early (all_argument_faults fs env rows) fault faults (groups_made columns gs env rows) e (groups-contain columns fs gs h env rows rows (λ row c. c))
        (whole_first (row_by_row (group_row columns (map function_of fs) env rows) (keys_of columns rows)) listed_rows)

pub group-lists : (columns : Option (List ℕ)) (fs gs : List MeantFunction) (env : Env) (l o : Outcome) → Each ShowsFunction fs gs → Lists l o
    → Lists (whole_first l (groups_listed columns fs env)) (through o (groups_made columns gs env))
unfolding through
group-lists columns fs gs env l o s h =
    whole-lists l o (through o (groups_made columns gs env)) (groups_listed columns fs env) h
    (λ f c. Contains-append_left o.faults (groups_made columns gs env o.rows).faults f c)
    (λ none p. Lists-same (groups_listed columns fs env l.rows) (groups_made columns gs env l.rows) (through o (groups_made columns gs env)) (order none p) (listed-groups columns fs gs env l.rows s))
  where
    order : o.faults ≡ [] → Permutes o.rows l.rows → IsSame (through o (groups_made columns gs env)) (groups_made columns gs env l.rows)
    order none p =
        let same = grouped-agree columns (map function_of gs) (map function_of gs) None None (all-orderless gs) tt env o (listed_rows l.rows) (record { rows = p; faults = rw none (λ f. (λ c. c, λ c. c)) }) in
        record { rows = same.rows; faults = same.faults }
