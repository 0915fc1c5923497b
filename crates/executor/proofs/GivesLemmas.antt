-- Replies of the evaluator, put together.
use Rattle.std.proofs.Common.{arith, ◌≡◌, ◌≢◌, ◌+◌, add-one, append_assoc, refl, ℕ, suc, ◌<◌, List, [], ◌∷◌, ◌++◌, map, length, get_or, drop, drop-cons, Ok, Err, ap, sym, ◌∙◌, append-nil, subst, Option, Some, None}
use Rattle.std.specs.Prelude.{flat_map}
use Rattle.sqlval.specs.declared.value.Value.{Value}
use Rattle.sqlval.specs.declared.truth.Truth.{Truth}
use Rattle.sqlval.specs.declared.truth.Truth.TheVariants.{False, Unknown, True}
use Rattle.sqlval.specs.Truth.{truth_and, truth_or}
use Rattle.typing.specs.declared.typed.Arithmetic.{Arithmetic}
use Rattle.denote.specs.declared.fault.Fault.{Fault as Raised}
use Rattle.denote.specs.declared.fault.Stop.{Stop}
use Rattle.denote.specs.declared.fault.Stop.TheVariants.{Memory, Fault}
use Rattle.sqlval.specs.Concatenation.{concatenation as concatenation_of}
use Rattle.denote.specs.Evaluation.{Env, Evaluation, ◌>>=◌, faults_in, given, joined, together}
use Rattle.denote.specs.Outcome.{Outcome}
use Rattle.denote.specs.Select.{values_of}
use Rattle.denote.specs.Expression.{ExpressionMeaning, chained, concatenation, calculated}
use Rattle.sqlval.specs.declared.comparison.CompOp.TheVariants as by
use Rattle.denote.specs.Condition.{ConditionMeaning, between, both, either, conjunction, disjunction}
use Rattle.algebra.specs.Listing.{first_only, ended, then_list, in_order, row_by_row}
use Rattle.executor.specs.Found.{both_after, compared_after}
use Rattle.executor.specs.Reply.{Gives as IsGiven, IsFirstOf, as_list}
use Rattle.sqlval.specs.Value.{Row}

first-append : (fs gs : List Raised) (fault : Raised) → first_only fs ≡ fault ∷ [] → first_only (fs ++ gs) ≡ fault ∷ []
first-append [] gs fault h = absurd (cc)
first-append (f ∷ fs) gs fault h = h

-- who stops at the first operand names a fault of the whole
pub Gives-first : {A B : Type 0} (s : Stop) (x : Evaluation A) (f : A → Evaluation B) → IsGiven (Err s) x → IsGiven (Err s) (x >>= f)
Gives-first {A = A} s x f h = record { ok = tt; err = at s x h.err }
  where
    at : (s : Stop) (x : Evaluation A) → IsFirstOf (faults_in x) s → IsFirstOf (faults_in (x >>= f)) s
    at Memory x g = tt
    at (Fault fault) (Ok v) g = absurd (cc)
    at (Fault fault) (Err faults) g = g

-- and at the second, where the first has a value
pub Gives-second : {A B C : Type 0} (s : Stop) (x : Evaluation A) (v : A) (y : Evaluation B) (f : A → B → Evaluation C) → x ≡ Ok v → IsGiven (Err s) y → IsGiven (Err s) (x >>= (λ a. y >>= f a))
Gives-second s x v y f e h = rw e (Gives-first s y (f v) h)

-- a chain of operators
pub Gives-chained : (s : Stop) (x : Evaluation Value) (others : List (Arithmetic × ExpressionMeaning)) (env : Env) → IsGiven (Err s) x → IsGiven (Err s) (chained x others env)
Gives-chained s x [] env h = h
Gives-chained s x ((op, operand) ∷ others) env h = Gives-chained s (x >>= (λ left. operand env >>= (λ right. calculated op left right))) others env (Gives-first s x (λ left. operand env >>= (λ right. calculated op left right)) h)

pub Gives-concatenation : (s : Stop) (x : Evaluation Value) (others : List ExpressionMeaning) (env : Env) → IsGiven (Err s) x → IsGiven (Err s) (concatenation x others env)
Gives-concatenation s x [] env h = h
Gives-concatenation s x (operand ∷ others) env h = Gives-concatenation s (x >>= (λ left. operand env >>= (λ right. given (concatenation_of left right)))) others env (Gives-first s x (λ left. operand env >>= (λ right. given (concatenation_of left right))) h)

-- the exits of the loops: the operand at i faults, or its operator does
pub Gives-chained_operand : {X : Type 0} (s : Stop) (f : X → Arithmetic × ExpressionMeaning) (env : Env) (v : Value) (items : List X) (i : ℕ) (item : X) → i < length items → item ≡ get_or items i item → IsGiven (Err s) ((f item).1 env) → IsGiven (Err s) (chained (Ok v) (map f (drop i items)) env)
Gives-chained_operand s f env v items i item below is h =
    let e : drop i items ≡ item ∷ drop (suc i) items = drop-cons items i item below ∙ ap (λ x. x ∷ drop (suc i) items) (sym is) in
    rw e (Gives-chained s ((f item).1 env >>= (λ right. calculated (f item).0 v right)) (map f (drop (suc i) items)) env (Gives-first s ((f item).1 env) (λ right. calculated (f item).0 v right) h))

pub Gives-chained_operator : {X : Type 0} (s : Stop) (f : X → Arithmetic × ExpressionMeaning) (env : Env) (v w : Value) (items : List X) (i : ℕ) (item : X) → i < length items → item ≡ get_or items i item → (f item).1 env ≡ Ok w → IsGiven (Err s) (calculated (f item).0 v w) → IsGiven (Err s) (chained (Ok v) (map f (drop i items)) env)
Gives-chained_operator s f env v w items i item below is value h =
    let e : drop i items ≡ item ∷ drop (suc i) items = drop-cons items i item below ∙ ap (λ x. x ∷ drop (suc i) items) (sym is) in
    rw e (Gives-chained s ((f item).1 env >>= (λ right. calculated (f item).0 v right)) (map f (drop (suc i) items)) env (rw value h))

pub Gives-concatenation_operand : {X : Type 0} (s : Stop) (f : X → ExpressionMeaning) (env : Env) (v : Value) (items : List X) (i : ℕ) (item : X) → i < length items → item ≡ get_or items i item → IsGiven (Err s) (f item env) → IsGiven (Err s) (concatenation (Ok v) (map f (drop i items)) env)
Gives-concatenation_operand s f env v items i item below is h =
    let e : drop i items ≡ item ∷ drop (suc i) items = drop-cons items i item below ∙ ap (λ x. x ∷ drop (suc i) items) (sym is) in
    rw e (Gives-concatenation s (f item env >>= (λ right. given (concatenation_of v right))) (map f (drop (suc i) items)) env (Gives-first s (f item env) (λ right. given (concatenation_of v right)) h))

pub Gives-concatenation_operator : {X : Type 0} (s : Stop) (f : X → ExpressionMeaning) (env : Env) (v w : Value) (items : List X) (i : ℕ) (item : X) → i < length items → item ≡ get_or items i item → f item env ≡ Ok w → IsGiven (Err s) (given (concatenation_of v w)) → IsGiven (Err s) (concatenation (Ok v) (map f (drop i items)) env)
Gives-concatenation_operator s f env v w items i item below is value h =
    let e : drop i items ≡ item ∷ drop (suc i) items = drop-cons items i item below ∙ ap (λ x. x ∷ drop (suc i) items) (sym is) in
    rw e (Gives-concatenation s (f item env >>= (λ right. given (concatenation_of v right))) (map f (drop (suc i) items)) env (rw value h))

-- AND and OR
pub Gives-both : (s : Stop) (t : Truth) (others : Evaluation Truth) → t ≢ False → IsGiven (Err s) others → IsGiven (Err s) (both t others)
Gives-both s False others live h = absurd (live refl)
Gives-both s Unknown others live h = Gives-first s others (λ y. Ok (truth_and Unknown y)) h
Gives-both s True others live h = h

pub Gives-either : (s : Stop) (t : Truth) (others : Evaluation Truth) → t ≢ True → IsGiven (Err s) others → IsGiven (Err s) (either t others)
Gives-either s True others live h = absurd (live refl)
Gives-either s Unknown others live h = Gives-first s others (λ y. Ok (truth_or Unknown y)) h
Gives-either s False others live h = h

pub Gives-conjunction_operand : {X : Type 0} (s : Stop) (f : X → ConditionMeaning) (env : Env) (least : Truth) (items : List X) (i : ℕ) (item : X) → i < length items → item ≡ get_or items i item → least ≢ False → IsGiven (Err s) (f item env) → IsGiven (Err s) (both least (conjunction (map f (drop i items)) env))
Gives-conjunction_operand s f env least items i item below is live h =
    let e : drop i items ≡ item ∷ drop (suc i) items = drop-cons items i item below ∙ ap (λ x. x ∷ drop (suc i) items) (sym is) in
    rw e (Gives-both s least (conjunction (f item ∷ map f (drop (suc i) items)) env) live (Gives-first s (f item env) (λ x. both x (conjunction (map f (drop (suc i) items)) env)) h))

pub Gives-disjunction_operand : {X : Type 0} (s : Stop) (f : X → ConditionMeaning) (env : Env) (greatest : Truth) (items : List X) (i : ℕ) (item : X) → i < length items → item ≡ get_or items i item → greatest ≢ True → IsGiven (Err s) (f item env) → IsGiven (Err s) (either greatest (disjunction (map f (drop i items)) env))
Gives-disjunction_operand s f env greatest items i item below is live h =
    let e : drop i items ≡ item ∷ drop (suc i) items = drop-cons items i item below ∙ ap (λ x. x ∷ drop (suc i) items) (sym is) in
    rw e (Gives-either s greatest (disjunction (f item ∷ map f (drop (suc i) items)) env) live (Gives-first s (f item env) (λ x. either x (disjunction (map f (drop (suc i) items)) env)) h))

-- ---- rows

-- values, and then what the rest gives
abbrev pub after : {A : Type 0} → List A → Evaluation (List A) → Evaluation (List A)
after found (Ok xs) = Ok (found ++ xs)
after found (Err faults) = Err faults

pub after-step : {A : Type 0} (found : List A) (x : A) (rest : Evaluation (List A)) → after found (joined (Ok x) rest) ≡ after (found ++ x ∷ []) rest
after-step found x (Ok xs) = ap Ok (sym (append_assoc found (x ∷ []) xs))
after-step found x (Err faults) = refl

-- one more value
pub values_of-next : {X : Type 0} (f : X → ExpressionMeaning) (env : Env) (found : Row) (items : List X) (i : ℕ) (item : X) (x : Value) → i < length items → item ≡ get_or items i item → f item env ≡ Ok x → after found (values_of (map f (drop i items)) env) ≡ after (found ++ x ∷ []) (values_of (map f (drop (i + 1) items)) env)
values_of-next f env found items i item x below is value =
    let e : drop i items ≡ item ∷ drop (suc i) items = drop-cons items i item below ∙ ap (λ x. x ∷ drop (suc i) items) (sym is) in
    rw (e, value, add-one) (after-step found x (values_of (map f (drop (suc i) items)) env))

pub Gives-joined_err : {A : Type 0} (s : Stop) (found : List A) (x : Evaluation A) (rest : Evaluation (List A)) → IsGiven (Err s) x → IsGiven (Err s) (after found (joined x rest))
Gives-joined_err {A = A} s found x rest h = record { ok = tt; err = at s x h.err }
  where
    at : (s : Stop) (x : Evaluation A) → IsFirstOf (faults_in x) s → IsFirstOf (faults_in (after found (joined x rest))) s
    at Memory x g = tt
    at (Fault fault) (Ok v) g = absurd (cc)
    at (Fault fault) (Err faults) g = first-append faults (faults_in rest) fault g

-- the exits of the loops: the row at i faults
pub Gives-values_of_item : {X : Type 0} (s : Stop) (f : X → ExpressionMeaning) (env : Env) (found : Row) (items : List X) (i : ℕ) (item : X) → i < length items → item ≡ get_or items i item → IsGiven (Err s) (f item env) → IsGiven (Err s) (after found (values_of (map f (drop i items)) env))
Gives-values_of_item s f env found items i item below is h =
    let e : drop i items ≡ item ∷ drop (suc i) items = drop-cons items i item below ∙ ap (λ x. x ∷ drop (suc i) items) (sym is) in
    rw e (Gives-joined_err s found (f item env) (values_of (map f (drop (suc i) items)) env) h)

-- ---- a loop over rows: what is listed so far, and then what is left

-- a list before another
abbrev pub listed_before : List Row → Outcome → Outcome
listed_before found rest = record { rows = found ++ rest.rows; faults = rest.faults }

pub row-found : (f : Row → Evaluation (List Row)) (end : Outcome) (found more : List Row) (rows : List Row) (i : ℕ) (row : Row) → i < length rows → row ≡ get_or rows i row
    → f row ≡ Ok more
    → listed_before found (then_list (row_by_row f (drop i rows)) end) ≡ listed_before (found ++ more) (then_list (row_by_row f (drop (i + 1) rows)) end)
row-found f end found more rows i row below is value =
    let e : drop i rows ≡ row ∷ drop (suc i) rows = drop-cons rows i row below ∙ ap (λ r. r ∷ drop (suc i) rows) (sym is) in
    rw (e, add-one, value) (at (row_by_row f (drop (suc i) rows)))
  where
    at : (rest : Outcome) → listed_before found (then_list (record { rows = more ++ rest.rows; faults = rest.faults }) end) ≡ listed_before (found ++ more) (then_list rest end)
    at rest = ap (λ zs. record { rows = zs; faults = (then_list rest end).faults }) (ap (λ zs. found ++ zs) (append_assoc more rest.rows _) ∙ sym (append_assoc found more (then_list rest end).rows))

pub row-faults : (f : Row → Evaluation (List Row)) (end : Outcome) (found : List Row) (rows : List Row) (i : ℕ) (row : Row) (fault : Raised) → i < length rows → row ≡ get_or rows i row
    → first_only (faults_in (f row)) ≡ fault ∷ []
    → listed_before found (then_list (row_by_row f (drop i rows)) end) ≡ record { rows = found; faults = fault ∷ [] }
row-faults f end found rows i row fault below is h =
    let e : drop i rows ≡ row ∷ drop (suc i) rows = drop-cons rows i row below ∙ ap (λ r. r ∷ drop (suc i) rows) (sym is) in
    rw e (at (f row) h)
  where
    at : (x : Evaluation (List Row)) → first_only (faults_in x) ≡ fault ∷ []
        → listed_before found (then_list (then_list (ended x) (row_by_row f (drop (suc i) rows))) end) ≡ record { rows = found; faults = fault ∷ [] }
    at (Ok more) g = absurd (cc)
    at (Err (first ∷ faults)) g = let e : first_only (first ∷ faults) ≡ fault ∷ [] = g in rw e (ap (λ zs. record { rows = zs; faults = fault ∷ [] }) (append-nil found))
    at (Err []) g = absurd (cc)

-- ---- one step of a loop

pub chained-next : {X : Type 0} (f : X → Arithmetic × ExpressionMeaning) (env : Env) (v w right : Value) (items : List X) (i : ℕ) (item : X) → i < length items → item ≡ get_or items i item
    → (f item).1 env ≡ Ok right → calculated (f item).0 v right ≡ Ok w → chained (Ok v) (map f (drop i items)) env ≡ chained (Ok w) (map f (drop (i + 1) items)) env
chained-next f env v w right items i item below is operand value =
    let e : drop i items ≡ item ∷ drop (suc i) items = drop-cons items i item below ∙ ap (λ x. x ∷ drop (suc i) items) (sym is) in
    let step : ((f item).1 env >>= (λ right. calculated (f item).0 v right)) ≡ Ok w = rw operand value in
    rw (e, add-one) (ap (λ x. chained x (map f (drop (suc i) items)) env) step)

both-next : (least t : Truth) (rest : Evaluation Truth) → both least (both t rest) ≡ both (truth_and least t) rest
both-next False t rest = refl
both-next True t rest = refl
both-next Unknown False rest = refl
both-next Unknown True rest = refl
both-next Unknown Unknown (Err faults) = refl
both-next Unknown Unknown (Ok False) = refl
both-next Unknown Unknown (Ok Unknown) = refl
both-next Unknown Unknown (Ok True) = refl

pub conjunction-next : {X : Type 0} (f : X → ConditionMeaning) (env : Env) (least t : Truth) (items : List X) (i : ℕ) (item : X) → i < length items → item ≡ get_or items i item
    → f item env ≡ Ok t → both least (conjunction (map f (drop i items)) env) ≡ both (truth_and least t) (conjunction (map f (drop (i + 1) items)) env)
conjunction-next f env least t items i item below is value =
    let e : drop i items ≡ item ∷ drop (suc i) items = drop-cons items i item below ∙ ap (λ x. x ∷ drop (suc i) items) (sym is) in
    rw (e, add-one, value) (both-next least t (conjunction (map f (drop (suc i) items)) env))

-- the row at i faults, by a step whose first part does
pub row-ends : {A : Type 0} (f : Row → Evaluation (List Row)) (end : Outcome) (found : List Row) (rows : List Row) (i : ℕ) (row : Row) (s : Stop) (x : Evaluation A) (next : A → Evaluation (List Row))
    → i < length rows → row ≡ get_or rows i row → f row ≡ (x >>= next) → IsGiven (Err s) x → (whole : Outcome)
    → listed_before found (then_list (row_by_row f (drop i rows)) end) ≡ whole
    → (fault : Raised) → s ≡ Fault fault → record { rows = found; faults = fault ∷ [] } ≡ whole
row-ends f end found rows i row s x next below is first given whole sum fault e =
    sym (row-faults f end found rows i row fault below is (rw first (subst (λ (k : Stop). IsFirstOf (faults_in (x >>= next)) k) e (Gives-first s x next given).err))) ∙ sum

-- lists without faults, one after another
pub plain-in_order : (k : Row → List Row) (rows : List Row) → in_order (λ row. record { rows = k row; faults = [] }) rows ≡ record { rows = flat_map k rows; faults = [] }
plain-in_order k [] = refl
plain-in_order k (row ∷ rows) = ap (λ o. then_list (record { rows = k row; faults = [] }) o) (plain-in_order k rows)

-- the end of a part that was listed
pub end-is : (end : Option Raised) → first_only (as_list end) ≡ as_list end
end-is None = refl
end-is (Some fault) = refl

pub concatenation-next : {X : Type 0} (f : X → ExpressionMeaning) (env : Env) (v w right : Value) (items : List X) (i : ℕ) (item : X) → i < length items → item ≡ get_or items i item
    → f item env ≡ Ok right → given (concatenation_of v right) ≡ Ok w → concatenation (Ok v) (map f (drop i items)) env ≡ concatenation (Ok w) (map f (drop (i + 1) items)) env
concatenation-next f env v w right items i item below is operand value =
    let e : drop i items ≡ item ∷ drop (suc i) items = drop-cons items i item below ∙ ap (λ x. x ∷ drop (suc i) items) (sym is) in
    let step : (f item env >>= (λ right. given (concatenation_of v right))) ≡ Ok w = rw operand value in
    rw (e, add-one) (ap (λ x. concatenation x (map f (drop (suc i) items)) env) step)

either-next : (greatest t : Truth) (rest : Evaluation Truth) → either greatest (either t rest) ≡ either (truth_or greatest t) rest
either-next True t rest = refl
either-next False t rest = refl
either-next Unknown False (Err faults) = refl
either-next Unknown False (Ok t) = refl
either-next Unknown True rest = refl
either-next Unknown Unknown (Err faults) = refl
either-next Unknown Unknown (Ok False) = refl
either-next Unknown Unknown (Ok Unknown) = refl
either-next Unknown Unknown (Ok True) = refl

pub disjunction-next : {X : Type 0} (f : X → ConditionMeaning) (env : Env) (greatest t : Truth) (items : List X) (i : ℕ) (item : X) → i < length items → item ≡ get_or items i item
    → f item env ≡ Ok t → either greatest (disjunction (map f (drop i items)) env) ≡ either (truth_or greatest t) (disjunction (map f (drop (i + 1) items)) env)
disjunction-next f env greatest t items i item below is value =
    let e : drop i items ≡ item ∷ drop (suc i) items = drop-cons items i item below ∙ ap (λ x. x ∷ drop (suc i) items) (sym is) in
    rw (e, add-one, value) (either-next greatest t (disjunction (map f (drop (suc i) items)) env))

-- ---- the exits and the steps of a loop whose values are taken together

pub together-next : {X A : Type 0} (f : X → Evaluation A) (found : List A) (items : List X) (i : ℕ) (item : X) (x : A) → i < length items → item ≡ get_or items i item → f item ≡ Ok x
    → after found (together (map f (drop i items))) ≡ after (found ++ x ∷ []) (together (map f (drop (i + 1) items)))
together-next f found items i item x below is value =
    let e : drop i items ≡ item ∷ drop (suc i) items = drop-cons items i item below ∙ ap (λ x. x ∷ drop (suc i) items) (sym is) in
    rw (e, value, add-one) (after-step found x (together (map f (drop (suc i) items))))

pub Gives-together_item : {X A : Type 0} (s : Stop) (f : X → Evaluation A) (found : List A) (items : List X) (i : ℕ) (item : X) → i < length items → item ≡ get_or items i item → IsGiven (Err s) (f item)
    → IsGiven (Err s) (after found (together (map f (drop i items))))
Gives-together_item s f found items i item below is h =
    let e : drop i items ≡ item ∷ drop (suc i) items = drop-cons items i item below ∙ ap (λ x. x ∷ drop (suc i) items) (sym is) in
    rw e (Gives-joined_err s found (f item) (together (map f (drop (suc i) items))) h)

-- ---- the same of rows that are moved out of a list

pub row-moved : (f : Row → Evaluation (List Row)) (end : Outcome) (found more : List Row) (row : Row) (rest : List Row) → f row ≡ Ok more
    → listed_before found (then_list (row_by_row f (row ∷ rest)) end) ≡ listed_before (found ++ more) (then_list (row_by_row f rest) end)
row-moved f end found more row rest value = row-found f end found more (row ∷ rest) 0 row (omega arith) refl value

pub row-moved-ends : {A : Type 0} (f : Row → Evaluation (List Row)) (end : Outcome) (found : List Row) (row : Row) (rest : List Row) (s : Stop) (x : Evaluation A) (next : A → Evaluation (List Row))
    → f row ≡ (x >>= next) → IsGiven (Err s) x → (whole : Outcome) → listed_before found (then_list (row_by_row f (row ∷ rest)) end) ≡ whole
    → (fault : Raised) → s ≡ Fault fault → record { rows = found; faults = fault ∷ [] } ≡ whole
row-moved-ends f end found row rest s x next first given whole sum = row-ends f end found (row ∷ rest) 0 row s x next (omega arith) refl first given whole sum

-- ---- BETWEEN as an AND of two

both-alone : (x : Evaluation Truth) → (x >>= (λ u. both u (Ok True))) ≡ x
both-alone (Ok False) = refl
both-alone (Ok Unknown) = refl
both-alone (Ok True) = refl
both-alone (Err faults) = refl

pub between-is : (x low high : ExpressionMeaning) (env : Env)
    → between x low high env ≡ both_after (compared_after by.GreaterOrEqual (x env) (low env)) (compared_after by.LessOrEqual (x env) (high env))
between-is x low high env = ap (λ rest. compared_after by.GreaterOrEqual (x env) (low env) >>= (λ t. both t rest)) (both-alone (compared_after by.LessOrEqual (x env) (high env)))
