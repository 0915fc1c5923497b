-- What a subquery's rows come to.
use Rattle.std.proofs.Common.{◌≡◌, refl, ap, sym, subst, ◌∙◌, true, false, List, [], ◌∷◌, map, Ok, Err, Some, None, ◌<◌, length, arith}
use Rattle.std.specs.Prelude.{slice_get}
use Rattle.sqlval.specs.declared.value.Value.{Value}
use Rattle.sqlval.specs.declared.value.Value.TheVariants.{Null}
use Rattle.sqlval.specs.declared.truth.Truth.{Truth}
use Rattle.sqlval.specs.Truth.{truth_not}
use Rattle.sqlval.specs.declared.truth.Truth.TheVariants as truth
use Rattle.sqlval.specs.Value.{Row}
use Rattle.denote.specs.declared.fault.Fault.{Fault as Raised}
use Rattle.denote.specs.declared.fault.Fault.TheVariants as raised
use Rattle.denote.specs.declared.fault.Stop.TheVariants.{Fault}
use Rattle.denote.specs.Condition.{exists, among, first_column}
use Rattle.denote.specs.Evaluation.{Evaluation, ◌>>=◌}
use Rattle.denote.specs.Expression.{ExpressionMeaning, scalar, cell}
use Rattle.algebra.specs.Joined.{is_member, negated_if}
use Rattle.denote.specs.Outcome.{Outcome, whole}
use Rattle.executor.specs.Halves.{among_after}
use Rattle.executor.specs.Reply.{Gives as IsGiven, among_rows}

abbrev pub faulted : List Row → Raised → Outcome
faulted rows fault = record { rows = rows; faults = fault ∷ [] }

abbrev pub complete : List Row → Outcome
complete rows = record { rows = rows; faults = [] }

pub scalar-fault : (rows : List Row) (fault : Raised) → IsGiven (Err (Fault fault)) (scalar (faulted rows fault))
unfolding scalar
scalar-fault rows fault = record { ok = tt; err = refl }

pub exists-fault : (rows : List Row) (fault : Raised) → IsGiven (Err (Fault fault)) (exists (faulted rows fault))
unfolding whole
exists-fault rows fault = record { ok = tt; err = refl }

pub among-fault : (x : Value) (rows : List Row) (fault : Raised) → IsGiven (Err (Fault fault)) (among_rows x (faulted rows fault))
unfolding whole
among-fault x rows fault = record { ok = tt; err = refl }

pub among-complete : (x : Value) (rows : List Row) → among_rows x (complete rows) ≡ Ok (among x (first_column rows))
unfolding whole
among-complete x rows = refl

pub exists-some : (rows : List Row) → 0 < length rows → exists (complete rows) ≡ Ok truth.True
unfolding whole
exists-some [] h = absurd (omega (arith, h))
exists-some (row ∷ rows) h = refl

pub exists-none : (rows : List Row) → (0 < length rows → ⊥) → exists (complete rows) ≡ Ok truth.False
unfolding whole
exists-none [] h = refl
exists-none (row ∷ rows) h = absurd (h (omega arith))

pub scalar-many : (rows : List Row) → 1 < length rows → IsGiven (Err (Fault raised.ManyRows)) (scalar (complete rows))
unfolding scalar
scalar-many [] h = absurd (omega (arith, h))
scalar-many (row ∷ []) h = absurd (omega (arith, h))
scalar-many (row ∷ other ∷ rows) h = record { ok = tt; err = refl }

pub scalar-one : (rows : List Row) (row : Row) → (1 < length rows → ⊥) → slice_get rows 0 ≡ Some row → scalar (complete rows) ≡ Ok (cell row 0)
unfolding scalar
scalar-one [] row h e = absurd (cc)
scalar-one (first ∷ []) row h e = cc
scalar-one (first ∷ other ∷ rows) row h e = absurd (h (omega arith))

pub scalar-none : (rows : List Row) → slice_get rows 0 ≡ None → scalar (complete rows) ≡ Ok Null
unfolding scalar
scalar-none [] e = refl
scalar-none (first ∷ rows) e = absurd (cc)

pub ruleset subquery_lemmas = (scalar-fault, scalar-none, scalar-one, scalar-many, exists-fault, exists-none, exists-some, among-fault, among-complete)

-- ---- IN a list that is written out

pub first-column-of : (values : List Value) → first_column (map (λ value. value ∷ []) values) ≡ values
first-column-of [] = refl
first-column-of (value ∷ values) = ap (λ rest. value ∷ rest) (first-column-of values)

pub in-list-is : (operand : ExpressionMeaning) (values : List Value)
    → is_member operand false (complete (map (λ value. value ∷ []) values)) ≡ (λ env. operand env >>= (λ x. Ok (among x values)))
unfolding whole
in-list-is operand values = λ i env. at (operand env) i
  where
    at : (e : Evaluation Value)
        → ((e >>= (λ x. Ok (among x (first_column (map (λ value. value ∷ []) values))))) >>= (λ t. Ok (negated_if false t))) ≡ (e >>= (λ x. Ok (among x values)))
    at (Ok x) = ap (λ vs. Ok (among x vs)) (first-column-of values)
    at (Err faults) = refl

pub not-in-list-is : (operand : ExpressionMeaning) (values : List Value)
    → is_member operand true (complete (map (λ value. value ∷ []) values)) ≡ (λ env. (operand env >>= (λ x. Ok (among x values))) >>= (λ t. Ok (truth_not t)))
unfolding whole
not-in-list-is operand values = λ i env. at (operand env) i
  where
    at : (e : Evaluation Value)
        → ((e >>= (λ x. Ok (among x (first_column (map (λ value. value ∷ []) values))))) >>= (λ t. Ok (negated_if true t)))
        ≡ ((e >>= (λ x. Ok (among x values))) >>= (λ t. Ok (truth_not t)))
    at (Ok x) = ap (λ vs. Ok (truth_not (among x vs))) (first-column-of values)
    at (Err faults) = refl

-- ---- members of a list that stands ready

pub members-fault : (meant : Evaluation Value) (listed : Outcome) (x : Value) (fault : Raised) → meant ≡ Ok x → fault ∷ [] ≡ listed.faults
    → IsGiven (Err (Fault fault)) (among_after meant listed)
members-fault meant listed x fault is end =
    rw is (subst (λ (faults : List Raised). IsGiven (Err (Fault fault)) (among_rows x (record { rows = listed.rows; faults = faults }))) end (among-fault x listed.rows fault))

pub members-found : (meant : Evaluation Value) (listed : Outcome) (x : Value) (t : Truth) → meant ≡ Ok x → [] ≡ listed.faults
    → t ≡ among x (first_column listed.rows) → IsGiven (Ok t) (among_after meant listed)
members-found meant listed x t is end told =
    rw is (subst (λ (faults : List Raised). IsGiven (Ok t) (among_rows x (record { rows = listed.rows; faults = faults }))) end
    (record { ok = among-complete x listed.rows ∙ ap Ok (sym told); err = tt }))
