-- Joins, groups, DISTINCT and set operators: their listings stand to their outcomes.
use Rattle.std.proofs.Common.{◌≡◌, refl, ap, sym, ◌∙◌, subst, ℕ, Bool, true, false, if◌then◌else◌, not, List, [], ◌∷◌, ◌++◌, map, filter, append_assoc, append-nil, Option, None, Some, Ok, Err}
use Rattle.std.specs.Prelude.{Contains, flat_map}
use Rattle.std.specs.List.{list_all}
use Rattle.std.proofs.lemmas.List.Elements.{Contains-append_left, Contains-append_right}
use Rattle.sqlval.specs.Value.{Row}
use Rattle.sqlval.specs.declared.truth.Truth.{Truth}
use Rattle.typing.specs.declared.typed.SetOperation.{SetOperation}
use Rattle.denote.specs.declared.fault.Fault.{Fault}
use Rattle.denote.specs.Evaluation.{Env, Evaluation}
use Rattle.denote.specs.Condition.{ConditionMeaning}
use Rattle.denote.specs.Outcome.{Outcome, each, through}
use Rattle.denote.specs.From.{kept_row, kept, beside, product, inner_join, is_true_or_faults, is_unmatched, padded, left_join}
use Rattle.denote.specs.Group.{SetFunctionMeaning, keys_of, group_row}
use Rattle.denote.specs.SetOperator.{combined, set_operation}
use Rattle.denote.specs.Select.{only}
use Rattle.denote.specs.Bag.{Permutes, goes_on, IsSame, HasSame, are_alike, distinct, distinct_by}
use Rattle.operator_laws.specs.Same.{IsSameValue, Each, AgreeOnGroups}
use Rattle.operator_laws.proofs.Permuting.{Permutes-refl, Permutes-of, Permutes-sym, Permutes-append, Permutes-before, Permutes-after, Permutes-middle, Permutes-map, Permutes-exchange}
use Rattle.operator_laws.proofs.Rows.{IsSame-refl, IsSame-trans, Permutes-distinct, grouped-agree, set_operation-same}
use Rattle.algebra.specs.Listing.{ended, end_by, listed_rows, unless_ended, then_list, in_order, row_by_row, onwards, whole_first, pairs_of, by_left_rows}
use Rattle.algebra_laws.specs.Shown.{IsShown, ShowsBy, Shows, ShowsAt, Lists, ListsAt}
use Rattle.algebra_laws.proofs.Rows.{joined_by, all_of, as_outcome, each-is, made_of, Lists-same, then-lists, ended-lists, rows-list, all-append, all-rows, all-faults, all-permutes, onwards-lists, whole-lists, kept-shows}

pub Lists-refl : (o : Outcome) → Lists o o
Lists-refl o = record {
  missing = [];
  rows = Permutes-of o.rows (o.rows ++ []) (sym (append-nil o.rows));
  within = λ f c. c;
  complete = λ e. (e, refl);
}

pub plain-lists : (rows others : List Row) → Permutes others rows → Lists (listed_rows rows) (listed_rows others)
plain-lists rows others p = Lists-same (listed_rows rows) (listed_rows rows) (listed_rows others) (record { rows = p; faults = λ f. (λ c. c, λ c. c) }) (Lists-refl (listed_rows rows))

all-of_flat_map : (h : Row → Outcome) (k : Row → List Row) (rows : List Row) → all_of h (flat_map k rows) ≡ all_of (λ row. all_of h (k row)) rows
all-of_flat_map h k [] = refl
all-of_flat_map h k (row ∷ rows) = all-append h (k row) (flat_map k rows) ∙ ap (λ o. joined_by (all_of h (k row)) o) (all-of_flat_map h k rows)

all-plain : (k : Row → List Row) (rows : List Row) → all_of (λ row. listed_rows (k row)) rows ≡ listed_rows (flat_map k rows)
all-plain k [] = refl
all-plain k (row ∷ rows) = ap (λ o. joined_by (listed_rows (k row)) o) (all-plain k rows)

-- ---- products

pub product-lists : (l lo r ro : Outcome) → Lists l lo → Lists r ro → Lists (by_left_rows l r (λ others row. listed_rows (beside row others))) (product lo ro)
unfolding product
product-lists l lo r ro h k =
    whole-lists r ro (record { rows = flat_map (λ row. beside row ro.rows) lo.rows; faults = lo.faults ++ ro.faults })
    (λ others. onwards l (in_order (λ row. listed_rows (beside row others)))) k
    (λ f c. Contains-append_right lo.faults ro.faults f c)
    (λ none p. subst (λ (z : Outcome). Lists (onwards l (in_order (λ row. listed_rows (beside row r.rows)))) z) (made none)
    (onwards-lists l lo (λ row. listed_rows (beside row r.rows)) (λ row. listed_rows (beside row ro.rows)) h
    (λ row. plain-lists (beside row r.rows) (beside row ro.rows) (Permutes-map (λ other. row ++ other) ro.rows r.rows p))))
  where
    made : ro.faults ≡ [] → made_of lo (λ row. listed_rows (beside row ro.rows)) ≡ record { rows = flat_map (λ row. beside row ro.rows) lo.rows; faults = lo.faults ++ ro.faults }
    made none = rw (none, all-plain (λ row. beside row ro.rows) lo.rows) refl

-- ---- inner joins

-- the pairs of a row
pub pairs-list : (f g : ConditionMeaning) (env : Env) (others rows : List Row) (row : Row) → ShowsAt f g → Permutes rows others
    → Lists (pairs_of f env others row) (all_of (λ pair. as_outcome (kept_row g env pair)) (beside row rows))
pairs-list f g env others rows row h p =
    Lists-same (pairs_of f env others row) (all_of (λ pair. as_outcome (kept_row g env pair)) (beside row others)) (all_of (λ pair. as_outcome (kept_row g env pair)) (beside row rows))
    (all-permutes (λ pair. as_outcome (kept_row g env pair)) (beside row rows) (beside row others) (Permutes-map (λ other. row ++ other) rows others p))
    (rows-list (λ pair. ended (kept_row f env pair)) (λ pair. as_outcome (kept_row g env pair)) (beside row others)
    (λ pair. ended-lists (kept_row f env pair) (kept_row g env pair) (kept-shows f g env pair h)))

-- the pairs of a row in the outcome
abbrev pub pairs_all : ConditionMeaning → Env → List Row → Row → Outcome
pairs_all g env others row = all_of (λ pair. as_outcome (kept_row g env pair)) (beside row others)

pub kept-pairs : (g : ConditionMeaning) (env : Env) (others : Row → List Row) (lefts : List Row)
    → kept g env (flat_map (λ row. beside row (others row)) lefts) ≡ all_of (λ row. pairs_all g env (others row) row) lefts
kept-pairs g env others lefts = each-is (kept_row g env) (flat_map (λ row. beside row (others row)) lefts)
    ∙ all-of_flat_map (λ pair. as_outcome (kept_row g env pair)) (λ row. beside row (others row)) lefts

abbrev pub all_pairs : ConditionMeaning → Env → Outcome → Outcome → Outcome
all_pairs g env lo ro = kept g env (flat_map (λ row. beside row ro.rows) lo.rows)

abbrev pairs_joined : ConditionMeaning → Env → Outcome → Outcome → Outcome
pairs_joined g env lo ro = record { rows = (all_pairs g env lo ro).rows; faults = (lo.faults ++ ro.faults) ++ (all_pairs g env lo ro).faults }

pub inner-lists : (f g : ConditionMeaning) (env : Env) (l lo r ro : Outcome) → ShowsAt f g → Lists l lo → Lists r ro
    → Lists (by_left_rows l r (pairs_of f env)) (inner_join g env lo ro)
unfolding product inner_join through
inner-lists f g env l lo r ro s h k =
    whole-lists r ro (pairs_joined g env lo ro) (λ others. onwards l (in_order (pairs_of f env others))) k
    (λ c there. Contains-append_left (lo.faults ++ ro.faults) (all_pairs g env lo ro).faults c (Contains-append_right lo.faults ro.faults c there))
    (λ none p. subst (λ (z : Outcome). Lists (onwards l (in_order (pairs_of f env r.rows))) z) (made none)
    (onwards-lists l lo (pairs_of f env r.rows) (λ row. all_of (λ pair. as_outcome (kept_row g env pair)) (beside row ro.rows)) h
    (λ row. pairs-list f g env r.rows ro.rows row s p)))
  where
    made : ro.faults ≡ [] → made_of lo (λ row. all_of (λ pair. as_outcome (kept_row g env pair)) (beside row ro.rows)) ≡ pairs_joined g env lo ro
    made none = rw (none, append-nil lo.faults, kept-pairs g env (λ row. ro.rows) lo.rows) refl
