-- Conditions that see the columns of one side of a join alone.
use Rattle.algebra.specs.Raising.{NeverRaises}
use Rattle.algebra.specs.TreeOutcome.{outcome_step, tree_truth}
use Rattle.algebra.specs.declared.tree.Condition.{Condition}
use Rattle.algebra.specs.declared.tree.Condition.TheVariants as c
use Rattle.algebra.proofs.Nodes as means
use Rattle.denote.specs.Condition.{both, conjunction}
use Rattle.denote.specs.Evaluation.{Evaluation, ◌>>=◌}
use Rattle.sqlval.specs.declared.truth.Truth.{Truth}
use Rattle.std.proofs.Common.{Bool, ◌&&◌, List, [], map}
use Rattle.std.specs.List.{list_all}
use Rattle.denote.specs.Bag.{IsSame}
use Rattle.denote.specs.Evaluation.{Env}
use Rattle.denote.specs.Expression.{cell, column}
use Rattle.denote.specs.Meaning.{Tables}
use Rattle.denote.specs.Outcome.{Outcome}
use Rattle.operator_laws.proofs.Rows.{IsSame-refl}
use Rattle.rules.specs.Columns.{names_only, moved, in_left, in_right, from_right}
use Rattle.same_laws.proofs.Moved.{conditions-move}
use Rattle.same_laws.proofs.Sees.{conditions-see}
use Rattle.sqlval.specs.Value.{Row}
use Rattle.sqlval.specs.declared.value.Value.TheVariants.{Null}
use Rattle.std.proofs.Common.{◌≡◌, refl, sym, subst, ap, ◌∙◌, ℕ, zero, suc, Bool, List, ◌∷◌, ◌++◌, true, false, not, length, ◌<◌, arith}
use Rattle.std.proofs.lemmas.Bool.{ltb-true, ltb-false}
use Rattle.std.proofs.lemmas.List.{get_or_append_left, get_or-append-add}
use Rattle.std.specs.Prelude.{◌+◌, ◌-◌, nat_lt}

-- what `condition_may_raise c ≡ false` gives, by the law `denials_are_certain`
abbrev pub Quiet : Condition → Type 0
Quiet condition = (tables : Tables) → NeverRaises (tree_truth tables condition)

pub same-of : (o p : Outcome) → o ≡ p → IsSame o p
same-of o p e = subst (λ (z : Outcome). IsSame o z) e (IsSame-refl o)

-- ---- columns of the left side

pub left-columns : (w : ℕ) (x y : Row) (env : Env) → length x ≡ w → (depth place : ℕ) → in_left w depth place ≡ true
    → column ((x ++ y) ∷ env) depth place ≡ column (x ∷ env) depth place
left-columns w x y env wide zero place e =
    get_or_append_left x y Null place (subst (λ (n : ℕ). place < n) (sym wide) (ltb-true place w e))
left-columns w x y env wide (suc depth) place e = refl

-- a condition of the joined row that is at each pair what it is at the left row, which has so many
-- columns
abbrev pub SeesLeftAlone : Condition → ℕ → Type 0
SeesLeftAlone condition w = (tables : Tables) (x y : Row) (env : Env) → length x ≡ w
    → tree_truth tables condition ((x ++ y) ∷ env) ≡ tree_truth tables condition (x ∷ env)

pub sees-left : (condition : Condition) (w : ℕ) → names_only (in_left w) condition ≡ true → SeesLeftAlone condition w
sees-left condition w e tables x y env wide =
    conditions-see (outcome_step tables) (in_left w) (x ∷ env) ((x ++ y) ∷ env) (left-columns w x y env wide) condition
    e

-- ---- columns of the right side

off : (b : Bool) → not b ≡ true → b ≡ false
off true e = absurd (cc (e))
off false e = refl

own-columns : (w : ℕ) (x y : Row) (env : Env) → length x ≡ w → (depth place : ℕ) → in_right w depth place ≡ true
    → column (y ∷ env) (from_right w depth place).0 (from_right w depth place).1 ≡ column ((x ++ y) ∷ env) depth place
own-columns w x y env wide zero place e =
    let beyond = ltb-false place w (off (nat_lt place w) e) in
    let at : length x + (place - w) ≡ place = omega (arith, beyond, wide) in
    sym (get_or-append-add x y (place - w) Null) ∙ ap (λ n. cell (x ++ y) n) at
own-columns w x y env wide (suc depth) place e = refl

-- a condition of the joined row that is at each pair what another is at the right row
abbrev pub SeesRightAs : Condition → Condition → ℕ → Type 0
SeesRightAs above own w = (tables : Tables) (x y : Row) (env : Env) → length x ≡ w
    → tree_truth tables above ((x ++ y) ∷ env) ≡ tree_truth tables own (y ∷ env)

pub sees-right : (condition : Condition) (w : ℕ) → names_only (in_right w) condition ≡ true
    → SeesRightAs condition (moved (from_right w) condition) w
sees-right condition w names tables x y env wide =
    sym (conditions-move (outcome_step tables) (in_right w) (from_right w) ((x ++ y) ∷ env) (y ∷ env)
    (own-columns w x y env wide) condition names)

-- ---- lists of conditions

and-both : (a b : Bool) → (a && b) ≡ true → (a ≡ true) × (b ≡ true)
and-both true b e = (refl, e)
and-both false b e = absurd (cc (e))

and-is : (tables : Tables) (conditions : List Condition) (env : Env)
    → tree_truth tables (c.And conditions) env ≡ conjunction (map (tree_truth tables) conditions) env
and-is tables conditions env = means.truth_and (outcome_step tables) conditions env

both-same : (x y a b : Evaluation Truth) → x ≡ y → a ≡ b → (x >>= (λ t. both t a)) ≡ (y >>= (λ t. both t b))
both-same x y a b e f = λ i. e i >>= (λ t. both t (f i))

pub all-see-left : (conditions : List Condition) (w : ℕ) → list_all (names_only (in_left w)) conditions ≡ true
    → SeesLeftAlone (c.And conditions) w
all-see-left conditions w e tables x y env wide =
    and-is tables conditions ((x ++ y) ∷ env) ∙ at conditions e ∙ sym (and-is tables conditions (x ∷ env))
  where
    at : (conditions : List Condition) → list_all (names_only (in_left w)) conditions ≡ true
        → conjunction (map (tree_truth tables) conditions) ((x ++ y) ∷ env)
        ≡ conjunction (map (tree_truth tables) conditions) (x ∷ env)
    at [] e = refl
    at (condition ∷ conditions) e =
        let p = and-both (names_only (in_left w) condition) (list_all (names_only (in_left w)) conditions) e in
        both-same _ _ _ _ (sees-left condition w p.0 tables x y env wide) (at conditions p.1)

pub all-see-right : (conditions : List Condition) (w : ℕ) → list_all (names_only (in_right w)) conditions ≡ true
    → SeesRightAs (c.And conditions) (c.And (map (moved (from_right w)) conditions)) w
all-see-right conditions w e tables x y env wide =
    and-is tables conditions ((x ++ y) ∷ env) ∙ at conditions e
    ∙ sym (and-is tables (map (moved (from_right w)) conditions) (y ∷ env))
  where
    at : (conditions : List Condition) → list_all (names_only (in_right w)) conditions ≡ true
        → conjunction (map (tree_truth tables) conditions) ((x ++ y) ∷ env)
        ≡ conjunction (map (tree_truth tables) (map (moved (from_right w)) conditions)) (y ∷ env)
    at [] e = refl
    at (condition ∷ conditions) e =
        let p = and-both (names_only (in_right w) condition) (list_all (names_only (in_right w)) conditions) e in
        both-same _ _ _ _ (sees-right condition w p.0 tables x y env wide) (at conditions p.1)
