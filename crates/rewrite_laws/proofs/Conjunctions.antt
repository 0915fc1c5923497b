-- An AND of conditions that never raise is true where all of them are: so its conjuncts may be
-- taken apart.
use Rattle.algebra.specs.TreeOutcome.{tree_truth}
use Rattle.algebra.specs.declared.tree.Condition.{Condition}
use Rattle.denote.specs.Condition.{conjunction, both}
use Rattle.denote.specs.Evaluation.{Env, Evaluation, ◌>>=◌}
use Rattle.denote.specs.Meaning.{Tables}
use Rattle.operator_laws.specs.Law.{is_true}
use Rattle.operator_laws.specs.Same.{Every}
use Rattle.sqlval.specs.Truth.{truth_and}
use Rattle.sqlval.specs.declared.truth.Truth.{Truth}
use Rattle.sqlval.specs.declared.truth.Truth.TheVariants.{False, Unknown, True}
use Rattle.std.proofs.Common.{◌≡◌, refl, ap, ◌∙◌, Bool, List, [], ◌∷◌, map, Ok, true, false, not, ◌&&◌, cond, Err}
use Rattle.std.specs.List.{list_all}
use Rattle.std.specs.Prelude.{filter}

pub and-one : (e f : Evaluation Truth) (t u : Truth) → e ≡ Ok t → f ≡ Ok u
    → is_true (e >>= (λ x. both x f)) ≡ (is_true e && is_true f)
and-one (Err faults) f t u p q = absurd (cc (p))
and-one (Ok False) f t u p q = refl
and-one (Ok True) f t u p q = refl
and-one (Ok Unknown) (Err faults) t u p q = absurd (cc (q))
and-one (Ok Unknown) (Ok False) t u p q = refl
and-one (Ok Unknown) (Ok Unknown) t u p q = refl
and-one (Ok Unknown) (Ok True) t u p q = refl

and-value : (e f : Evaluation Truth) (t u : Truth) → e ≡ Ok t → f ≡ Ok u
    → (v : Truth) × ((e >>= (λ x. both x f)) ≡ Ok v)
and-value (Err faults) f t u p q = absurd (cc (p))
and-value (Ok False) f t u p q = (False, refl)
and-value (Ok True) f t u p q = (u, q)
and-value (Ok Unknown) f t u p q =
    (truth_and Unknown u, ap (λ (e : Evaluation Truth). e >>= (λ y. Ok (truth_and Unknown y))) q)

module _ (tables : Tables) (env : Env) where
  abbrev pub AllQuiet : List Condition → Type 0
  AllQuiet cs = Every (λ c. (t : Truth) × (tree_truth tables c env ≡ Ok t)) cs

  pub all-value : (cs : List Condition) → AllQuiet cs
      → (t : Truth) × (conjunction (map (tree_truth tables) cs) env ≡ Ok t)
  all-value [] h = (True, refl)
  all-value (c ∷ cs) h = let rest = all-value cs h.1 in and-value (tree_truth tables c env)
      (conjunction (map (tree_truth tables) cs) env) h.0.0 rest.0 h.0.1 rest.1

  pub true-all : (cs : List Condition) → AllQuiet cs → is_true (conjunction (map (tree_truth tables) cs) env)
      ≡ list_all (λ c. is_true (tree_truth tables c env)) cs
  true-all [] h = refl
  true-all (c ∷ cs) h =
      let rest = all-value cs h.1 in
      and-one (tree_truth tables c env) (conjunction (map (tree_truth tables) cs) env) h.0.0 rest.0 h.0.1 rest.1
      ∙ ap (λ b. is_true (tree_truth tables c env) && b) (true-all cs h.1)

-- whatever conjuncts go, and whatever stay
pub all-parted : {X : Type 0} (holds p : X → Bool) (xs : List X)
    → list_all holds xs ≡ (list_all holds (filter p xs) && list_all holds (filter (λ x. not (p x)) xs))
all-parted holds p [] = refl
all-parted {X} holds p (x ∷ xs) = ap (λ b. holds x && b) (all-parted holds p xs) ∙ at (p x)
  where
    into : (a l r : Bool) → (a && (l && r)) ≡ ((a && l) && r)
    into true l r = refl
    into false l r = refl

    past : (a l r : Bool) → (a && (l && r)) ≡ (l && (a && r))
    past true l r = refl
    past false true r = refl
    past false false r = refl

    at : (b : Bool) → (holds x && (list_all holds (filter p xs) && list_all holds (filter (λ x. not (p x)) xs)))
        ≡ (list_all holds (cond b (x ∷ filter p xs) (filter p xs)) && list_all holds
        (cond (not b) (x ∷ filter (λ x. not (p x)) xs) (filter (λ x. not (p x)) xs)))
    at true = into (holds x) (list_all holds (filter p xs)) (list_all holds (filter (λ x. not (p x)) xs))
    at false = past (holds x) (list_all holds (filter p xs)) (list_all holds (filter (λ x. not (p x)) xs))
