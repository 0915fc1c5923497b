-- A condition that asks for a range raises nothing, and is true within it alone.
use Rattle.std.proofs.Common.{◌≡◌, ap, ℕ, Bool, true, false, ◌&&◌, List, [], ◌∷◌, Option, Some, None, Ok}
use Rattle.sqlval.specs.Value.{Row}
use Rattle.sqlval.specs.declared.truth.Truth.TheVariants.{True}
use Rattle.denote.specs.Evaluation.{Env}
use Rattle.denote.specs.Meaning.{Tables}
use Rattle.algebra.specs.Bounds.{is_within}
use Rattle.algebra.specs.Raising.{NeverRaises}
use Rattle.algebra.specs.TreeOutcome.{tree_truth}
use Rattle.algebra.specs.declared.tree.Bound.{Bound}
use Rattle.algebra.specs.declared.tree.Condition.{Condition}
use Rattle.rules.specs.Bounds.{low_among, high_among}
use Rattle.rules.specs.Conjuncts.{conjuncts, quiet}
use Rattle.rewrite_laws.proofs.Conditions.{Denials, quiet-is}
use Rattle.rewrite_laws.proofs.Found.{given-found, some-is}
use Rattle.rewrite_laws.proofs.Literals.{low-holds, high-holds}
use Rattle.rewrite_laws.proofs.Truths.{conjuncts-true}
use Rattle.range_lookups.specs.declared.sought.Limits.{Limits}
use Rattle.range_lookups.specs.Sought.{limited, limits_among, limits_sought}

are-these : (both : Bool) (low high : Option Bound) (found : Limits) → limited both low high ≡ Some found
    → (low ≡ found.low) × (high ≡ found.high)
are-these true None high found e = absurd (cc (e))
are-these true (Some low) None found e = absurd (cc (e))
are-these true (Some low) (Some high) found e =
    (ap (λ (l : Limits). l.low) (some-is e), ap (λ (l : Limits). l.high) (some-is e))
are-these false None None found e = absurd (cc (e))
are-these false None (Some high) found e =
    (ap (λ (l : Limits). l.low) (some-is e), ap (λ (l : Limits). l.high) (some-is e))
are-these false (Some low) high found e =
    (ap (λ (l : Limits). l.low) (some-is e), ap (λ (l : Limits). l.high) (some-is e))

module _ (denied : Denials) where
  pub calm : (tables : Tables) (both : Bool) (condition : Condition) (columns : List ℕ) (found : Limits)
      → limits_sought both columns condition ≡ Some found → NeverRaises (tree_truth tables condition)
  calm tables both condition [] found e = absurd (cc (e))
  calm tables both condition (column ∷ columns) found e =
      quiet-is denied condition
      (given-found (quiet condition) (limits_among both column (conjuncts condition)) found e).0 tables

pub inside : (tables : Tables) (both : Bool) (condition : Condition) (columns : List ℕ) (found : Limits) (row : Row)
    (outer : Env) → limits_sought both columns condition ≡ Some found
    → tree_truth tables condition (row ∷ outer) ≡ Ok True → is_within columns found.low found.high row ≡ true
inside tables both condition [] found row outer e holds = absurd (cc (e))
inside tables both condition (column ∷ columns) found row outer e holds =
    let are = are-these both (low_among column (conjuncts condition)) (high_among column (conjuncts condition)) found
    (given-found (quiet condition) (limits_among both column (conjuncts condition)) found e).1 in
    let hold = conjuncts-true tables condition (row ∷ outer) holds in
    λ i. low-holds tables column row outer (conjuncts condition) hold found.low are.0 i
    && high-holds tables column row outer (conjuncts condition) hold found.high are.1 i
