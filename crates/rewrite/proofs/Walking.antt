-- A child, and the walk at the end of its path.
use Rattle.std.proofs.Common.{◌≡◌, refl, ap, sym, ◌∙◌, subst, ℕ, suc, zero, ◌<◌, List, Option, Some, None, arith}
use Rattle.std.specs.Prelude.{◌-◌}
use Rattle.algebra.specs.declared.tree.Tree.{Tree}
use Rattle.rules.specs.Paths.{applied_at, child}
use Rattle.rule_steps.specs.Attempted.{attempt}
use Rattle.rule_steps.specs.declared.attempt.Attempt.{Attempt}
use Rattle.rewrite.specs.Visits.{Here, passed, unchanged, visit}
use Rattle.rewrite.proofs.Visiting.{passed-child, visit-child, visit-here}

-- the place is told as an option
pub passed-more : (tree : Tree) (place : Option ℕ) (more : ℕ) → place ≡ Some more → 0 < more
    → passed (child tree) place ≡ Some (more - 1)
passed-more tree place zero is above = absurd (omega (arith, above))
passed-more tree place (suc n) is above = ap (λ (p : Option ℕ). passed (child tree) p) is ∙ passed-child tree n
    ∙ ap Some minus
  where
    minus : n ≡ suc n - 1
    minus = omega arith

pub visit-more : (here : Here) (path : List ℕ) (tree : Tree) (place : Option ℕ) (more : ℕ) → place ≡ Some more → 0 < more
    → visit here path (child tree) place ≡ unchanged tree
visit-more here path tree place zero is above = absurd (omega (arith, above))
visit-more here path tree place (suc n) is above = ap (λ (p : Option ℕ). visit here path (child tree) p) is
    ∙ visit-child here path tree n

pub passed-now : (tree : Tree) (place : Option ℕ) (more : ℕ) → place ≡ Some more → more ≡ 0 → passed (child tree) place ≡ None
passed-now tree place more is at = ap (λ (p : Option ℕ). passed (child tree) p) (is ∙ ap Some at)

pub visit-now : (here : Here) (path : List ℕ) (tree : Tree) (place : Option ℕ) (more : ℕ) → place ≡ Some more → more ≡ 0
    → visit here path (child tree) place ≡ attempt (applied_at here path tree) tree
visit-now here path tree place more is at = ap (λ (p : Option ℕ). visit here path (child tree) p) (is ∙ ap Some at)
    ∙ visit-here here path tree
