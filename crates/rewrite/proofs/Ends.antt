-- A walk over the parts of a node does what is made at the end of a path that begins there.
use Rattle.std.proofs.Common.{◌≡◌, refl, sym, ap, ◌∙◌, ℕ, zero, suc, Bool, true, false, List, [], ◌∷◌, length, Option, Some, None, arith}
use Rattle.std.proofs.lemmas.Bool.{ltb-true, ltb-false, lt-ltb, le-ltb}
use Rattle.std.specs.Prelude.{nat_lt, ◌||◌, if◌then◌else◌, slice_get, option_and_then}
use Rattle.std.specs.Option.{option_map}
use Rattle.algebra.specs.declared.tree.Tree.{Tree}
use Rattle.rules.specs.Paths.{Inside, in_node, applied_at}
use Rattle.rewrite_laws.proofs.Whole.{nodes-same}
use Rattle.rule_steps.specs.declared.attempt.Attempt.{Attempt}
use Rattle.rule_steps.specs.Attempted.{attempt}
use Rattle.rewrite.specs.Visits.{Here, changed_at, unchanged, visit, with_last}

-- nothing stands past the end of a list
slice-past : {X : Type 0} (xs : List X) (n : ℕ) → nat_lt n (length xs) ≡ false → slice_get xs n ≡ None
slice-past [] zero e = refl
slice-past [] (suc n) e = refl
slice-past (x ∷ xs) zero e = absurd (let h = ltb-false 0 (suc (length xs)) e in omega (arith, h))
slice-past (x ∷ xs) (suc n) e = slice-past xs n
    (let h = ltb-false (suc n) (suc (length xs)) e in le-ltb n (length xs) (omega (arith, h)))

pub walk-ends : (here : Here) (path : List ℕ) (tree : Tree) (place : ℕ)
    → visit here path (in_node tree) (Some place) ≡ attempt (applied_at here (place ∷ path) tree) tree
walk-ends here path tree place = at (nat_lt place (length (in_node tree).trees)) refl
  where
    at : (b : Bool) → nat_lt place (length (in_node tree).trees) ≡ b
        → (if b then attempt (changed_at here path (in_node tree) place) (in_node tree).same else unchanged (in_node tree).same)
        ≡ attempt (changed_at here path (in_node tree) place) tree
    at true e = ap (attempt (changed_at here path (in_node tree) place)) (nodes-same tree)
    at false e = ap (λ (t : Tree). unchanged t) (nodes-same tree)
        ∙ ap (λ (got : Option Tree). attempt (option_and_then (λ part. option_map ((in_node tree).changed place)
        (applied_at here path part)) got) tree) (sym (slice-past (in_node tree).trees place e))

-- what was made, if something was
pub told : {X : Type 0} (found : Option X) (old : X)
    → (if (attempt found old).changed then Some (attempt found old).part else None) ≡ found
told None old = refl
told (Some x) old = refl
