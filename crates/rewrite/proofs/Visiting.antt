-- What is left of a part that is put together from others, when a walk has passed it.
use Rattle.std.proofs.Common.{◌≡◌, refl, sym, ap, ◌∙◌, ℕ, zero, suc, ◌+◌, Bool, true, false, List, [], ◌∷◌, ◌++◌, length, Option, Some, None, arith}
use Rattle.std.proofs.lemmas.Bool.{ltb-true, ltb-false, lt-ltb, le-ltb}
use Rattle.std.proofs.lemmas.List.{length-append}
use Rattle.std.specs.Prelude.{◌-◌, nat_lt, ◌||◌, if◌then◌else◌, slice_get, option_and_then}
use Rattle.std.specs.Option.{option_map}
use Rattle.algebra.specs.declared.tree.Tree.{Tree}
use Rattle.rules.specs.Paths.{Inside, alone, as_list, child, no_part, two, applied_at}
use Rattle.rewrite_laws.proofs.Inside.{split-place}
use Rattle.rule_steps.specs.declared.attempt.Attempt.{Attempt}
use Rattle.rule_steps.specs.Attempted.{attempt}
use Rattle.rewrite.specs.Visits.{Here, changed_at, mapped, passed, together, unchanged, visit, with_last}

attempt-mapped : {X Y : Type 0} (f : X → Y) (found : Option X) (x : X)
    → attempt (option_map f found) (f x) ≡ mapped f (attempt found x)
attempt-mapped f None x = refl
attempt-mapped f (Some y) x = refl

-- one map behind another
map-map : {B C : Type 0} (f : B → C) (g : Tree → B) (here : Tree → Option Tree) (found : Option Tree)
    → option_and_then (λ part. option_map (λ new. f (g new)) (here part)) found
    ≡ option_map f (option_and_then (λ part. option_map g (here part)) found)
map-map f g here None = refl
map-map {B} {C} f g here (Some part) = at (here part)
  where
    at : (o : Option Tree) → option_map (λ new. f (g new)) o ≡ option_map f (option_map g o)
    at None = refl
    at (Some new) = refl

-- ---- no part

pub passed-none : {Z : Type 0} (z : Z) (place : Option ℕ) → passed (no_part z) place ≡ place
passed-none z None = refl
passed-none z (Some n) = λ i. if below i then None else Some (minus i)
  where
    below : nat_lt n 0 ≡ false
    below = le-ltb n 0 (omega arith)

    minus : n - 0 ≡ n
    minus = omega arith

pub visit-none : {Z : Type 0} (here : Here) (path : List ℕ) (z : Z) (place : Option ℕ)
    → visit here path (no_part z) place ≡ unchanged z
visit-none here path z None = refl
visit-none here path z (Some n) =
    ap (λ (b : Bool). if b then attempt (changed_at here path (no_part z) n) z else unchanged z) (le-ltb n 0 (omega arith))

-- ---- a subquery, or a child

pub passed-child : (tree : Tree) (n : ℕ) → passed (child tree) (Some (suc n)) ≡ Some n
passed-child tree n = λ i. if below i then None else Some (minus i)
  where
    below : nat_lt (suc n) 1 ≡ false
    below = le-ltb (suc n) 1 (omega arith)

    minus : suc n - 1 ≡ n
    minus = omega arith

pub visit-child : (here : Here) (path : List ℕ) (tree : Tree) (n : ℕ)
    → visit here path (child tree) (Some (suc n)) ≡ unchanged tree
visit-child here path tree n =
    ap (λ (b : Bool). if b then attempt (changed_at here path (child tree) (suc n)) tree else unchanged tree)
    (le-ltb (suc n) 1 (omega arith))

pub visit-here : (here : Here) (path : List ℕ) (tree : Tree)
    → visit here path (child tree) (Some zero) ≡ attempt (applied_at here path tree) tree
visit-here here path tree = attempt-mapped (λ t. t) (applied_at here path tree) tree ∙ same (attempt (applied_at here path tree) tree)
  where
    same : (a : Attempt Tree) → mapped (λ (t : Tree). t) a ≡ a
    same a = refl

-- ---- one part

pub passed-alone : {X Z : Type 0} (made : X → Z) (x : Inside X) (place : Option ℕ)
    → passed (alone made x) place ≡ passed x place
passed-alone made x None = refl
passed-alone made x (Some n) = refl

pub visit-alone : {X Z : Type 0} (here : Here) (path : List ℕ) (made : X → Z) (x : Inside X) (place : Option ℕ)
    → visit here path (alone made x) place ≡ mapped made (visit here path x place)
visit-alone here path made x None = refl
visit-alone {X} {Z} here path made x (Some n) = at (nat_lt n (length x.trees))
  where
    at : (b : Bool) → (if b then attempt (changed_at here path (alone made x) n) (made x.same) else unchanged (made x.same))
        ≡ mapped made (if b then attempt (changed_at here path x n) x.same else unchanged x.same)
    at true = ap (λ (o : Option Z). attempt o (made x.same))
        (map-map made (x.changed n) (applied_at here path) (slice_get x.trees n))
        ∙ attempt-mapped made (changed_at here path x n) x.same
    at false = refl

-- ---- two parts

-- behind the first part, the place is told by the second
behind-first : (n a b : ℕ) → nat_lt n a ≡ false → nat_lt n (a + b) ≡ nat_lt (n - a) b
behind-first n a b e = at (nat_lt (n - a) b) refl
  where
    at : (t : Bool) → nat_lt (n - a) b ≡ t → nat_lt n (a + b) ≡ t
    at true f = let g = ltb-false n a e in let h = ltb-true (n - a) b f in lt-ltb n (a + b) (omega (arith, g, h))
    at false f = let g = ltb-false n a e in let h = ltb-false (n - a) b f in le-ltb n (a + b) (omega (arith, g, h))

within-first : (n a b : ℕ) → nat_lt n a ≡ true → nat_lt n (a + b) ≡ true
within-first n a b e = let g = ltb-true n a e in lt-ltb n (a + b) (omega (arith, g))

minus-minus : (n a b : ℕ) → n - (a + b) ≡ (n - a) - b
minus-minus n a b = omega arith

pub passed-two : {X Y Z : Type 0} (made : X → Y → Z) (x : Inside X) (y : Inside Y) (place : Option ℕ)
    → passed (two made x y) place ≡ passed y (passed x place)
passed-two made x y None = refl
passed-two {X} {Y} {Z} made x y (Some n) =
    ap (λ (l : ℕ). if nat_lt n l then None else Some (n - l)) (length-append x.trees y.trees)
    ∙ at (nat_lt n (length x.trees)) refl
  where
    at : (b : Bool) → nat_lt n (length x.trees) ≡ b
        → (if nat_lt n (length x.trees + length y.trees) then None else Some (n - (length x.trees + length y.trees)))
        ≡ passed y (if b then None else Some (n - length x.trees))
    at true e = ap (λ (t : Bool). if t then None else Some (n - (length x.trees + length y.trees)))
        (within-first n (length x.trees) (length y.trees) e)
    at false e = λ i. if behind-first n (length x.trees) (length y.trees) e i then None
        else Some (minus-minus n (length x.trees) (length y.trees) i)

-- of two parts: whether the place is in the first, whether it is in one of them, and what stands
-- there
abbrev whole : {X Y Z : Type 0} → Here → List ℕ → (X → Y → Z) → Inside X → Inside Y → ℕ → Bool → Bool → Option Tree
    → Attempt Z
whole here path made x y n a b got = if b then attempt (option_and_then (λ part. option_map
    (λ tree. if a then made (x.changed n tree) y.same else made x.same (y.changed (n - length x.trees) tree))
    (applied_at here path part)) got) (made x.same y.same) else unchanged (made x.same y.same)

first-visited : {X Y Z : Type 0} (made : X → Y → Z) (x : X) (y : Y) (found : Option X)
    → attempt (option_map (λ a. made a y) found) (made x y) ≡ together made (attempt found x) (unchanged y)
first-visited made x y None = refl
first-visited made x y (Some a) = refl

second-visited : {X Y Z : Type 0} (made : X → Y → Z) (x : X) (y : Y) (found : Option Y)
    → attempt (option_map (made x) found) (made x y) ≡ together made (unchanged x) (attempt found y)
second-visited made x y None = refl
second-visited made x y (Some b) = refl

pub visit-two : {X Y Z : Type 0} (here : Here) (path : List ℕ) (made : X → Y → Z) (x : Inside X) (y : Inside Y)
    (place : Option ℕ)
    → visit here path (two made x y) place
    ≡ together made (visit here path x place) (visit here path y (passed x place))
visit-two here path made x y None = refl
visit-two {X} {Y} {Z} here path made x y (Some n) = at (nat_lt n (length x.trees)) refl
  where
    count : nat_lt n (length (x.trees ++ y.trees)) ≡ nat_lt n (length x.trees + length y.trees)
    count = ap (nat_lt n) (length-append x.trees y.trees)

    second : (t : Bool) → whole here path made x y n false t (slice_get y.trees (n - length x.trees)) ≡ together made (unchanged x.same)
        (if t then attempt (changed_at here path y (n - length x.trees)) y.same else unchanged y.same)
    second true = ap (λ (o : Option Z). attempt o (made x.same y.same))
        (map-map (made x.same) (y.changed (n - length x.trees)) (applied_at here path) (slice_get y.trees (n - length x.trees)))
        ∙ second-visited made x.same y.same (changed_at here path y (n - length x.trees))
    second false = refl

    at : (a : Bool) → nat_lt n (length x.trees) ≡ a
        → whole here path made x y n (nat_lt n (length x.trees)) (nat_lt n (length (x.trees ++ y.trees))) (slice_get (x.trees ++ y.trees) n)
        ≡ together made (if a then attempt (changed_at here path x n) x.same else unchanged x.same)
        (visit here path y (if a then None else Some (n - length x.trees)))
    at true e =
        (λ i. whole here path made x y n (e i) ((count ∙ within-first n (length x.trees) (length y.trees) e) i)
        ((split-place x.trees y.trees n ∙ ap (λ (t : Bool). if t then slice_get x.trees n else slice_get y.trees (n - length x.trees)) e) i))
        ∙ ap (λ (o : Option Z). attempt o (made x.same y.same))
        (map-map (λ a. made a y.same) (x.changed n) (applied_at here path) (slice_get x.trees n))
        ∙ first-visited made x.same y.same (changed_at here path x n)
    at false e =
        (λ i. whole here path made x y n (e i) ((count ∙ behind-first n (length x.trees) (length y.trees) e) i)
        ((split-place x.trees y.trees n ∙ ap (λ (t : Bool). if t then slice_get x.trees n else slice_get y.trees (n - length x.trees)) e) i))
        ∙ second (nat_lt (n - length x.trees) (length y.trees))
