-- A walk over the parts of a node to its n-th subquery: which is still to be passed, and what is
-- made of each part.
use Rattle.std.specs.Prelude.{ℕ, ◌-◌, nat_lt, Bool, true, false, ◌||◌, if◌then◌else◌, List, [], ◌∷◌, ◌++◌, length, slice_get, Option, Some, None, option_and_then}
use Rattle.std.specs.Option.{option_map}
use Rattle.algebra.specs.declared.tree.Tree.{Tree}
use Rattle.rules.specs.Paths.{Inside, applied_at}
use Rattle.rule_steps.specs.declared.attempt.Attempt.{Attempt}
use Rattle.rule_steps.specs.Attempted.{attempt}

-- what a rule makes of a node
abbrev pub Here : Type 0
Here = Tree → Option Tree

-- where the walk goes on behind a part: at what is left to pass, or nowhere, since it has been
-- there
abbrev pub passed_at : {X : Type 0} → Inside X → ℕ → Option ℕ
passed_at x n = if nat_lt n (length x.trees) then None else Some (n - length x.trees)

abbrev pub passed : {X : Type 0} → Inside X → Option ℕ → Option ℕ
passed x None = None
passed x (Some n) = passed_at x n

abbrev pub unchanged : {X : Type 0} → X → Attempt X
unchanged x = record { part = x; changed = false }

-- a part, changed at the end of a path that begins at its n-th subquery
abbrev pub changed_at : {X : Type 0} → Here → List ℕ → Inside X → ℕ → Option X
changed_at here path x n =
    option_and_then (λ part. option_map (x.changed n) (applied_at here path part)) (slice_get x.trees n)

abbrev pub visit_at : {X : Type 0} → Here → List ℕ → Inside X → ℕ → Attempt X
visit_at here path x n = if nat_lt n (length x.trees) then attempt (changed_at here path x n) x.same else unchanged x.same

-- what is left of a part when the walk has passed it
abbrev pub visit : {X : Type 0} → Here → List ℕ → Inside X → Option ℕ → Attempt X
visit here path x None = unchanged x.same
visit here path x (Some n) = visit_at here path x n

-- ---- parts put together: changed where one of them is

abbrev pub mapped : {X Y : Type 0} → (X → Y) → Attempt X → Attempt Y
mapped f x = record { part = f x.part; changed = x.changed }

abbrev pub together : {X Y Z : Type 0} → (X → Y → Z) → Attempt X → Attempt Y → Attempt Z
together made x y = record { part = made x.part y.part; changed = x.changed || y.changed }

abbrev pub pair : {X Y : Type 0} → Attempt X → Attempt Y → Attempt (X × Y)
pair x y = together (λ a b. (a, b)) x y

abbrev pub with_last : {X : Type 0} → Attempt (List X) → Attempt X → Attempt (List X)
with_last xs x = record { part = xs.part ++ x.part ∷ []; changed = xs.changed || x.changed }
