-- The range of an index that a condition asks for: the bounds that its conjuncts set to the first
-- column of the index. That bounds are looked for among the conjuncts alone is our own choice.
use Rattle.std.specs.Prelude.{ℕ, Bool, true, false, List, [], ◌∷◌, Option, Some, None}
use Rattle.algebra.specs.declared.tree.Bound.{Bound}
use Rattle.algebra.specs.declared.tree.Condition.{Condition}
use Rattle.rules.specs.Bounds.{low_among, high_among}
use Rattle.rules.specs.Conjuncts.{conjuncts, quiet}
use Rattle.rules.specs.Nodes.{given}
use Rattle.range_lookups.specs.declared.sought.Limits.{Limits}

-- both bounds, or one at least
abbrev pub limited : Bool → Option Bound → Option Bound → Option Limits
limited true (Some low) (Some high) = Some (record { low = Some low; high = Some high })
limited true _ _ = None
limited false None None = None
limited false low high = Some (record { low = low; high = high })

-- the bounds that these conditions set to a column
abbrev pub limits_among : Bool → ℕ → List Condition → Option Limits
limits_among both column conditions = limited both (low_among column conditions) (high_among column conditions)

-- a condition that may raise a fault asks for none, since the fault may come at a row beyond the
-- bounds
abbrev pub limits_sought : Bool → List ℕ → Condition → Option Limits
limits_sought both [] condition = None
limits_sought both (column ∷ columns) condition =
    given (quiet condition) (limits_among both column (conjuncts condition))
