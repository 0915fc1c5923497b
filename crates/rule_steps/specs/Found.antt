-- What rules look for among indexes, without the tree that they make of it.
use Rattle.std.specs.Prelude.{ℕ, zero, suc, Bool, true, false, List, [], ◌∷◌, map, Option, Some, None}
use Rattle.std.specs.Option.{option_map}
use Rattle.algebra.specs.OrderKeys.{column_of, handed_on}
use Rattle.algebra.specs.Sorted.{ascending}
use Rattle.algebra.specs.declared.tree.Bound.{Bound}
use Rattle.algebra.specs.declared.tree.Condition.{Condition}
use Rattle.algebra.specs.declared.tree.Expression.{Expression}
use Rattle.key_lookups.specs.Sought.{key_sought}
use Rattle.rules.specs.Bounds.{low_among, high_among}
use Rattle.rules.specs.JoinRules.{places_for}
use Rattle.rules.specs.Nodes.{given}
use Rattle.rules.specs.OrderRules.{keys_begin}
use Rattle.rule_steps.specs.declared.loops.LoopKey.{LoopKey}
use Rattle.rule_steps.specs.declared.lookups.SeekKey.{SeekKey}
use Rattle.rule_steps.specs.declared.lookups.IndexLimits.{IndexLimits}
use Rattle.typing.specs.declared.typed.OrderKey.{OrderKey}

-- an index each of whose columns has a left place
abbrev pub loop_by : List (ℕ × ℕ) → List ℕ → Option LoopKey
loop_by pairs columns = option_map (λ places. record { places = places; columns = columns }) (places_for pairs columns)

-- an index for whose columns a condition asks for a key
abbrev pub seek_key : Condition → List ℕ → Option SeekKey
seek_key condition columns = option_map (λ key. record { columns = columns; key = key }) (key_sought columns condition)

-- Bounds of an index's first column: both, or one at least.
abbrev pub limited : Bool → List ℕ → Option Bound → Option Bound → Option IndexLimits
limited true columns (Some low) (Some high) = Some (record { columns = columns; low = Some low; high = Some high })
limited true columns _ _ = None
limited false columns None None = None
limited false columns low high = Some (record { columns = columns; low = low; high = high })

abbrev pub limits_by : Bool → List Condition → List ℕ → Option IndexLimits
limits_by both conditions [] = None
limits_by both conditions (column ∷ columns) =
    limited both (column ∷ columns) (low_among column conditions) (high_among column conditions)

-- an index whose order, as far as the items hand it on, begins with these keys
abbrev pub order_by : List OrderKey → List Expression → List ℕ → Option (List ℕ)
order_by keys items columns = given (keys_begin keys (handed_on (map column_of items) (ascending columns))) (Some columns)

-- the place of a column of the row itself
abbrev pub own_column : ℕ → ℕ → Option ℕ
own_column zero place = Some place
own_column (suc depth) place = None
