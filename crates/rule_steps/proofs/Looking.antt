-- What is made of what is looked for among indexes is what the rule makes.
use Rattle.std.proofs.Common.{◌≡◌, refl, ap, sym, ◌∙◌, ℕ, Bool, true, false, List, [], ◌∷◌, map, Option, Some, None, Result, Ok, Err, subst}
use Rattle.std.specs.Prelude.{is_some, option_and_then, IfOk}
use Rattle.std.specs.Option.{option_map, option_or}
use Rattle.algebra.specs.OrderKeys.{column_of, handed_on}
use Rattle.algebra.specs.Sorted.{ascending}
use Rattle.algebra.specs.declared.tree.Bound.{Bound}
use Rattle.algebra.specs.declared.tree.Condition.{Condition}
use Rattle.algebra.specs.declared.tree.Expression.{Expression}
use Rattle.algebra.specs.declared.tree.StoredTable.{StoredTable}
use Rattle.algebra.specs.declared.tree.Tree.{Tree, Tree-F, out-Tree}
use Rattle.algebra.specs.declared.tree.Tree.TheVariants as t
use Rattle.key_lookups.specs.Sought.{key_sought}
use Rattle.rules.specs.Bounds.{high_among, low_among}
use Rattle.rules.specs.Conjuncts.{conjuncts, quiet}
use Rattle.rules.specs.Indexes.{key_first}
use Rattle.rules.specs.JoinKeys.{join_pairs}
use Rattle.rules.specs.JoinRules.{loop_at, looped, places_for}
use Rattle.rules.specs.LookupRules.{at_scan, between_both, beyond_one, filter_to_seek, range_by, seek_by}
use Rattle.rules.specs.Nodes.{at_filter, first_found, given}
use Rattle.rules.specs.OrderRules.{keys_begin, ordered_by}
use Rattle.rules.specs.Width.{width_of_tree}
use Rattle.rule_steps.specs.Found.{limited, limits_by, loop_by, order_by, seek_key}
use Rattle.rule_steps.specs.declared.lookups.IndexLimits.{IndexLimits}
use Rattle.rule_steps.specs.declared.lookups.SeekKey.{SeekKey}
use Rattle.rule_steps.specs.declared.loops.LoopKey.{LoopKey}
use Rattle.typing.specs.declared.typed.OrderKey.{OrderKey}
use Rattle.rule_steps.proofs.Nodes.{filter, scan}
use Rattle.rule_steps.proofs.Chosen.{mapped-either, mapped-first, mapped-given, mapped-some, mapped-then, mapped-twice}

-- ---- Q8

abbrev pub sought_by : Condition → StoredTable → SeekKey → Tree
sought_by condition table k = t.Filter condition (t.Seek table k.columns k.key)

pub seek-is : (condition : Condition) (table : StoredTable) (indexes : List (List ℕ))
    → option_map (sought_by condition table) (first_found (seek_key condition) indexes)
    ≡ first_found (seek_by condition table) indexes
seek-is condition table indexes = mapped-first (sought_by condition table) (seek_key condition) indexes
    ∙ (λ i. first_found (λ columns. mapped-twice (sought_by condition table)
    (λ key. record { columns = columns; key = key }) (key_sought columns condition) i) indexes)

pub seek-told : (condition : Condition) (table : StoredTable) (indexes : List (List ℕ))
    → is_some (first_found (seek_key condition) indexes) ≡ is_some (first_found (seek_by condition table) indexes)
seek-told condition table indexes = sym (mapped-some (sought_by condition table) (first_found (seek_key condition) indexes))
    ∙ ap (λ (found : Option Tree). is_some found) (seek-is condition table indexes)

-- at a node that is written out
abbrev make_seek : Condition → StoredTable → Option Tree
make_seek condition table = first_found (seek_by condition table) (key_first table)

pub seek-made : (condition : Condition) (table : StoredTable) (new : Tree)
    → filter_to_seek (t.Filter condition (t.Scan table)) ≡ Some new
    → option_map (sought_by condition table) (first_found (seek_key condition) (key_first table)) ≡ Some new
seek-made condition table new e = seek-is condition table (key_first table)
    ∙ ap (at_scan make_seek condition) (sym (scan table))
    ∙ ap (at_filter (λ condition rows. at_scan make_seek condition (out-Tree rows))) (sym (filter condition (t.Scan table))) ∙ e

pub seek-can : (condition : Condition) (table : StoredTable)
    → is_some (first_found (seek_key condition) (key_first table)) ≡ is_some (filter_to_seek (t.Filter condition (t.Scan table)))
seek-can condition table = seek-told condition table (key_first table)
    ∙ ap (λ (found : Option Tree). is_some found) (ap (at_scan make_seek condition) (sym (scan table))
    ∙ ap (at_filter (λ condition rows. at_scan make_seek condition (out-Tree rows))) (sym (filter condition (t.Scan table))))

-- what is so of the value that was told is so of what came
pub ok-is : {X E : Type 0} (P : X → Type 0) (came : Result X E) (x : X) → IfOk came (λ y. y ≡ x) → P x → IfOk came P
ok-is P (Ok y) x e p = subst P (sym e) p
ok-is P (Err error) x e p = tt

-- ---- Q9

abbrev pub ranged_by : Condition → StoredTable → IndexLimits → Tree
ranged_by condition table l = t.Filter condition (t.Range table l.columns l.low l.high)

-- the limits of the first index that has both, or else one
abbrev pub limits_found : Condition → StoredTable → Option IndexLimits
limits_found condition table = given (quiet condition)
    (option_or (first_found (limits_by true (conjuncts condition)) (key_first table))
    (first_found (limits_by false (conjuncts condition)) (key_first table)))

both-limits : (condition : Condition) (table : StoredTable) (columns : List ℕ) (low high : Option Bound)
    → option_map (ranged_by condition table) (limited true columns low high) ≡ between_both condition table columns low high
both-limits condition table columns None high = refl
both-limits condition table columns (Some low) None = refl
both-limits condition table columns (Some low) (Some high) = refl

one-limit : (condition : Condition) (table : StoredTable) (columns : List ℕ) (low high : Option Bound)
    → option_map (ranged_by condition table) (limited false columns low high) ≡ beyond_one condition table columns low high
one-limit condition table columns None None = refl
one-limit condition table columns None (Some high) = refl
one-limit condition table columns (Some low) None = refl
one-limit condition table columns (Some low) (Some high) = refl

both-by : (condition : Condition) (table : StoredTable) (columns : List ℕ)
    → option_map (ranged_by condition table) (limits_by true (conjuncts condition) columns)
    ≡ range_by between_both condition table columns
both-by condition table [] = refl
both-by condition table (column ∷ columns) = both-limits condition table (column ∷ columns)
    (low_among column (conjuncts condition)) (high_among column (conjuncts condition))

one-by : (condition : Condition) (table : StoredTable) (columns : List ℕ)
    → option_map (ranged_by condition table) (limits_by false (conjuncts condition) columns)
    ≡ range_by beyond_one condition table columns
one-by condition table [] = refl
one-by condition table (column ∷ columns) = one-limit condition table (column ∷ columns)
    (low_among column (conjuncts condition)) (high_among column (conjuncts condition))

pub range-is : (condition : Condition) (table : StoredTable) (indexes : List (List ℕ))
    → option_map (ranged_by condition table) (given (quiet condition)
    (option_or (first_found (limits_by true (conjuncts condition)) indexes)
    (first_found (limits_by false (conjuncts condition)) indexes)))
    ≡ given (quiet condition) (option_or (first_found (range_by between_both condition table) indexes)
    (first_found (range_by beyond_one condition table) indexes))
range-is condition table indexes = mapped-given (ranged_by condition table) (quiet condition)
    (option_or (first_found (limits_by true (conjuncts condition)) indexes)
    (first_found (limits_by false (conjuncts condition)) indexes))
    ∙ ap (given (quiet condition)) (mapped-either (ranged_by condition table)
    (first_found (limits_by true (conjuncts condition)) indexes) (first_found (limits_by false (conjuncts condition)) indexes)
    ∙ (λ i. option_or
    ((mapped-first (ranged_by condition table) (limits_by true (conjuncts condition)) indexes
    ∙ (λ j. first_found (λ columns. both-by condition table columns j) indexes)) i)
    ((mapped-first (ranged_by condition table) (limits_by false (conjuncts condition)) indexes
    ∙ (λ j. first_found (λ columns. one-by condition table columns j) indexes)) i)))

pub range-told : (condition : Condition) (table : StoredTable) (indexes : List (List ℕ))
    → is_some (given (quiet condition) (option_or (first_found (limits_by true (conjuncts condition)) indexes)
    (first_found (limits_by false (conjuncts condition)) indexes)))
    ≡ is_some (given (quiet condition) (option_or (first_found (range_by between_both condition table) indexes)
    (first_found (range_by beyond_one condition table) indexes)))
range-told condition table indexes = sym (mapped-some (ranged_by condition table) (given (quiet condition)
    (option_or (first_found (limits_by true (conjuncts condition)) indexes)
    (first_found (limits_by false (conjuncts condition)) indexes))))
    ∙ ap (λ (found : Option Tree). is_some found) (range-is condition table indexes)

-- ---- Q11

abbrev pub looped_by : Condition → Tree → StoredTable → LoopKey → Tree
looped_by on left table k = t.IndexLoop on left k.places table k.columns

abbrev pub loop_found : Condition → Tree → StoredTable → Option LoopKey
loop_found on left table = given (quiet on)
    (option_and_then (λ w. first_found (loop_by (join_pairs w on)) (key_first table)) (width_of_tree left))

loop-at : (on : Condition) (left : Tree) (table : StoredTable) (pairs : List (ℕ × ℕ)) (indexes : List (List ℕ))
    → option_map (looped_by on left table) (first_found (loop_by pairs) indexes)
    ≡ first_found (looped on left table pairs) indexes
loop-at on left table pairs indexes = mapped-first (looped_by on left table) (loop_by pairs) indexes
    ∙ (λ i. first_found (λ columns. mapped-twice (looped_by on left table)
    (λ places. record { places = places; columns = columns }) (places_for pairs columns) i) indexes)

pub loop-is : (on : Condition) (left : Tree) (table : StoredTable)
    → option_map (looped_by on left table) (loop_found on left table) ≡ loop_at on left (Tree-F.Scan table)
loop-is on left table = mapped-given (looped_by on left table) (quiet on)
    (option_and_then (λ w. first_found (loop_by (join_pairs w on)) (key_first table)) (width_of_tree left))
    ∙ ap (given (quiet on)) (mapped-then (looped_by on left table)
    (λ w. first_found (loop_by (join_pairs w on)) (key_first table)) (width_of_tree left)
    ∙ (λ i. option_and_then (λ w. loop-at on left table (join_pairs w on) (key_first table) i) (width_of_tree left)))

pub loop-told : (on : Condition) (left : Tree) (table : StoredTable)
    → is_some (loop_found on left table) ≡ is_some (loop_at on left (Tree-F.Scan table))
loop-told on left table = sym (mapped-some (looped_by on left table) (loop_found on left table))
    ∙ ap (λ (found : Option Tree). is_some found) (loop-is on left table)

-- ---- Q15

abbrev pub ordered_rows : List Expression → StoredTable → List ℕ → Tree
ordered_rows items table columns = t.Project items (t.Range table columns None None)

pub order-is : (keys : List OrderKey) (items : List Expression) (table : StoredTable) (indexes : List (List ℕ))
    → option_map (ordered_rows items table) (first_found (order_by keys items) indexes)
    ≡ first_found (ordered_by keys items table) indexes
order-is keys items table indexes = mapped-first (ordered_rows items table) (order_by keys items) indexes
    ∙ (λ i. first_found (λ columns. mapped-given (ordered_rows items table)
    (keys_begin keys (handed_on (map column_of items) (ascending columns))) (Some columns) i) indexes)

pub order-told : (keys : List OrderKey) (items : List Expression) (table : StoredTable) (indexes : List (List ℕ))
    → is_some (first_found (order_by keys items) indexes) ≡ is_some (first_found (ordered_by keys items table) indexes)
order-told keys items table indexes =
    sym (mapped-some (ordered_rows items table) (first_found (order_by keys items) indexes))
    ∙ ap (λ (found : Option Tree). is_some found) (order-is keys items table indexes)
