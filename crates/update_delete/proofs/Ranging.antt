-- What an index finds within the bounds of a condition are candidates.
use Rattle.std.proofs.Common.{◌≡◌, ◌∙◌, refl, sym, ap, subst, ℕ, Bool, true, false, ◌&&◌, List, [], ◌∷◌, map, Option, Some, None, Result, Ok, Err, IfOk, arith}
use Rattle.std.specs.Prelude.{filter}
use Rattle.std.specs.FinMap.{get}
use Rattle.std.specs.declared.ops.Bound.{Bound as Limit}
use Rattle.refusals.specs.declared.refusal.Refusal.{Refusal}
use Rattle.sqlval.specs.declared.schema.Schema.{Schema}
use Rattle.sqlval.specs.declared.truth.Truth.TheVariants.{True}
use Rattle.sqlval.specs.declared.value.Value.{Value}
use Rattle.sqlval.specs.Matching.{key_of}
use Rattle.sqlval.specs.Value.{Row}
use Rattle.algebra.specs.declared.tree.Bound.{Bound}
use Rattle.algebra.specs.declared.tree.Condition.{Condition}
use Rattle.algebra.specs.Bounds.{above, below, meets, is_within}
use Rattle.algebra.specs.Listing.{truth_listing}
use Rattle.algebra.specs.Raising.{NeverRaises}
use Rattle.algebra.specs.TreeOutcome.{tree_truth}
use Rattle.algebra_laws.proofs.Trees.{conditions-show}
use Rattle.denote.specs.Database.{Name, Table}
use Rattle.denote.specs.Evaluation.{Env}
use Rattle.denote.specs.Expression.{cell}
use Rattle.denote.specs.Meaning.{Tables}
use Rattle.denote.specs.SchemaOf.{IsSchemaOf, index_of}
use Rattle.store.specs.declared.rows.Numbered.{Numbered}
use Rattle.store.specs.Contents.{Entry, StoredTable, Contents, Rises, database_of}
use Rattle.store.specs.Indexes.{by_columns, columns_at, entries_of, first_within, in_order, is_above, is_below, ranged}
use Rattle.store.specs.Sorted.{sorted_by}
use Rattle.store.specs.View.{AreEntries}
use Rattle.constraints.proofs.Declared.{table_there}
use Rattle.constraints.proofs.Held.{held_as}
use Rattle.range_lookups.specs.declared.sought.Limits.{Limits}
use Rattle.range_lookups.specs.Sought.{limits_sought}
use Rattle.update_delete.specs.declared.ranges.RangeLookUp.{RangeLookUp}
use Rattle.update_delete.specs.Candidates.{AreCandidates}
use Rattle.update_delete.specs.Given.{touched_given}
use Rattle.update_delete.specs.Ranges.{AsksRangeIn}
use Rattle.update_delete.proofs.Selecting.{not_true, index_over}

-- ---- the law of ranges

abbrev pub Calm : Type 0
Calm = (tables : Tables) (both : Bool) (condition : Condition) (columns : List ℕ) (limits : Limits)
    → limits_sought both columns condition ≡ Some limits → NeverRaises (tree_truth tables condition)

abbrev pub Within : Type 0
Within = (tables : Tables) (both : Bool) (condition : Condition) (columns : List ℕ) (limits : Limits) (row : Row)
    (outer : Env) → limits_sought both columns condition ≡ Some limits
    → tree_truth tables condition (row ∷ outer) ≡ Ok True → is_within columns limits.low limits.high row ≡ true

-- a row beyond the bounds is not touched
beyond : Calm → Within → (both : Bool) (condition : Condition) (columns : List ℕ) (limits : Limits)
    → limits_sought both columns condition ≡ Some limits → (tables : Tables) (row : Row)
    → is_within columns limits.low limits.high row ≡ false → touched_given tables (Some condition) row ≡ Ok false
beyond calm within both condition columns limits asked tables row none =
    let value = calm tables both condition columns limits asked (row ∷ []) in
    not_true (truth_listing tables condition (row ∷ [])) (tree_truth tables condition (row ∷ [])) value.0
    (is_within columns limits.low limits.high row) (conditions-show tables condition (row ∷ [])) value.1
    (λ h. within tables both condition columns limits row [] asked h) none

-- the entries within bounds of the first of these columns
abbrev pub entries_within : List ℕ → Limits → List Entry → List Entry
entries_within columns limits es = filter (λ (e : Entry). is_within columns limits.low limits.high e.1) es

-- what is found within the bounds
found_within : Calm → Within → (c : Contents) (schema : Schema) (name : Name) (tree : Option Condition)
    (look_up : RangeLookUp) (found : Numbered) → IsSchemaOf schema (database_of c)
    → AsksRangeIn schema name tree look_up
    → ((columns : List ℕ) → columns_at (get c name) look_up.place ≡ Some columns
    → AreEntries found (entries_within columns look_up.limits (entries_of (get c name))))
    → AreCandidates (get c name) tree found
found_within calm within c schema name tree look_up found of asked are =
    let t = table_there schema (database_of c) name asked.table of asked.inside asked.named in
    let held = held_as c name t.0 t.1 in
    let declares : map index_of asked.table.indexes ≡ held.0.indexes =
    t.2.indexes ∙ ap (λ (u : Table). u.indexes) (sym held.2) in
    let columns : columns_at (get c name) look_up.place ≡ Some asked.asks.columns =
    ap (λ o. columns_at o look_up.place) held.1
    ∙ index_over asked.asks.columns asked.table.indexes held.0 look_up.place asked.asks.over declares in
    record {
      test = is_within asked.asks.columns look_up.limits.low look_up.limits.high;
      others = λ tables row none.
          subst (λ (o : Option Condition). touched_given tables o row ≡ Ok false) (sym asked.is)
          (beyond calm within asked.asks.both asked.condition asked.asks.columns look_up.limits asked.asks.sought
          tables row none);
      are = are asked.asks.columns columns;
    }

pub range_candidates : Calm → Within → (c : Contents) (schema : Schema) (name : Name) (tree : Option Condition)
    (look_up : RangeLookUp) (result : Result Numbered Refusal) → IsSchemaOf schema (database_of c)
    → AsksRangeIn schema name tree look_up
    → ((columns : List ℕ) → columns_at (get c name) look_up.place ≡ Some columns
    → IfOk result (λ found. AreEntries found (entries_within columns look_up.limits (entries_of (get c name)))))
    → IfOk result (λ found. AreCandidates (get c name) tree found)
range_candidates calm within c schema name tree look_up (Ok found) of asked are =
    found_within calm within c schema name tree look_up found of asked are
range_candidates calm within c schema name tree look_up (Err refusal) of asked are = tt

-- ---- the order of the index

-- what an index gives within bounds, as entries that were sorted and then tested
pub ranged_sorted : (table : Option StoredTable) (place : ℕ) (least most : Limit Value) (low high : Option Bound)
    (columns : List ℕ) (found : Numbered) → columns_at table place ≡ Some columns
    → ((x : Value) → is_above least x ≡ meets above x low) → ((x : Value) → is_below most x ≡ meets below x high)
    → AreEntries found (ranged table place least most)
    → AreEntries found (filter (λ (e : Entry). is_within columns low high e.1)
    (sorted_by (by_columns columns) (entries_of table)))
ranged_sorted table place least most low high columns found over lower upper are =
    subst (λ (es : List Entry). AreEntries found es)
    (ap (λ (o : Option (List ℕ)). first_within least most o (in_order o (entries_of table))) over
    ∙ (λ i. filter (λ (e : Entry). lower (cell (key_of columns e.1) 0) i && upper (cell (key_of columns e.1) 0) i)
    (sorted_by (by_columns columns) (entries_of table))))
    are

pub rises_there : (table : Option StoredTable) → ((t : StoredTable) → table ≡ Some t → Rises t.entries)
    → Rises (entries_of table)
rises_there None h = λ k d more. absurd (omega (arith, more))
rises_there (Some t) h = h t refl
