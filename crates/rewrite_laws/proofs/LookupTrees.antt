-- Rules of stored tables as laws of trees: Q8, Q9 and Q15.
use Rattle.algebra.specs.Bounds.{is_within, rows_within}
use Rattle.algebra.specs.OrderKeys.{handed_on, column_of}
use Rattle.algebra.specs.Raising.{NeverRaises}
use Rattle.algebra.specs.Sorted.{ascending}
use Rattle.algebra.specs.TreeOutcome.{outcome_step, tree_truth, tree_value}
use Rattle.algebra.specs.declared.tree.Bound.{Bound}
use Rattle.algebra.specs.declared.tree.Condition.{Condition}
use Rattle.algebra.specs.declared.tree.Expression.{Expression}
use Rattle.algebra.specs.declared.tree.StoredTable.{StoredTable}
use Rattle.denote.specs.Evaluation.{Env}
use Rattle.denote.specs.From.{kept_row}
use Rattle.denote.specs.Meaning.{Tables}
use Rattle.denote.specs.Select.{values_of}
use Rattle.rewrite_laws.proofs.Sides.{same-of}
use Rattle.rewrite_laws.proofs.Sifted.{through-narrowed}
use Rattle.rules.specs.Same.{Begins, Keeps}
use Rattle.rules.specs.Stored.{all_stored, stored_in_condition, stored_in_expression}
use Rattle.same_laws.proofs.Composed.{among-refl, begins-nothing}
use Rattle.sqlval.specs.Matching.{matches}
use Rattle.sqlval.specs.Value.{Row}
use Rattle.sqlval.specs.declared.value.Value.{Value}
use Rattle.std.proofs.Common.{◌≡◌, refl, ap, ℕ, Bool, List, [], ◌∷◌, ◌++◌, map, Option, Ok, false, None}
use Rattle.typing.specs.declared.typed.OrderKey.{OrderKey}
use Rattle.algebra.proofs.KeyNodes as keys
use Rattle.rules.proofs.StoredNodes as known
use Rattle.algebra.proofs.Nodes as means
use Rattle.algebra.specs.declared.tree.Tree.TheVariants as t

-- ---- Q8, Q9: what is not looked up makes the filter false

abbrev pub NarrowsTo : Condition → (Row → Bool) → Type 0
NarrowsTo condition test = (tables : Tables) (row : Row) (env : Env) → test row ≡ false
    → kept_row (tree_truth tables condition) env row ≡ Ok []

pub q8 : (condition : Condition) (table : StoredTable) (columns : List ℕ) (key : List Value)
    → NarrowsTo condition (matches columns key)
    → Keeps (t.Filter condition (t.Seek table columns key)) (t.Filter condition (t.Scan table))
q8 condition table columns key narrows = record {
  same = λ tables fits env. same-of _ _
      (rw (
        means.tree_filter (outcome_step tables) condition (t.Seek table columns key),
        means.tree_seek (outcome_step tables) table columns key,
        means.tree_filter (outcome_step tables) condition (t.Scan table),
        means.tree_scan (outcome_step tables) table,
      )
      (through-narrowed (tree_truth tables condition) env (matches columns key)
      (record { rows = tables table.name; faults = [] }) (λ row e. narrows tables row env e)));
  keys = rw (
    keys.keys_filter condition (t.Seek table columns key),
    keys.keys_seek table columns key,
    keys.keys_filter condition (t.Scan table),
    keys.keys_scan table,
  ) (begins-nothing []);
  stored = rw (
    known.tree_filter condition (t.Seek table columns key),
    known.tree_seek table columns key,
    known.tree_filter condition (t.Scan table),
    known.tree_scan table,
  )
      (among-refl (stored_in_condition condition ++ table ∷ []));
}

pub q9 : (condition : Condition) (table : StoredTable) (columns : List ℕ) (low high : Option Bound)
    → NarrowsTo condition (is_within columns low high)
    → Keeps (t.Filter condition (t.Range table columns low high)) (t.Filter condition (t.Scan table))
q9 condition table columns low high narrows = record {
  same = λ tables fits env. same-of _ _
      (rw (
        means.tree_filter (outcome_step tables) condition (t.Range table columns low high),
        means.tree_range (outcome_step tables) table columns low high,
        means.tree_filter (outcome_step tables) condition (t.Scan table),
        means.tree_scan (outcome_step tables) table,
      )
      (through-narrowed (tree_truth tables condition) env (is_within columns low high)
      (record { rows = tables table.name; faults = [] }) (λ row e. narrows tables row env e)));
  keys = rw (
    keys.keys_filter condition (t.Range table columns low high),
    keys.keys_filter condition (t.Scan table),
    keys.keys_scan table,
  ) (begins-nothing _);
  stored = rw (
    known.tree_filter condition (t.Range table columns low high),
    known.tree_range table columns low high,
    known.tree_filter condition (t.Scan table),
    known.tree_scan table,
  )
      (among-refl (stored_in_condition condition ++ table ∷ []));
}

-- ---- Q15

all-rows : (columns : List ℕ) (rows : List Row) → rows_within columns None None rows ≡ rows
all-rows columns [] = refl
all-rows columns (row ∷ rows) = ap (λ rest. row ∷ rest) (all-rows columns rows)

pub q15 : (by : List OrderKey) (items : List Expression) (table : StoredTable) (columns : List ℕ)
    → Begins by (handed_on (map column_of items) (ascending columns))
    → Keeps (t.Project items (t.Range table columns None None)) (t.Sort by (t.Project items (t.Scan table)))
q15 by items table columns begins = record {
  same = λ tables fits env. same-of _ _
      (rw (
        means.tree_sort (outcome_step tables) by (t.Project items (t.Scan table)),
        means.tree_project (outcome_step tables) items (t.Range table columns None None),
        means.tree_range (outcome_step tables) table columns None None,
        means.tree_project (outcome_step tables) items
            (t.Scan table),
        means.tree_scan (outcome_step tables) table,
        all-rows columns (tables table.name),
      ) refl);
  keys = rw (
    keys.keys_sort by (t.Project items (t.Scan table)),
    keys.keys_project items (t.Range table columns None None),
    keys.keys_range table columns None None,
  ) begins;
  stored = rw (
    known.tree_sort by (t.Project items (t.Scan table)),
    known.tree_project items (t.Range table columns None None),
    known.tree_range table columns None None,
    known.tree_project items (t.Scan table),
    known.tree_scan table,
  )
      (among-refl (all_stored (map stored_in_expression items) ++ table ∷ []));
}

-- items that have a value in all rows
abbrev pub QuietItems : List Expression → Type 0
QuietItems items = (tables : Tables) → NeverRaises (values_of (map (tree_value tables) items))
