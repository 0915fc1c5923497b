-- A look-up by the key, and the whole condition on what it finds, give the rows of a scan.
use Rattle.std.proofs.Common.{◌≡◌, refl, ap, sym, ◌∙◌, Bool, true, false, ℕ, List, [], ◌∷◌, Some, Ok, Err, rules}
use Rattle.std.specs.Prelude.{filter}
use Rattle.sqlval.specs.declared.truth.Truth.{Truth}
use Rattle.sqlval.specs.declared.truth.Truth.TheVariants.{True, False, Unknown}
use Rattle.sqlval.specs.declared.value.Value.{Value}
use Rattle.sqlval.specs.Matching.{matches, rows_matching}
use Rattle.sqlval.specs.Value.{Row}
use Rattle.denote.specs.Condition.{ConditionMeaning}
use Rattle.denote.specs.Evaluation.{Env, Evaluation, ◌>>=◌}
use Rattle.denote.specs.From.{kept, kept_row, only_true}
use Rattle.denote.specs.Meaning.{Tables}
use Rattle.denote.specs.Outcome.{Outcome, before, through}
use Rattle.algebra.specs.declared.tree.Condition.{Condition}
use Rattle.algebra.specs.declared.tree.StoredTable.{StoredTable}
use Rattle.algebra.specs.declared.tree.Tree.{Tree, the_lemmas}
use Rattle.algebra.specs.declared.tree.Tree.TheVariants as tree
use Rattle.algebra.specs.Meaning.{truth_by, tree_by, value_by, function_by}
use Rattle.algebra.specs.Raising.{NeverRaises}
use Rattle.algebra.specs.TreeOutcome.{outcome_step, tree_outcome, tree_truth}
use Rattle.key_lookups.specs.Sought.{key_sought}
use Rattle.key_lookups.proofs.Keys.{matching}

-- ---- rows that fail a test at which a condition is never true

module _ (truth : ConditionMeaning) (outer : Env) (test : Row → Bool) (quiet : NeverRaises truth) (only : (row : Row) → truth (row ∷ outer) ≡ Ok True → test row ≡ true) where
  none_kept : (x : Evaluation Truth) (row : Row) (rest : Outcome) (t : Truth) → x ≡ Ok t → (x ≡ Ok True → test row ≡ true) → test row ≡ false → before (x >>= (λ t. Ok (only_true t row))) rest ≡ rest
  none_kept (Ok True) row rest t e h fails = let passes = h refl in absurd (cc (passes, fails))
  none_kept (Ok False) row rest t e h fails = refl
  none_kept (Ok Unknown) row rest t e h fails = refl
  none_kept (Err faults) row rest t e h fails = absurd (cc (e))

  pub kept-same : (rows : List Row) → kept truth outer (filter test rows) ≡ kept truth outer rows
  kept-same [] = refl
  kept-same (row ∷ rows) = at (test row) refl (kept-same rows)
    where
      at : (b : Bool) → test row ≡ b → kept truth outer (filter test rows) ≡ kept truth outer rows → kept truth outer (filter test (row ∷ rows)) ≡ kept truth outer (row ∷ rows)
      at true is rest = rw is (ap (λ o. before (kept_row truth outer row) o) rest)
      at false is rest =
          rw is (rest ∙ sym (let value = quiet (row ∷ outer) in none_kept (truth (row ∷ outer)) row (kept truth outer rows) value.0 value.1 (only row) is))

-- ---- the nodes

module _ (tables : Tables) where
  filter_is : (condition : Condition) (rows : Tree) (env : Env) → tree_outcome tables (tree.Filter condition rows) env ≡ through (tree_outcome tables rows env) (kept (tree_truth tables condition) env)
  unfolding truth_by value_by function_by tree_by
  filter_is condition rows env = search (rules, the_lemmas)

  scan_is : (table : StoredTable) (env : Env) → tree_outcome tables (tree.Scan table) env ≡ record { rows = tables table.name; faults = [] }
  unfolding truth_by value_by function_by tree_by
  scan_is table env = search (rules, the_lemmas)

  seek_is : (table : StoredTable) (columns : List ℕ) (key : List Value) (env : Env) → tree_outcome tables (tree.Seek table columns key) env ≡ record { rows = rows_matching columns key (tables table.name); faults = [] }
  unfolding truth_by value_by function_by tree_by
  seek_is table columns key env = search (rules, the_lemmas)

  through-same : (one other : List Row) (made : List Row → Outcome) → made one ≡ made other → through (record { rows = one; faults = [] }) made ≡ through (record { rows = other; faults = [] }) made
  unfolding through
  through-same one other made e = λ i. record { rows = (e i).rows; faults = (e i).faults }

  pub found_alike : (condition : Condition) (columns : List ℕ) (key : List Value) (table : StoredTable) (outer : Env) → key_sought columns condition ≡ Some key → NeverRaises (tree_truth tables condition)
      → tree_outcome tables (tree.Filter condition (tree.Seek table columns key)) outer ≡ tree_outcome tables (tree.Filter condition (tree.Scan table)) outer
  found_alike condition columns key table outer e quiet =
      filter_is condition (tree.Seek table columns key) outer
      ∙ ap (λ o. through o (kept (tree_truth tables condition) outer)) (seek_is table columns key outer)
      ∙ through-same (rows_matching columns key (tables table.name)) (tables table.name) (kept (tree_truth tables condition) outer)
      (kept-same (tree_truth tables condition) outer (matches columns key) quiet (λ row h. matching tables condition columns key row outer e h) (tables table.name))
      ∙ ap (λ o. through o (kept (tree_truth tables condition) outer)) (sym (scan_is table outer))
      ∙ sym (filter_is condition (tree.Scan table) outer)
