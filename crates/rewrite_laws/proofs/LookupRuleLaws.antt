-- Q8 and Q9: what each makes of a node may stand for it.
use Rattle.algebra.specs.Bounds.{is_within}
use Rattle.algebra.specs.Raising.{NeverRaises}
use Rattle.algebra.specs.TreeOutcome.{tree_truth}
use Rattle.algebra.specs.declared.tree.Bound.{Bound}
use Rattle.algebra.specs.declared.tree.Condition.{Condition}
use Rattle.algebra.specs.declared.tree.StoredTable.{StoredTable}
use Rattle.algebra.specs.declared.tree.Tree.{Tree, Tree-F, roll-Tree, out-Tree}
use Rattle.denote.specs.Evaluation.{Env, Evaluation, ◌>>=◌}
use Rattle.denote.specs.Expression.{column}
use Rattle.denote.specs.From.{only_true}
use Rattle.denote.specs.Meaning.{Tables}
use Rattle.key_lookups.specs.Sought.{key_sought}
use Rattle.rewrite_laws.proofs.Conditions.{Denials, quiet-is}
use Rattle.rewrite_laws.proofs.Found.{some-is, given-found, map-found, or-found, first-is, scan-rolled, node-found, filter-found}
use Rattle.rewrite_laws.proofs.Literals.{low-holds, high-holds}
use Rattle.rewrite_laws.proofs.LookupTrees.{NarrowsTo, q8, q9}
use Rattle.rewrite_laws.proofs.Sides.{Quiet}
use Rattle.rewrite_laws.proofs.SubqueryTrees.{finds}
use Rattle.rewrite_laws.proofs.Truths.{conjuncts-true}
use Rattle.rules.specs.Bounds.{low_among, high_among}
use Rattle.rules.specs.Conjuncts.{conjuncts, quiet}
use Rattle.rules.specs.Indexes.{key_first}
use Rattle.rules.specs.LookupRules.{at_scan, at_table, seek_by, filter_to_seek, between_both, beyond_one, range_by, filter_to_range}
use Rattle.rules.specs.Nodes.{Node, given, first_found}
use Rattle.rules.specs.Same.{Keeps}
use Rattle.sqlval.specs.Matching.{matches}
use Rattle.sqlval.specs.Value.{Row}
use Rattle.sqlval.specs.declared.truth.Truth.{Truth}
use Rattle.sqlval.specs.declared.truth.Truth.TheVariants.{False, Unknown, True}
use Rattle.sqlval.specs.declared.value.Value.{Value}
use Rattle.std.proofs.Common.{◌≡◌, refl, sym, subst, ◌∙◌, ℕ, Bool, List, [], ◌∷◌, Option, Ok, true, ◌&&◌, Some, None, Err, inl, inr}
use Rattle.std.specs.Option.{option_or}
use Rattle.algebra.specs.declared.tree.Tree.TheVariants as t

table-found : (make : Condition → StoredTable → Option Tree) (old new : Tree) → at_table make old ≡ Some new
    → ((condition : Condition) (table : StoredTable) → make condition table ≡ Some new
    → Keeps new (t.Filter condition (t.Scan table))) → Keeps new old
table-found make old new e h = filter-found (Keeps new) new (λ condition rows. at_scan make condition (out-Tree rows))
    old e
    (λ condition rows f. node-found (λ rows. Keeps new (t.Filter condition rows)) new (at_scan make condition) rows f
    (at condition))
  where
    at : (condition : Condition) (d : Node Tree-F) → at_scan make condition d ≡ Some new
        → Keeps new (t.Filter condition (roll-Tree d))
    at condition (Tree-F.Scan table) f = subst (λ (z : Tree). Keeps new (t.Filter condition z)) (scan-rolled table)
        (h condition table f)
    at condition _ f = absurd (cc (f))

-- a quiet condition that is true at rows of a range alone keeps nothing else
narrows : (condition : Condition) (test : Row → Bool) → Quiet condition
    → ((tables : Tables) (row : Row) (outer : Env) → tree_truth tables condition (row ∷ outer) ≡ Ok True
    → test row ≡ true) → NarrowsTo condition test
narrows condition test calm finds tables row outer e =
    let v = calm tables (row ∷ outer) in at (tree_truth tables condition (row ∷ outer)) v.0 refl v.1
  where
    at : (v : Evaluation Truth) (truth : Truth) → tree_truth tables condition (row ∷ outer) ≡ v
        → tree_truth tables condition (row ∷ outer) ≡ Ok truth
        → (v >>= (λ truth. Ok (only_true truth row))) ≡ Ok []
    at (Ok True) truth is k = absurd (let f = sym e ∙ finds tables row outer is in cc (f))
    at (Ok False) truth is k = refl
    at (Ok Unknown) truth is k = refl
    at (Err faults) truth is k = absurd (let f = sym is ∙ k in cc (f))

-- ---- Q8

-- what the law of look-ups gives
pub record LookUps : Type 0 where
  pub calm : (tables : Tables) (condition : Condition) (columns : List ℕ) (key : List Value)
      → key_sought columns condition ≡ Some key → NeverRaises (tree_truth tables condition)
  pub matching : (tables : Tables) (condition : Condition) (columns : List ℕ) (key : List Value) (row : Row)
      (outer : Env) → key_sought columns condition ≡ Some key
      → tree_truth tables condition (row ∷ outer) ≡ Ok True → matches columns key row ≡ true

pub sought-keeps : (found : LookUps) (condition : Condition) (table : StoredTable) (columns : List ℕ) (key : List Value)
    → key_sought columns condition ≡ Some key
    → Keeps (t.Filter condition (t.Seek table columns key)) (t.Filter condition (t.Scan table))
sought-keeps found condition table columns key e =
    q8 condition table columns key (narrows condition (matches columns key)
    (λ tables. found.calm tables condition columns key e)
    (λ tables row outer h. found.matching tables condition columns key row outer e h))

pub filter_to_seek-keeps : (found : LookUps) (old new : Tree) → filter_to_seek old ≡ Some new → Keeps new old
filter_to_seek-keeps found old new e =
    table-found (λ condition table. first_found (seek_by condition table) (key_first table)) old new e
    (λ condition table f.
    let columns = first-is (seek_by condition table) (key_first table) new f in
    let key = map-found (λ key. t.Filter condition (t.Seek table columns.0 key)) (key_sought columns.0 condition) new
    columns.1 in
    subst (λ (z : Tree). Keeps z (t.Filter condition (t.Scan table))) key.2
    (sought-keeps found condition table columns.0 key.0 key.1))

-- ---- Q9

module _ (denied : Denials) where
  pub range-keeps : (condition : Condition) (table : StoredTable) (column : ℕ) (columns : List ℕ)
      (low high : Option Bound) → quiet condition ≡ true
      → low_among column (conjuncts condition) ≡ low → high_among column (conjuncts condition) ≡ high
      → Keeps (t.Filter condition (t.Range table (column ∷ columns) low high)) (t.Filter condition (t.Scan table))
  range-keeps condition table column columns low high calm l h = q9 condition table (column ∷ columns) low high
      (narrows condition (is_within (column ∷ columns) low high) (quiet-is denied condition calm)
      (λ tables row outer k.
      let hold = conjuncts-true tables condition (row ∷ outer) k in
      λ i. low-holds tables column row outer (conjuncts condition) hold low l i && high-holds tables column row outer
      (conjuncts condition) hold high h i))

  both-keep : (condition : Condition) (table : StoredTable) (columns : List ℕ) (new : Tree) → quiet condition ≡ true
      → range_by between_both condition table columns ≡ Some new → Keeps new (t.Filter condition (t.Scan table))
  both-keep condition table [] new calm e = absurd (cc (e))
  both-keep condition table (column ∷ columns) new calm e = at (low_among column (conjuncts condition))
      (high_among column (conjuncts condition)) refl refl e
    where
      at : (low high : Option Bound) → low_among column (conjuncts condition) ≡ low
          → high_among column (conjuncts condition) ≡ high
          → between_both condition table (column ∷ columns) low high ≡ Some new
          → Keeps new (t.Filter condition (t.Scan table))
      at (Some low) (Some high) l h f = subst (λ (z : Tree). Keeps z (t.Filter condition (t.Scan table))) (some-is f)
          (range-keeps condition table column columns (Some low) (Some high) calm l h)
      at (Some low) None l h f = absurd (cc (f))
      at None high l h f = absurd (cc (f))

  one-keeps : (condition : Condition) (table : StoredTable) (columns : List ℕ) (new : Tree) → quiet condition ≡ true
      → range_by beyond_one condition table columns ≡ Some new → Keeps new (t.Filter condition (t.Scan table))
  one-keeps condition table [] new calm e = absurd (cc (e))
  one-keeps condition table (column ∷ columns) new calm e = at (low_among column (conjuncts condition))
      (high_among column (conjuncts condition)) refl refl e
    where
      at : (low high : Option Bound) → low_among column (conjuncts condition) ≡ low
          → high_among column (conjuncts condition) ≡ high
          → beyond_one condition table (column ∷ columns) low high ≡ Some new
          → Keeps new (t.Filter condition (t.Scan table))
      at None None l h f = absurd (cc (f))
      at None (Some high) l h f = subst (λ (z : Tree). Keeps z (t.Filter condition (t.Scan table))) (some-is f)
          (range-keeps condition table column columns None (Some high) calm l h)
      at (Some low) None l h f = subst (λ (z : Tree). Keeps z (t.Filter condition (t.Scan table))) (some-is f)
          (range-keeps condition table column columns (Some low) None calm l h)
      at (Some low) (Some high) l h f = subst (λ (z : Tree). Keeps z (t.Filter condition (t.Scan table))) (some-is f)
          (range-keeps condition table column columns (Some low) (Some high) calm l h)

  pub filter_to_range-keeps : (old new : Tree) → filter_to_range old ≡ Some new → Keeps new old
  filter_to_range-keeps old new e = table-found (λ condition table. given (quiet condition)
      (option_or (first_found (range_by between_both condition table) (key_first table))
      (first_found (range_by beyond_one condition table) (key_first table)))) old new e
      (λ condition table f.
      let h = given-found (quiet condition)
      (option_or (first_found (range_by between_both condition table) (key_first table))
      (first_found (range_by beyond_one condition table) (key_first table))) new f in
      elim (or-found (first_found (range_by between_both condition table) (key_first table))
      (first_found (range_by beyond_one condition table) (key_first table)) new h.1) [
        | inl g ↦ let columns = first-is (range_by between_both condition table) (key_first table) new g in both-keep
            condition table columns.0 new h.0 columns.1
        | inr g ↦ let columns = first-is (range_by beyond_one condition table) (key_first table) new g in one-keeps
            condition table columns.0 new h.0 columns.1
      ])
