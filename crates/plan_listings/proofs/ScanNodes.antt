-- The tables that a plan scans, node by node.
use Rattle.std.proofs.Common.{◌≡◌, refl, sym, ap, ◌∙◌, subst, ℕ, ◌+◌, Bool, true, ◌&&◌, List, [], ◌∷◌, ◌++◌, length, map, Contains, Option, Some, None, Result, Ok, Err, IfOk, IfSome, rules, arith, inl, inr, ◌⊎◌}
use Rattle.std.specs.List.{sum_by}
use Rattle.std.proofs.lemmas.List.Sums.{sum_by-append, sum_by-cons}
use Rattle.std.proofs.lemmas.List.Elements.{Contains-append_left, Contains-append_right, Contains-append_cases}
use Rattle.typing.specs.declared.typed.OrderKey.{OrderKey}
use Rattle.typing.specs.declared.typed.SetOperation.{SetOperation}
use Rattle.algebra.specs.declared.tree.Condition.{Condition}
use Rattle.algebra.specs.declared.tree.Expression.{Expression, the_lemmas}
use Rattle.algebra.specs.declared.tree.SetFunction.{SetFunction}
use Rattle.algebra.specs.declared.tree.StoredTable.{StoredTable}
use Rattle.algebra.specs.declared.tree.Tree.{Tree}
use Rattle.algebra.specs.declared.tree.Tree.TheVariants as t
use Rattle.places.specs.Indexes.{sought_in}
use Rattle.places.specs.Left.{Entries}
use Rattle.places.proofs.IndexNodes.{sought_distinct, sought_filter, sought_group, sought_half, sought_hash, sought_inner, sought_left, sought_member, sought_opposite, sought_product, sought_project, sought_scan, sought_set, sought_sort}
use Rattle.streams.specs.Reads.{to_begin}
use Rattle.plan_listings.specs.Loops.{loops_by_no_index}
use Rattle.plan_listings.specs.Scans.{IsMadeOf, IsOver, Scans, ScansTables}
use Rattle.streams.proofs.ReadNodes.{begin_distinct, begin_filter, begin_group, begin_hash, begin_member, begin_project, begin_scan, begin_set, begin_sort}
use Rattle.plan_listings.proofs.LoopNodes.{begin_half, begin_inner, begin_left, begin_opposite, begin_product, looped_distinct, looped_filter, looped_group, looped_half, looped_hash, looped_inner, looped_left, looped_member, looped_opposite, looped_product, looped_project, looped_scan, looped_set, looped_sort}
use Rattle.tree_tables.specs.TablesRead.{Names, all_names, tables_in_condition, tables_in_expression, tables_in_function, tables_in_tree}
use Rattle.tree_tables.proofs.Nodes.{tree_distinct, tree_filter, tree_group, tree_half, tree_hash_join, tree_inner, tree_left, tree_member, tree_opposite, tree_product, tree_project, tree_scan, tree_set, tree_sort}

named_same : (xs ys : Names) → ys ≡ xs → (name : List ℕ) → Contains xs name → Contains ys name
named_same xs ys e name h = subst (λ (zs : Names). Contains zs name) (sym e) h

named_right : (part xs ys : Names) → ys ≡ part ++ xs → (name : List ℕ) → Contains xs name → Contains ys name
named_right part xs ys e name h = subst (λ (zs : Names). Contains zs name) (sym e) (Contains-append_right part xs name h)

pub over_filter : (condition : Condition) (rows : Tree) → IsOver (t.Filter condition rows) rows
over_filter condition rows = record {
  once = looped_filter condition rows;
  unsought = sought_filter condition rows;
  counts = λ entries. begin_filter entries condition rows;
  named = named_right (tables_in_condition condition) _ _ (tree_filter condition rows);
}

pub over_project : (items : List Expression) (rows : Tree) → IsOver (t.Project items rows) rows
over_project items rows = record {
  once = looped_project items rows;
  unsought = sought_project items rows;
  counts = λ entries. begin_project entries items rows;
  named = named_right (all_names (map tables_in_expression items)) _ _ (tree_project items rows);
}

pub over_group : (columns : Option (List ℕ)) (functions : List SetFunction) (rows : Tree) → IsOver (t.Group columns functions rows) rows
over_group columns functions rows = record {
  once = looped_group columns functions rows;
  unsought = sought_group columns functions rows;
  counts = λ entries. begin_group entries columns functions rows;
  named = named_right (all_names (map tables_in_function functions)) _ _ (tree_group columns functions rows);
}

pub over_distinct : (rows : Tree) → IsOver (t.Distinct rows) rows
over_distinct rows = record {
  once = looped_distinct rows;
  unsought = sought_distinct rows;
  counts = λ entries. begin_distinct entries rows;
  named = named_same _ _ (tree_distinct rows);
}

pub over_sort : (keys : List OrderKey) (rows : Tree) → IsOver (t.Sort keys rows) rows
over_sort keys rows = record {
  once = looped_sort keys rows;
  unsought = sought_sort keys rows;
  counts = λ entries. begin_sort entries keys rows;
  named = named_same _ _ (tree_sort keys rows);
}

pub made_set : (op : SetOperation) (l r : Tree) → IsMadeOf (t.Set op l r) l r
made_set op l r = record {
  once = looped_set op l r;
  unsought = sought_set op l r;
  counts = λ entries. begin_set entries op l r;
  left_named = λ name h. subst (λ (zs : Names). Contains zs name) (sym (tree_set op l r)) (Contains-append_left (tables_in_tree l) (tables_in_tree r) name h);
  right_named = λ name h. subst (λ (zs : Names). Contains zs name) (sym (tree_set op l r)) (Contains-append_right (tables_in_tree l) (tables_in_tree r) name h);
}

-- the names of two trees, behind those of what stands between them
named_first : (part xs ys zs : Names) → zs ≡ part ++ (xs ++ ys) → (name : List ℕ) → Contains xs name → Contains zs name
named_first part xs ys zs e name h = named_right part (xs ++ ys) zs e name (Contains-append_left xs ys name h)

named_second : (part xs ys zs : Names) → zs ≡ part ++ (xs ++ ys) → (name : List ℕ) → Contains ys name → Contains zs name
named_second part xs ys zs e name h = named_right part (xs ++ ys) zs e name (Contains-append_right xs ys name h)

pub made_product : (l r : Tree) → IsMadeOf (t.Product l r) l r
made_product l r = record {
  once = looped_product l r;
  unsought = sought_product l r;
  counts = λ entries. begin_product entries l r;
  left_named = named_first [] (tables_in_tree l) (tables_in_tree r) _ (tree_product l r);
  right_named = named_second [] (tables_in_tree l) (tables_in_tree r) _ (tree_product l r);
}

pub made_inner : (on : Condition) (l r : Tree) → IsMadeOf (t.Inner on l r) l r
made_inner on l r = record {
  once = looped_inner on l r;
  unsought = sought_inner on l r;
  counts = λ entries. begin_inner entries on l r;
  left_named = named_first (tables_in_condition on) (tables_in_tree l) (tables_in_tree r) _ (tree_inner on l r);
  right_named = named_second (tables_in_condition on) (tables_in_tree l) (tables_in_tree r) _ (tree_inner on l r);
}

pub made_left : (on : Condition) (l r : Tree) (width : ℕ) → IsMadeOf (t.Left on l r width) l r
made_left on l r width = record {
  once = looped_left on l r width;
  unsought = sought_left on l r width;
  counts = λ entries. begin_left entries on l r width;
  left_named = named_first (tables_in_condition on) (tables_in_tree l) (tables_in_tree r) _ (tree_left on l r width);
  right_named = named_second (tables_in_condition on) (tables_in_tree l) (tables_in_tree r) _ (tree_left on l r width);
}

pub made_half : (on : Condition) (l r : Tree) → IsMadeOf (t.Half on l r) l r
made_half on l r = record {
  once = looped_half on l r;
  unsought = sought_half on l r;
  counts = λ entries. begin_half entries on l r;
  left_named = named_first (tables_in_condition on) (tables_in_tree l) (tables_in_tree r) _ (tree_half on l r);
  right_named = named_second (tables_in_condition on) (tables_in_tree l) (tables_in_tree r) _ (tree_half on l r);
}

pub made_opposite : (on : Condition) (l r : Tree) → IsMadeOf (t.OppositeHalf on l r) l r
made_opposite on l r = record {
  once = looped_opposite on l r;
  unsought = sought_opposite on l r;
  counts = λ entries. begin_opposite entries on l r;
  left_named = named_first (tables_in_condition on) (tables_in_tree l) (tables_in_tree r) _ (tree_opposite on l r);
  right_named = named_second (tables_in_condition on) (tables_in_tree l) (tables_in_tree r) _ (tree_opposite on l r);
}

pub made_hash : (on : Condition) (l r : Tree) (places columns : List ℕ) → IsMadeOf (t.HashJoin on l r places columns) l r
made_hash on l r places columns = record {
  once = looped_hash on l r places columns;
  unsought = sought_hash on l r places columns;
  counts = λ entries. begin_hash entries on l r places columns;
  left_named = named_first (tables_in_condition on) (tables_in_tree l) (tables_in_tree r) _ (tree_hash_join on l r places columns);
  right_named = named_second (tables_in_condition on) (tables_in_tree l) (tables_in_tree r) _ (tree_hash_join on l r places columns);
}

pub made_member : (operand : Expression) (is_negated : Bool) (members rows : Tree) → IsMadeOf (t.Member operand is_negated members rows) members rows
made_member operand is_negated members rows = record {
  once = looped_member operand is_negated members rows;
  unsought = sought_member operand is_negated members rows;
  counts = λ entries. begin_member entries operand is_negated members rows;
  left_named = named_first (tables_in_expression operand) (tables_in_tree members) (tables_in_tree rows) _ (tree_member operand is_negated members rows);
  right_named = named_second (tables_in_expression operand) (tables_in_tree members) (tables_in_tree rows) _ (tree_member operand is_negated members rows);
}

-- ---- what they scan

pub scans_one : (table : StoredTable) (names : Names) → names ≡ table.name ∷ [] → ScansTables (t.Scan table) names
scans_one table names e = record {
  once = looped_scan table;
  unsought = sought_scan table;
  counts = λ entries. begin_scan entries table ∙ one (λ name. length (entries name)) names e;
  named = λ name h. subst (λ (zs : Names). Contains zs name) (e ∙ sym (tree_scan table)) h;
}
  where
    one : (f : List ℕ → ℕ) (zs : Names) → zs ≡ table.name ∷ [] → f table.name ≡ sum_by f zs
    one f zs is = omega (arith, sum_by-cons f table.name []) ∙ ap (sum_by f) (sym is)

pub scans_over : (tree below : Tree) (found : Option Names) → IsOver tree below → Scans below found → Scans tree found
scans_over tree below None over h = tt
scans_over tree below (Some names) over h = record {
  once = over.once ∙ h.once;
  unsought = over.unsought ∙ h.unsought;
  counts = λ entries. over.counts entries ∙ h.counts entries;
  named = λ name among. over.named name (h.named name among);
}

pub scans_both : (tree l r : Tree) (names others : Names) → IsMadeOf tree l r → ScansTables l names → ScansTables r others
    → ScansTables tree (names ++ others)
scans_both tree l r names others made h k = record {
  once = made.once ∙ ap (λ b. b && loops_by_no_index r) h.once ∙ k.once;
  unsought = made.unsought ∙ ap (λ (ts : List StoredTable). ts ++ sought_in r) h.unsought ∙ k.unsought;
  counts = λ entries. made.counts entries ∙ ap (λ n. n + to_begin entries r) (h.counts entries)
      ∙ ap (λ n. sum_by (λ name. length (entries name)) names + n) (k.counts entries)
      ∙ sym (sum_by-append (λ name. length (entries name)) names others);
  named = λ name among. go name (Contains-append_cases names others name among);
}
  where
    go : (name : List ℕ) → Contains names name ⊎ Contains others name → Contains (tables_in_tree tree) name
    go name (inl here) = made.left_named name (h.named name here)
    go name (inr there) = made.right_named name (k.named name there)

pub scans_made : {E : Type 0} (tree below : Tree) (made : Result (Option Names) E) → IsOver tree below → IfOk made (Scans below)
    → IfOk made (Scans tree)
scans_made tree below (Ok found) over h = scans_over tree below found over h
scans_made tree below (Err error) over h = tt

pub scans_all : {E : Type 0} (tree l r : Tree) (names others : Names) (made : Result (Option Names) E) → IsMadeOf tree l r
    → ScansTables l names → ScansTables r others → IfOk made (λ found. found ≡ Some (names ++ others)) → IfOk made (Scans tree)
scans_all tree l r names others (Ok found) made h k e = subst (Scans tree) (sym e) (scans_both tree l r names others made h k)
scans_all tree l r names others (Err error) made h k e = tt

pub ruleset scan_nodes = (over_filter, over_project, over_group, over_distinct, over_sort, made_set, made_product, made_inner, made_left, made_half, made_opposite, made_hash, made_member)
