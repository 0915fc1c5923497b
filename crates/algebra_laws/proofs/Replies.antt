-- The reply of a listing answers the query whose tree it lists.
use Rattle.std.proofs.Common.{◌≡◌, refl, ap, sym, ◌∙◌, subst, ℕ, List, [], ◌∷◌, ◌++◌, append-nil, Result, Ok, Err}
use Rattle.std.specs.Prelude.{Contains, IsSorted}
use Rattle.sqlval.specs.Value.{Row}
use Rattle.typing.specs.declared.typed.OrderKey.{OrderKey}
use Rattle.typing.specs.declared.typed.OrderedQuery.{OrderedQuery}
use Rattle.algebra.specs.declared.tree.StoredTable.{StoredTable}
use Rattle.algebra.specs.declared.tree.Tree.{Tree}
use Rattle.algebra.specs.Listing.{end_by, unless_ended, listed_rows, whole_first, listing_step, tree_listing, reply_of}
use Rattle.algebra.specs.OrderKeys.{ordered_outcome}
use Rattle.algebra.specs.Sorted.{sorted}
use Rattle.algebra.specs.Translated.{sorted_tree, tree_of_query, tree_of_ordered}
use Rattle.algebra.specs.TreeOutcome.{tree_outcome}
use Rattle.algebra.proofs.Nodes.{tree_sort}
use Rattle.denote.specs.declared.fault.Fault.{Fault}
use Rattle.denote.specs.Answer.{by_keys, Answers}
use Rattle.denote.specs.Bag.{Permutes}
use Rattle.denote.specs.Database.{Database, rows_in}
use Rattle.denote.specs.Meaning.{Tables}
use Rattle.denote.specs.Outcome.{Outcome, OrderedOutcome}
use Rattle.denote.specs.Query.{denotes}
use Rattle.algebra_laws.specs.Shown.{Lists}
use Rattle.algebra_laws.proofs.Ordered.{ordered-kept}
use Rattle.algebra_laws.proofs.Queries.{begins}
use Rattle.algebra_laws.proofs.Sorting.{sorted-IsSorted, unsorted-IsSorted}
use Rattle.algebra_laws.proofs.Trees.{trees-list}

-- a list that is sorted where it is whole
answers : (l o : Outcome) (keys : List OrderKey) → Lists l o → IsSorted (by_keys keys) l.rows → Answers (reply_of l) (record { unordered = o; keys = keys })
answers l o keys h order = at l.faults refl
  where
    at : (faults : List Fault) → l.faults ≡ faults → Answers (reply_of l) (record { unordered = o; keys = keys })
    at [] e = let c = h.complete e in rw e (c.0, subst (λ (zs : List Row). Permutes o.rows zs) (ap (λ r. l.rows ++ r) c.1 ∙ append-nil l.rows) h.rows, order)
    at (fault ∷ faults) e = rw e (h.within fault (subst (λ (zs : List Fault). Contains zs fault) (sym e) (begins fault faults)))

-- what is taken whole and sorted
whole-sorted : (keys : List OrderKey) (l : Outcome) → IsSorted (by_keys keys) (whole_first l (λ rows. listed_rows (sorted keys rows))).rows
whole-sorted keys l = at l.faults
  where
    at : (faults : List Fault) → IsSorted (by_keys keys) (unless_ended faults (listed_rows (sorted keys l.rows))).rows
    at [] = sorted-IsSorted keys l.rows
    at (fault ∷ faults) = sorted-IsSorted keys []

tree-sorted : (tables : Tables) (keys : List OrderKey) (tree : Tree) → IsSorted (by_keys keys) (tree_listing tables (sorted_tree keys tree) []).rows
tree-sorted tables [] tree = unsorted-IsSorted (tree_listing tables tree []).rows
tree-sorted tables (key ∷ keys) tree =
    subst (λ (z : Outcome). IsSorted (by_keys (key ∷ keys)) z.rows) (sym (ap (λ m. m []) (tree_sort (listing_step tables) (key ∷ keys) tree))) (whole-sorted (key ∷ keys) (tree_listing tables tree []))

pub replies-answer : (described : List ℕ → StoredTable) → ((name : List ℕ) → (described name).name ≡ name) → (db : Database) (ordered : OrderedQuery)
    → Answers (reply_of (tree_listing (rows_in db) (tree_of_ordered described ordered) [])) (denotes db ordered)
replies-answer described named db ordered =
    let l = tree_listing (rows_in db) (tree_of_ordered described ordered) [] in
    let kept = ordered-kept described named db ordered in
    let same : tree_outcome (rows_in db) (tree_of_ordered described ordered) [] ≡ (denotes db ordered).unordered = ap (λ (o : OrderedOutcome). o.unordered) kept in
    answers l (denotes db ordered).unordered ordered.keys (subst (λ (z : Outcome). Lists l z) same (trees-list (rows_in db) (tree_of_ordered described ordered) []))
    (tree-sorted (rows_in db) ordered.keys (tree_of_query described ordered.query))
