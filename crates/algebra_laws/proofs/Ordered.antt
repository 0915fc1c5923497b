-- With ORDER BY a query's tree has what the query denotes.
use Rattle.std.proofs.Common.{◌≡◌, refl, ◌∙◌, ap, ℕ, List, [], ◌∷◌}
use Rattle.typing.specs.declared.typed.OrderKey.{OrderKey}
use Rattle.typing.specs.declared.typed.OrderedQuery.{OrderedQuery}
use Rattle.typing.specs.declared.typed.Query.{Query}
use Rattle.algebra.specs.declared.tree.StoredTable.{StoredTable}
use Rattle.algebra.specs.declared.tree.Tree.{Tree}
use Rattle.algebra.specs.OrderKeys.{order_keys, ordered_outcome}
use Rattle.algebra.specs.TreeOutcome.{outcome_step, tree_outcome}
use Rattle.algebra.proofs.Nodes.{tree_sort}
use Rattle.algebra.proofs.KeyNodes.{keys_sort}
use Rattle.denote.specs.Evaluation.{Env}
use Rattle.denote.specs.Database.{Database, rows_in}
use Rattle.denote.specs.Meaning.{Tables, query_outcome}
use Rattle.denote.specs.Outcome.{Outcome, OrderedOutcome}
use Rattle.denote.specs.Query.{denotes}
use Rattle.algebra.specs.Translated.{sorted_tree, tree_of_query, tree_of_ordered}
use Rattle.algebra_laws.proofs.Kept.{queries-kept}
use Rattle.algebra_laws.proofs.NoKeys.{queries-no_keys}

-- an outcome and keys that are equal to others
with_keys : (o p : Outcome) (keys others : List OrderKey) → o ≡ p → keys ≡ others
    → let a : OrderedOutcome = record { unordered = o; keys = keys } in let b : OrderedOutcome = record { unordered = p; keys = others } in a ≡ b
with_keys o p keys others e f = λ i. record { unordered = e i; keys = f i }

module _ (described : List ℕ → StoredTable) (named : (name : List ℕ) → (described name).name ≡ name) where
  pub query-kept : (tables : Tables) (query : Query) (env : Env) → tree_outcome tables (tree_of_query described query) env ≡ query_outcome tables query env
  query-kept tables query env = ap (λ m. m env) (queries-kept described named tables query)

  sorted-kept : (tables : Tables) (query : Query) (keys : List OrderKey)
      → ordered_outcome tables (sorted_tree keys (tree_of_query described query)) ≡ record { unordered = query_outcome tables query []; keys = keys }
  sorted-kept tables query [] = with_keys _ _ _ _ (query-kept tables query []) (queries-no_keys described query)
  sorted-kept tables query (key ∷ keys) =
      with_keys _ _ _ _ (ap (λ m. m []) (tree_sort (outcome_step tables) (key ∷ keys) (tree_of_query described query)) ∙ query-kept tables query [])
      (keys_sort (key ∷ keys) (tree_of_query described query))

  pub ordered-kept : (db : Database) (ordered : OrderedQuery) → ordered_outcome (rows_in db) (tree_of_ordered described ordered) ≡ denotes db ordered
  ordered-kept db ordered = sorted-kept (rows_in db) ordered.query ordered.keys
