-- What a plan that is chosen for a query gives of it.
use Rattle.std.proofs.Common.{◌≡◌, refl, sym, ap, subst, ◌∙◌, ℕ, List, [], Option, Some, None, Result, Ok, Err, IfOk, IfErr}
use Rattle.refusals.specs.declared.refusal.Refusal.{Refusal}
use Rattle.sqlval.specs.declared.schema.Schema.{Schema}
use Rattle.sqlval.specs.declared.schema.Table as stored
use Rattle.sqlval.specs.Schema.{table_place}
use Rattle.sqlval.specs.Value.{Row}
use Rattle.typing.specs.declared.typed.OrderedQuery.{OrderedQuery}
use Rattle.algebra.specs.Described.{described_in, known_of, table_at}
use Rattle.algebra.specs.Listing.{reply_of, tree_listing}
use Rattle.algebra.specs.OrderKeys.{ordered_outcome}
use Rattle.algebra.specs.Translated.{tree_of_ordered}
use Rattle.algebra.specs.declared.tree.Tree.{Tree}
use Rattle.denote.specs.Answer.{Answers}
use Rattle.denote.specs.Database.{rows_in}
use Rattle.denote.specs.Outcome.{OrderedOutcome, Outcome}
use Rattle.denote.specs.Query.{denotes}
use Rattle.places.specs.Indexes.{HasIndexes}
use Rattle.rules.specs.Same.{AreAmong, Fits, IsSameTree, Keeps}
use Rattle.rules.specs.Stored.{stored_in_tree}
use Rattle.store.specs.Contents.{Contents, database_of}
use Rattle.query_answers.specs.Answered.{RefusesAs, rows_found}
use Rattle.query_answers.specs.Planned.{IsPlanOf, StandsFor}
use Rattle.query_answers.specs.Refused.{MayRefuse}
use Rattle.query_answers.proofs.Answering.{fault_answers, rows_answer}

-- what a schema knows of a table has the table's name
pub described_named : (schema : Schema) (name : List ℕ) → (described_in schema name).name ≡ name
described_named schema name = by (table_at schema (table_place name schema))
  where
    by : (table : Option stored.Table) → (known_of name table).name ≡ name
    by None = refl
    by (Some table) = refl

-- ---- a plan that is chosen

module _ (contents : Contents) (schema : Schema) (query : OrderedQuery) (tree : Tree)
    (is : tree ≡ tree_of_ordered (described_in schema) query) where
  abbrev rows : List ℕ → List Row
  rows = rows_in (database_of contents)

  pub plan_found : {E : Type 0}
      → ordered_outcome rows (tree_of_ordered (described_in schema) query) ≡ denotes (database_of contents) query
      → ((plan : Tree) → AreAmong (stored_in_tree plan) (stored_in_tree (tree_of_ordered (described_in schema) query))
      → HasIndexes contents plan)
      → (result : Result Tree E) → IfOk result (λ plan. AreAmong (stored_in_tree plan) (stored_in_tree tree))
      → IfOk result (λ plan. Answers (reply_of (tree_listing rows plan [])) (ordered_outcome rows tree))
      → IfOk result (IsPlanOf contents query)
  plan_found means indexed (Ok plan) stored answers = record {
    answers = subst (λ (o : OrderedOutcome). Answers (reply_of (tree_listing rows plan [])) o)
        (ap (ordered_outcome rows) is ∙ means) answers;
    indexed = indexed plan (subst (λ (t : Tree). AreAmong (stored_in_tree plan) (stored_in_tree t)) is stored);
  }
  plan_found means indexed (Err error) stored answers = tt

-- beside the tree
pub stands_for : (contents : Contents) (schema : Schema) (query : OrderedQuery) (tree : Tree)
    → tree ≡ tree_of_ordered (described_in schema) query
    → Fits (rows_in (database_of contents)) (tree_of_ordered (described_in schema) query)
    → ((plan : Tree) → AreAmong (stored_in_tree plan) (stored_in_tree (tree_of_ordered (described_in schema) query))
    → HasIndexes contents plan)
    → (plan : Tree) → AreAmong (stored_in_tree plan) (stored_in_tree (tree_of_ordered (described_in schema) query))
    → Keeps plan (tree_of_ordered (described_in schema) query) → StandsFor contents plan tree
stands_for contents schema query tree is fits indexed plan stored kept = record {
  same = subst (λ (t : Tree). IsSameTree (rows_in (database_of contents)) plan t) (sym is)
      (record { outcome = kept.same (rows_in (database_of contents)) fits; keys = kept.keys });
  indexed = indexed plan stored;
}

-- ---- what it lists, as clauses of a call

module _ (c : Contents) (plan : Tree) (Sound : Type 0) (listed : Outcome)
    (is : Sound → HasIndexes c plan → listed ≡ tree_listing (rows_found c) plan []) where
  answers_by : Sound → (ordered : OrderedQuery) → IsPlanOf c ordered plan
      → Answers (reply_of listed) (denotes (database_of c) ordered)
  answers_by sound ordered p = subst (λ (o : Outcome). Answers (reply_of o) (denotes (database_of c) ordered))
      (sym (is sound p.indexed)) p.answers

  pub rows_by_plan : (result : Result (List Row) Refusal) → IfOk result (λ rows. reply_of listed ≡ Ok rows)
      → IfOk result (λ rows. Sound → (ordered : OrderedQuery) → IsPlanOf c ordered plan
      → Answers (Ok rows) (denotes (database_of c) ordered))
  rows_by_plan (Ok rows) shown = λ sound ordered p.
      rows_answer (reply_of listed) rows (denotes (database_of c) ordered) shown (answers_by sound ordered p)
  rows_by_plan (Err refusal) shown = tt

  pub refusal_by_plan : (result : Result (List Row) Refusal) → IfErr result (RefusesAs (reply_of listed))
      → IfErr result (λ refusal. Sound → (ordered : OrderedQuery) → IsPlanOf c ordered plan
      → MayRefuse (denotes (database_of c) ordered).unordered.faults refusal)
  refusal_by_plan (Ok rows) shown = tt
  refusal_by_plan (Err refusal) shown = λ sound ordered p.
      fault_answers (reply_of listed) refusal (denotes (database_of c) ordered) shown (answers_by sound ordered p)
