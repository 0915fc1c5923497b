-- What the listing of a tree of an expression shows.
use Rattle.std.proofs.Common.{◌≡◌, subst, ℕ, List}
use Rattle.typing.specs.declared.typed.Condition.{Condition}
use Rattle.typing.specs.declared.typed.Expression.{Expression}
use Rattle.algebra.specs.declared.tree.StoredTable.{StoredTable}
use Rattle.algebra.specs.Listing.{truth_listing, value_listing}
use Rattle.algebra.specs.Translated.{tree_of_condition, tree_of_expression}
use Rattle.denote.specs.Condition.{ConditionMeaning}
use Rattle.denote.specs.Expression.{ExpressionMeaning}
use Rattle.denote.specs.Meaning.{Tables, truth_at, value_of}
use Rattle.algebra_laws.specs.Shown.{ShowsAt}
use Rattle.algebra_laws.proofs.Kept.{conditions-kept, expressions-kept}
use Rattle.algebra_laws.proofs.Trees.{conditions-show, expressions-show}

module _ (described : List ℕ → StoredTable) (named : (name : List ℕ) → (described name).name ≡ name) (tables : Tables) where
  pub value-shown : (x : Expression) → ShowsAt (value_listing tables (tree_of_expression described x)) (value_of tables x)
  value-shown x = subst (λ (m : ExpressionMeaning). ShowsAt (value_listing tables (tree_of_expression described x)) m) (expressions-kept described named tables x) (expressions-show tables (tree_of_expression described x))

  pub truth-shown : (x : Condition) → ShowsAt (truth_listing tables (tree_of_condition described x)) (truth_at tables x)
  truth-shown x = subst (λ (m : ConditionMeaning). ShowsAt (truth_listing tables (tree_of_condition described x)) m) (conditions-kept described named tables x) (conditions-show tables (tree_of_condition described x))
