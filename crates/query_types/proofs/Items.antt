-- Items of a select list, and set functions where they are seen.
use Rattle.std.proofs.Common.{◌≡◌, ◌∙◌, refl, ap, suc, ◌<◌, ◌≤◌, List, [], ◌∷◌, map, length, Option, Some, Result, Err}
use Rattle.refusals.specs.declared.limit.Limit.TheVariants as limit
use Rattle.refusals.specs.declared.refusal.Refusal.TheVariants.{Exceeded}
use Rattle.refusals.specs.declared.refusal.Refusal.{Refusal}
use Rattle.ast.specs.declared.operator.Quantifier.{Quantifier}
use Rattle.ast.specs.declared.operator.SetFunction.{SetFunction as Written}
use Rattle.ast.specs.declared.tree.SelectItem.{SelectItem, out-SelectItem}
use Rattle.typing.specs.declared.scope.TypedExpression.{TypedExpression}
use Rattle.typing.specs.declared.scope.ShownItem.{ShownItem}
use Rattle.typing.specs.Finding.{each}
use Rattle.typing.specs.Finds.{Finds}
use Rattle.typing.specs.Known.{Known}
use Rattle.typing.specs.Part.{Part, View, in_turn, past}
use Rattle.typing.specs.Scope.{Scope, ungrouped}
use Rattle.typing.specs.Select.{item_name}
use Rattle.typing.specs.SetFunction.{Aggregate, aggregate_found}
use Rattle.typing.specs.Typing.{expression_part, item_part}
use Rattle.typing.proofs.Nodes as node
use Rattle.scopes.specs.declared.view.Clause.{Clause}
use Rattle.scopes.specs.declared.view.Clause.TheVariants as clause
use Rattle.scopes.specs.Seen.{scope_in}
use Rattle.type_rules.specs.Selects.{named}
use Rattle.type_rules.proofs.Stars.{limited-is, limited-refused}
use Rattle.query_types.specs.Parts.{as_found, in_order}
use Rattle.query_types.specs.Selects.{list_part}
use Rattle.query_types.proofs.Conjuncts.{turned}

module _ (k : Known) (v : View) (item : SelectItem) where
  pub item_at : (item_part k item).found v ≡ named (item_name (out-SelectItem item).alias (expression_part k (out-SelectItem item).value).name) ((expression_part k (out-SelectItem item).value).found v)
  item_at = ap (λ part. part.found v) (node.item_is k item)

  pub item_past : past (item_part k item) v ≡ past (expression_part k (out-SelectItem item).value) v
  item_past = ap (λ part. past part v) (node.item_is k item)

ungrouped-twice : (scope : Scope) → ungrouped (ungrouped scope) ≡ ungrouped scope
ungrouped-twice [] = refl
ungrouped-twice (frame ∷ outer) = refl

-- the argument of a set function sees the rows, wherever the set function stands
pub aggregate-seen : (reply : Result Aggregate Refusal) (c : Clause) (scope : Scope) (function : Written) (quantifier : Option Quantifier) (argument : Part TypedExpression) →
    Finds reply (aggregate_found function quantifier argument scope) → Finds reply (aggregate_found function quantifier argument (scope_in c scope))
aggregate-seen reply (clause.Shown first) scope function quantifier argument h = h
aggregate-seen reply clause.Plain scope function quantifier argument h = h
aggregate-seen reply clause.Argument scope function quantifier argument h = rw (ungrouped-twice scope) h
aggregate-seen reply clause.Checked scope function quantifier argument h = h

-- ---- a select list of items

turned-length : {X A : Type 0} (f : X → Part A) (xs : List X) (v : View) → length (in_turn (map f xs) v) ≡ length xs
turned-length f [] v = refl
turned-length f (x ∷ xs) v = ap suc (turned-length f xs (past (f x) v))

module _ (k : Known) (items : List SelectItem) (v : View) where
  pub list-refused : 256 < length items → Finds {A = List ShownItem} (Err (Exceeded limit.Columns)) ((list_part k (Some items)).found v)
  list-refused h = limited-refused (in_turn (map (item_part k) items) v) (rw (turned-length (item_part k) items v) h)

  pub list-found : length items ≤ 256 → (list_part k (Some items)).found v ≡ each (in_order (item_part k) as_found items v)
  list-found h = limited-is (in_turn (map (item_part k) items) v) (rw (turned-length (item_part k) items v) h) ∙ ap each (turned (item_part k) items v)
