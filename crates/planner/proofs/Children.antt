-- Each child of a node is a part of it: what is made of the child at the end of a path stands there
-- in the node, and the node is calm where it was and the child is.
use Rattle.std.proofs.Common.{◌≡◌, refl, ap, sym, ◌∙◌, ℕ, Bool, true, List, [], ◌∷◌, map, Option, rules}
use Rattle.std.specs.Prelude.{◌&&◌, option_and_then, slice_get}
use Rattle.std.specs.Option.{option_map}
use Rattle.typing.specs.declared.typed.OrderKey.{OrderKey}
use Rattle.typing.specs.declared.typed.SetOperation.{SetOperation}
use Rattle.algebra.specs.declared.tree.Condition.{Condition}
use Rattle.algebra.specs.declared.tree.Expression.{Expression}
use Rattle.algebra.specs.declared.tree.SetFunction.{SetFunction}
use Rattle.algebra.specs.declared.tree.Tree.{Tree, the_lemmas}
use Rattle.algebra.specs.declared.tree.Tree.TheVariants as t
use Rattle.rewrite_laws.proofs.Whole.{conditions-same, expressions-same, functions-same}
use Rattle.rules.specs.Conjuncts.{quiet}
use Rattle.rules.specs.Paths.{Inside, alone, applied_at, as_list, child, in_condition, in_expression, in_function, in_node, itself, two}
use Rattle.rules.specs.Quiet.{all_calm, conditions_quiet}
use Rattle.same_laws.proofs.Moved.{and_true}
use Rattle.planner.proofs.QuietNodes.{tree_distinct, tree_filter, tree_group, tree_inner, tree_left, tree_product, tree_project, tree_set, tree_sort}
use Rattle.tree_columns.specs.Calm.{item_calm, set_function_calm}
use Rattle.planner.proofs.Walked.{IsPart}

list-same : {X : Type 0} (inside : X → Inside X) → ((x : X) → (inside x).same ≡ x) → (xs : List X)
    → itself (map inside xs) ≡ xs
list-same inside h [] = refl
list-same inside h (x ∷ xs) = λ i. h x i ∷ list-same inside h xs i

-- what is made in a part at a place
abbrev at_place : (Tree → Option Tree) → ℕ → List ℕ → Inside Tree → Option Tree
at_place rule place path x =
    option_and_then (λ part. option_map (x.changed place) (applied_at rule path part)) (slice_get x.trees place)

both-hold : (a b : Bool) → a ≡ true → b ≡ true → (a && b) ≡ true
both-hold a b p q = λ i. p i && q i

-- ---- one child, beside something that does not change

one-up : (a old new : Bool) → (a && old) ≡ true → new ≡ true → (a && new) ≡ true
one-up a old new e f = both-hold a new (and_true a old e).0 f

left-up : (left right new : Bool) → (left && right) ≡ true → new ≡ true → (new && right) ≡ true
left-up left right new e f = both-hold new right f (and_true left right e).1

right-up : (left right new : Bool) → (left && right) ≡ true → new ≡ true → (left && new) ≡ true
right-up left right new e f = both-hold left new (and_true left right e).0 f

on-left-up : (on left right new : Bool) → (on && (left && right)) ≡ true → new ≡ true → (on && (new && right)) ≡ true
on-left-up on left right new e f = both-hold on (new && right) (and_true on (left && right) e).0
    (left-up left right new (and_true on (left && right) e).1 f)

on-right-up : (on left right new : Bool) → (on && (left && right)) ≡ true → new ≡ true → (on && (left && new)) ≡ true
on-right-up on left right new e f = both-hold on (left && new) (and_true on (left && right) e).0
    (right-up left right new (and_true on (left && right) e).1 f)

inside-filter : (condition : Condition) (rows : Tree)
    → in_node (t.Filter condition rows) ≡ two (λ s x. t.Filter x s) (child rows) (in_condition condition)
inside-filter condition rows = search (rules, the_lemmas)

pub filter-part : (condition : Condition) → IsPart (t.Filter condition) 0
filter-part condition = record {
  path = λ rule path part. ap (at_place rule 0 path) (inside-filter condition part)
      ∙ ap (λ (z : Condition). option_map (t.Filter z) (applied_at rule path part)) (conditions-same condition);
  down = λ part e. (and_true (quiet condition) (conditions_quiet part) (sym (tree_filter condition part) ∙ e)).1;
  up = λ old new e f. tree_filter condition new
      ∙ one-up (quiet condition) (conditions_quiet old) (conditions_quiet new) (sym (tree_filter condition old) ∙ e) f;
}

inside-group : (columns : Option (List ℕ)) (functions : List SetFunction) (rows : Tree)
    → in_node (t.Group columns functions rows)
    ≡ two (λ s x. t.Group columns x s) (child rows) (as_list (map in_function functions))
inside-group columns functions rows = search (rules, the_lemmas)

pub group-part : (columns : Option (List ℕ)) (functions : List SetFunction) → IsPart (t.Group columns functions) 0
group-part columns functions = record {
  path = λ rule path part. ap (at_place rule 0 path) (inside-group columns functions part)
      ∙ ap (λ (z : List SetFunction). option_map (t.Group columns z) (applied_at rule path part))
      (list-same in_function functions-same functions);
  down = λ part e. (and_true (all_calm (map set_function_calm functions)) (conditions_quiet part)
      (sym (tree_group columns functions part) ∙ e)).1;
  up = λ old new e f. tree_group columns functions new
      ∙ one-up (all_calm (map set_function_calm functions)) (conditions_quiet old) (conditions_quiet new)
      (sym (tree_group columns functions old) ∙ e) f;
}

inside-project : (items : List Expression) (rows : Tree)
    → in_node (t.Project items rows) ≡ two (λ s x. t.Project x s) (child rows) (as_list (map in_expression items))
inside-project items rows = search (rules, the_lemmas)

pub project-part : (items : List Expression) → IsPart (t.Project items) 0
project-part items = record {
  path = λ rule path part. ap (at_place rule 0 path) (inside-project items part)
      ∙ ap (λ (z : List Expression). option_map (t.Project z) (applied_at rule path part))
      (list-same in_expression expressions-same items);
  down = λ part e. (and_true (all_calm (map item_calm items)) (conditions_quiet part) (sym (tree_project items part) ∙ e)).1;
  up = λ old new e f. tree_project items new
      ∙ one-up (all_calm (map item_calm items)) (conditions_quiet old) (conditions_quiet new) (sym (tree_project items old) ∙ e) f;
}

inside-distinct : (rows : Tree) → in_node (t.Distinct rows) ≡ alone t.Distinct (child rows)
inside-distinct rows = search (rules, the_lemmas)

pub distinct-part : IsPart t.Distinct 0
distinct-part = record {
  path = λ rule path part. ap (at_place rule 0 path) (inside-distinct part);
  down = λ part e. sym (tree_distinct part) ∙ e;
  up = λ old new e f. tree_distinct new ∙ f;
}

inside-sort : (keys : List OrderKey) (rows : Tree) → in_node (t.Sort keys rows) ≡ alone (t.Sort keys) (child rows)
inside-sort keys rows = search (rules, the_lemmas)

pub sort-part : (keys : List OrderKey) → IsPart (t.Sort keys) 0
sort-part keys = record {
  path = λ rule path part. ap (at_place rule 0 path) (inside-sort keys part);
  down = λ part e. sym (tree_sort keys part) ∙ e;
  up = λ old new e f. tree_sort keys new ∙ f;
}

-- ---- two children

inside-product : (left right : Tree) → in_node (t.Product left right) ≡ two t.Product (child left) (child right)
inside-product left right = search (rules, the_lemmas)

pub product-left : (right : Tree) → IsPart (λ left. t.Product left right) 0
product-left right = record {
  path = λ rule path part. ap (at_place rule 0 path) (inside-product part right);
  down = λ part e. (and_true (conditions_quiet part) (conditions_quiet right) (sym (tree_product part right) ∙ e)).0;
  up = λ old new e f. tree_product new right
      ∙ left-up (conditions_quiet old) (conditions_quiet right) (conditions_quiet new) (sym (tree_product old right) ∙ e) f;
}

pub product-right : (left : Tree) → IsPart (t.Product left) 1
product-right left = record {
  path = λ rule path part. ap (at_place rule 1 path) (inside-product left part);
  down = λ part e. (and_true (conditions_quiet left) (conditions_quiet part) (sym (tree_product left part) ∙ e)).1;
  up = λ old new e f. tree_product left new
      ∙ right-up (conditions_quiet left) (conditions_quiet old) (conditions_quiet new) (sym (tree_product left old) ∙ e) f;
}

inside-set : (op : SetOperation) (left right : Tree) → in_node (t.Set op left right) ≡ two (t.Set op) (child left) (child right)
inside-set op left right = search (rules, the_lemmas)

pub set-left : (op : SetOperation) (right : Tree) → IsPart (λ left. t.Set op left right) 0
set-left op right = record {
  path = λ rule path part. ap (at_place rule 0 path) (inside-set op part right);
  down = λ part e. (and_true (conditions_quiet part) (conditions_quiet right) (sym (tree_set op part right) ∙ e)).0;
  up = λ old new e f. tree_set op new right
      ∙ left-up (conditions_quiet old) (conditions_quiet right) (conditions_quiet new) (sym (tree_set op old right) ∙ e) f;
}

pub set-right : (op : SetOperation) (left : Tree) → IsPart (t.Set op left) 1
set-right op left = record {
  path = λ rule path part. ap (at_place rule 1 path) (inside-set op left part);
  down = λ part e. (and_true (conditions_quiet left) (conditions_quiet part) (sym (tree_set op left part) ∙ e)).1;
  up = λ old new e f. tree_set op left new
      ∙ right-up (conditions_quiet left) (conditions_quiet old) (conditions_quiet new) (sym (tree_set op left old) ∙ e) f;
}

inside-inner : (on : Condition) (left right : Tree)
    → in_node (t.Inner on left right) ≡ two (λ (s : Tree × Tree) x. t.Inner x s.0 s.1)
    (two (λ l r. (l, r)) (child left) (child right)) (in_condition on)
inside-inner on left right = search (rules, the_lemmas)

pub inner-left : (on : Condition) (right : Tree) → IsPart (λ left. t.Inner on left right) 0
inner-left on right = record {
  path = λ rule path part. ap (at_place rule 0 path) (inside-inner on part right)
      ∙ ap (λ (z : Condition). option_map (λ left. t.Inner z left right) (applied_at rule path part)) (conditions-same on);
  down = λ part e. (and_true (conditions_quiet part) (conditions_quiet right)
      (and_true (quiet on) (conditions_quiet part && conditions_quiet right) (sym (tree_inner on part right) ∙ e)).1).0;
  up = λ old new e f. tree_inner on new right
      ∙ on-left-up (quiet on) (conditions_quiet old) (conditions_quiet right) (conditions_quiet new)
      (sym (tree_inner on old right) ∙ e) f;
}

pub inner-right : (on : Condition) (left : Tree) → IsPart (λ right. t.Inner on left right) 1
inner-right on left = record {
  path = λ rule path part. ap (at_place rule 1 path) (inside-inner on left part)
      ∙ ap (λ (z : Condition). option_map (λ right. t.Inner z left right) (applied_at rule path part)) (conditions-same on);
  down = λ part e. (and_true (conditions_quiet left) (conditions_quiet part)
      (and_true (quiet on) (conditions_quiet left && conditions_quiet part) (sym (tree_inner on left part) ∙ e)).1).1;
  up = λ old new e f. tree_inner on left new
      ∙ on-right-up (quiet on) (conditions_quiet left) (conditions_quiet old) (conditions_quiet new)
      (sym (tree_inner on left old) ∙ e) f;
}

inside-left_join : (on : Condition) (left right : Tree) (width : ℕ)
    → in_node (t.Left on left right width) ≡ two (λ (s : Tree × Tree) x. t.Left x s.0 s.1 width)
    (two (λ l r. (l, r)) (child left) (child right)) (in_condition on)
inside-left_join on left right width = search (rules, the_lemmas)

pub left_join-left : (on : Condition) (width : ℕ) (right : Tree) → IsPart (λ left. t.Left on left right width) 0
left_join-left on width right = record {
  path = λ rule path part. ap (at_place rule 0 path) (inside-left_join on part right width)
      ∙ ap (λ (z : Condition). option_map (λ left. t.Left z left right width) (applied_at rule path part)) (conditions-same on);
  down = λ part e. (and_true (conditions_quiet part) (conditions_quiet right)
      (and_true (quiet on) (conditions_quiet part && conditions_quiet right) (sym (tree_left on part right width) ∙ e)).1).0;
  up = λ old new e f. tree_left on new right width
      ∙ on-left-up (quiet on) (conditions_quiet old) (conditions_quiet right) (conditions_quiet new)
      (sym (tree_left on old right width) ∙ e) f;
}

pub left_join-right : (on : Condition) (width : ℕ) (left : Tree) → IsPart (λ right. t.Left on left right width) 1
left_join-right on width left = record {
  path = λ rule path part. ap (at_place rule 1 path) (inside-left_join on left part width)
      ∙ ap (λ (z : Condition). option_map (λ right. t.Left z left right width) (applied_at rule path part)) (conditions-same on);
  down = λ part e. (and_true (conditions_quiet left) (conditions_quiet part)
      (and_true (quiet on) (conditions_quiet left && conditions_quiet part) (sym (tree_left on left part width) ∙ e)).1).1;
  up = λ old new e f. tree_left on left new width
      ∙ on-right-up (quiet on) (conditions_quiet left) (conditions_quiet old) (conditions_quiet new)
      (sym (tree_left on left old width) ∙ e) f;
}
