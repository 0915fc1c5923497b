-- Of each node, which of its parts decide whether its conditions are quiet.
use Rattle.std.proofs.Common.{◌≡◌, refl, ap, ◌∙◌, ℕ, Bool, true, not, ◌&&◌, List, [], ◌∷◌, map, Option, rules}
use Rattle.std.specs.List.{list_all}
use Rattle.sqlval.specs.declared.value.Value.{Value}
use Rattle.typing.specs.declared.typed.Arithmetic.{Arithmetic}
use Rattle.typing.specs.declared.typed.OrderKey.{OrderKey}
use Rattle.typing.specs.declared.typed.SetOperation.{SetOperation}
use Rattle.typing.specs.declared.typed.SetFunctionType.{SetFunctionType}
use Rattle.algebra.specs.declared.tree.Bound.{Bound}
use Rattle.algebra.specs.declared.tree.StoredTable.{StoredTable}
use Rattle.algebra.specs.declared.tree.Expression.{Expression, the_lemmas}
use Rattle.algebra.specs.declared.tree.Expression.TheVariants as e
use Rattle.algebra.specs.declared.tree.Condition.{Condition}
use Rattle.algebra.specs.declared.tree.SetFunction.{SetFunction}
use Rattle.algebra.specs.declared.tree.SetFunction.TheVariants as f
use Rattle.algebra.specs.declared.tree.Tree.{Tree}
use Rattle.algebra.specs.declared.tree.Tree.TheVariants as t
use Rattle.rules.specs.Conjuncts.{quiet}
use Rattle.rules.specs.Quiet.{Calm, all_calm, calm_at, conditions_quiet}
use Rattle.tree_columns.specs.Calm.{item_calm, item_quiet, set_function_calm, set_function_quiet}
use Rattle.planner.proofs.RaisingAlike.{calm_c, raises-alike}

-- ---- items and set functions

pub expression_constant : (x : Value) → item_quiet (e.Constant x) ≡ true
unfolding calm_at item_calm set_function_calm
expression_constant x = search (rules, the_lemmas)

pub expression_column : (depth place : ℕ) → item_quiet (e.Column depth place) ≡ true
unfolding calm_at item_calm set_function_calm
expression_column depth place = search (rules, the_lemmas)

all-mapped : (others : List (Arithmetic × Expression))
    → list_all (λ (other : Arithmetic × Calm). other.1.calm)
    (map (λ (other : Arithmetic × Expression). (other.0, item_calm other.1)) others)
    ≡ list_all (λ (other : Arithmetic × Expression). item_quiet other.1) others
all-mapped [] = refl
all-mapped (x ∷ xs) = ap (λ rest. item_quiet x.1 && rest) (all-mapped xs)

calculation : (first : Expression) (others : List (Arithmetic × Expression))
    → item_quiet (e.Calculation first others)
    ≡ (item_quiet first && list_all (λ (other : Arithmetic × Calm). other.1.calm)
    (map (λ (other : Arithmetic × Expression). (other.0, item_calm other.1)) others))
unfolding calm_at item_calm set_function_calm
calculation first others = search (rules, the_lemmas)

pub expression_calculation : (first : Expression) (others : List (Arithmetic × Expression))
    → item_quiet (e.Calculation first others)
    ≡ (item_quiet first && list_all (λ (other : Arithmetic × Expression). item_quiet other.1) others)
expression_calculation first others =
    calculation first others ∙ ap (λ rest. item_quiet first && rest) (all-mapped others)

pub expression_concatenation : (first : Expression) (others : List Expression)
    → item_quiet (e.Concatenation first others) ≡ (item_quiet first && all_calm (map item_calm others))
unfolding calm_at item_calm set_function_calm
expression_concatenation first others = search (rules, the_lemmas)

pub expression_negation : (operand : Expression) → item_quiet (e.Negation operand) ≡ item_quiet operand
unfolding calm_at item_calm set_function_calm
expression_negation operand = search (rules, the_lemmas)

pub expression_scalar : (tree : Tree) → item_quiet (e.Scalar tree) ≡ conditions_quiet tree
unfolding calm_at item_calm set_function_calm
expression_scalar tree = search (rules, the_lemmas)

pub function_rows : set_function_quiet f.CountRows ≡ true
unfolding calm_at item_calm set_function_calm
function_rows = search (rules, the_lemmas)

pub function_over : (function : SetFunctionType) (is_distinct : Bool) (argument : Expression)
    → set_function_quiet (f.Over function is_distinct argument) ≡ item_quiet argument
unfolding calm_at item_calm set_function_calm
function_over function is_distinct argument = search (rules, the_lemmas)

-- ---- nodes of trees

pub tree_scan : (table : StoredTable) → conditions_quiet (t.Scan table) ≡ true
unfolding calm_at item_calm set_function_calm
tree_scan table = search (rules, the_lemmas)

calm_filter : (condition : Condition) (tree : Tree)
    → conditions_quiet (t.Filter condition tree) ≡ (not (calm_c condition) && conditions_quiet tree)
unfolding calm_at item_calm set_function_calm
calm_filter condition tree = search (rules, the_lemmas)

pub tree_filter : (condition : Condition) (tree : Tree)
    → conditions_quiet (t.Filter condition tree) ≡ (quiet condition && conditions_quiet tree)
tree_filter condition tree = calm_filter condition tree
    ∙ ap (λ (may : Bool). not may && conditions_quiet tree) (raises-alike condition)

pub tree_product : (left right : Tree)
    → conditions_quiet (t.Product left right) ≡ (conditions_quiet left && conditions_quiet right)
unfolding calm_at item_calm set_function_calm
tree_product left right = search (rules, the_lemmas)

calm_inner : (on : Condition) (left right : Tree)
    → conditions_quiet (t.Inner on left right)
    ≡ (not (calm_c on) && (conditions_quiet left && conditions_quiet right))
unfolding calm_at item_calm set_function_calm
calm_inner on left right = search (rules, the_lemmas)

pub tree_inner : (on : Condition) (left right : Tree)
    → conditions_quiet (t.Inner on left right) ≡ (quiet on && (conditions_quiet left && conditions_quiet right))
tree_inner on left right = calm_inner on left right
    ∙ ap (λ (may : Bool). not may && (conditions_quiet left && conditions_quiet right)) (raises-alike on)

calm_left : (on : Condition) (left right : Tree) (width : ℕ)
    → conditions_quiet (t.Left on left right width)
    ≡ (not (calm_c on) && (conditions_quiet left && conditions_quiet right))
unfolding calm_at item_calm set_function_calm
calm_left on left right width = search (rules, the_lemmas)

pub tree_left : (on : Condition) (left right : Tree) (width : ℕ)
    → conditions_quiet (t.Left on left right width) ≡ (quiet on && (conditions_quiet left && conditions_quiet right))
tree_left on left right width = calm_left on left right width
    ∙ ap (λ (may : Bool). not may && (conditions_quiet left && conditions_quiet right)) (raises-alike on)

calm_half : (on : Condition) (left right : Tree)
    → conditions_quiet (t.Half on left right) ≡ (not (calm_c on) && (conditions_quiet left && conditions_quiet right))
unfolding calm_at item_calm set_function_calm
calm_half on left right = search (rules, the_lemmas)

pub tree_half : (on : Condition) (left right : Tree)
    → conditions_quiet (t.Half on left right) ≡ (quiet on && (conditions_quiet left && conditions_quiet right))
tree_half on left right = calm_half on left right
    ∙ ap (λ (may : Bool). not may && (conditions_quiet left && conditions_quiet right)) (raises-alike on)

calm_opposite : (on : Condition) (left right : Tree)
    → conditions_quiet (t.OppositeHalf on left right)
    ≡ (not (calm_c on) && (conditions_quiet left && conditions_quiet right))
unfolding calm_at item_calm set_function_calm
calm_opposite on left right = search (rules, the_lemmas)

pub tree_opposite : (on : Condition) (left right : Tree)
    → conditions_quiet (t.OppositeHalf on left right)
    ≡ (quiet on && (conditions_quiet left && conditions_quiet right))
tree_opposite on left right = calm_opposite on left right
    ∙ ap (λ (may : Bool). not may && (conditions_quiet left && conditions_quiet right)) (raises-alike on)

pub tree_group : (columns : Option (List ℕ)) (functions : List SetFunction) (rows : Tree)
    → conditions_quiet (t.Group columns functions rows)
    ≡ (all_calm (map set_function_calm functions) && conditions_quiet rows)
unfolding calm_at item_calm set_function_calm
tree_group columns functions rows = search (rules, the_lemmas)

pub tree_project : (items : List Expression) (tree : Tree)
    → conditions_quiet (t.Project items tree) ≡ (all_calm (map item_calm items) && conditions_quiet tree)
unfolding calm_at item_calm set_function_calm
tree_project items tree = search (rules, the_lemmas)

pub tree_distinct : (tree : Tree) → conditions_quiet (t.Distinct tree) ≡ conditions_quiet tree
unfolding calm_at item_calm set_function_calm
tree_distinct tree = search (rules, the_lemmas)

pub tree_set : (op : SetOperation) (left right : Tree)
    → conditions_quiet (t.Set op left right) ≡ (conditions_quiet left && conditions_quiet right)
unfolding calm_at item_calm set_function_calm
tree_set op left right = search (rules, the_lemmas)

pub tree_sort : (keys : List OrderKey) (tree : Tree) → conditions_quiet (t.Sort keys tree) ≡ conditions_quiet tree
unfolding calm_at item_calm set_function_calm
tree_sort keys tree = search (rules, the_lemmas)

pub tree_seek : (table : StoredTable) (columns : List ℕ) (key : List Value)
    → conditions_quiet (t.Seek table columns key) ≡ true
unfolding calm_at item_calm set_function_calm
tree_seek table columns key = search (rules, the_lemmas)

pub tree_range : (table : StoredTable) (columns : List ℕ) (low high : Option Bound)
    → conditions_quiet (t.Range table columns low high) ≡ true
unfolding calm_at item_calm set_function_calm
tree_range table columns low high = search (rules, the_lemmas)

calm_index_loop : (on : Condition) (left : Tree) (places : List ℕ) (table : StoredTable) (columns : List ℕ)
    → conditions_quiet (t.IndexLoop on left places table columns) ≡ (not (calm_c on) && conditions_quiet left)
unfolding calm_at item_calm set_function_calm
calm_index_loop on left places table columns = search (rules, the_lemmas)

pub tree_index_loop : (on : Condition) (left : Tree) (places : List ℕ) (table : StoredTable) (columns : List ℕ)
    → conditions_quiet (t.IndexLoop on left places table columns) ≡ (quiet on && conditions_quiet left)
tree_index_loop on left places table columns = calm_index_loop on left places table columns
    ∙ ap (λ (may : Bool). not may && conditions_quiet left) (raises-alike on)

calm_hash_join : (on : Condition) (left right : Tree) (left_places right_places : List ℕ)
    → conditions_quiet (t.HashJoin on left right left_places right_places)
    ≡ (not (calm_c on) && (conditions_quiet left && conditions_quiet right))
unfolding calm_at item_calm set_function_calm
calm_hash_join on left right left_places right_places = search (rules, the_lemmas)

pub tree_hash_join : (on : Condition) (left right : Tree) (left_places right_places : List ℕ)
    → conditions_quiet (t.HashJoin on left right left_places right_places)
    ≡ (quiet on && (conditions_quiet left && conditions_quiet right))
tree_hash_join on left right left_places right_places = calm_hash_join on left right left_places right_places
    ∙ ap (λ (may : Bool). not may && (conditions_quiet left && conditions_quiet right)) (raises-alike on)

pub tree_member : (operand : Expression) (is_negated : Bool) (members rows : Tree)
    → conditions_quiet (t.Member operand is_negated members rows)
    ≡ (item_quiet operand && (conditions_quiet members && conditions_quiet rows))
unfolding calm_at item_calm set_function_calm
tree_member operand is_negated members rows = search (rules, the_lemmas)

pub ruleset quiet_nodes = (expression_constant, expression_column, expression_calculation, expression_concatenation, expression_negation, expression_scalar, function_rows, function_over, tree_scan, tree_filter, tree_product, tree_inner, tree_left, tree_half, tree_opposite, tree_group, tree_project, tree_distinct, tree_set, tree_sort, tree_seek, tree_range, tree_index_loop, tree_hash_join, tree_member)
