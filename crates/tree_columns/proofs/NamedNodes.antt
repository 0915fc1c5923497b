-- Of each node, which of its parts decide whether it names certain columns alone.
use Rattle.std.proofs.Common.{◌≡◌, ℕ, Bool, true, false, ◌&&◌, List, map, rules}
use Rattle.std.specs.List.{list_all}
use Rattle.algebra.specs.Raising.{itself}
use Rattle.sqlval.specs.declared.value.Value.{Value}
use Rattle.sqlval.specs.declared.comparison.CompOp.{CompOp}
use Rattle.sqlval.specs.declared.truth.Truth.{Truth}
use Rattle.typing.specs.declared.typed.Arithmetic.{Arithmetic}
use Rattle.algebra.specs.declared.tree.Expression.{Expression, the_lemmas}
use Rattle.algebra.specs.declared.tree.Expression.TheVariants as e
use Rattle.algebra.specs.declared.tree.Condition.{Condition}
use Rattle.algebra.specs.declared.tree.Condition.TheVariants as c
use Rattle.algebra.specs.declared.tree.Tree.{Tree}
use Rattle.rules.specs.Columns.{names_only, expression_names_only}

pub condition_or : (test : ℕ → ℕ → Bool) (operands : List Condition)
    → names_only test (c.Or operands) ≡ list_all itself (map (names_only test) operands)
unfolding names_only expression_names_only
condition_or test operands = search (rules, the_lemmas)

pub condition_and : (test : ℕ → ℕ → Bool) (operands : List Condition)
    → names_only test (c.And operands) ≡ list_all itself (map (names_only test) operands)
unfolding names_only expression_names_only
condition_and test operands = search (rules, the_lemmas)

pub condition_not : (test : ℕ → ℕ → Bool) (operand : Condition)
    → names_only test (c.Not operand) ≡ names_only test operand
unfolding names_only expression_names_only
condition_not test operand = search (rules, the_lemmas)

pub condition_test : (test : ℕ → ℕ → Bool) (operand : Condition) (truth : Truth)
    → names_only test (c.IsTruth operand truth) ≡ names_only test operand
unfolding names_only expression_names_only
condition_test test operand truth = search (rules, the_lemmas)

pub condition_compare : (test : ℕ → ℕ → Bool) (op : CompOp) (left right : Expression)
    → names_only test (c.Compare op left right)
    ≡ (expression_names_only test left && expression_names_only test right)
unfolding names_only expression_names_only
condition_compare test op left right = search (rules, the_lemmas)

pub condition_between : (test : ℕ → ℕ → Bool) (operand low high : Expression)
    → names_only test (c.Between operand low high)
    ≡ (expression_names_only test operand && (expression_names_only test low && expression_names_only test high))
unfolding names_only expression_names_only
condition_between test operand low high = search (rules, the_lemmas)

pub condition_in_list : (test : ℕ → ℕ → Bool) (operand : Expression) (values : List Value)
    → names_only test (c.InList operand values) ≡ expression_names_only test operand
unfolding names_only expression_names_only
condition_in_list test operand values = search (rules, the_lemmas)

pub condition_in_query : (test : ℕ → ℕ → Bool) (operand : Expression) (tree : Tree)
    → names_only test (c.InQuery operand tree) ≡ false
unfolding names_only expression_names_only
condition_in_query test operand tree = search (rules, the_lemmas)

pub condition_like : (test : ℕ → ℕ → Bool) (operand pattern : Expression)
    → names_only test (c.Like operand pattern)
    ≡ (expression_names_only test operand && expression_names_only test pattern)
unfolding names_only expression_names_only
condition_like test operand pattern = search (rules, the_lemmas)

pub condition_null : (test : ℕ → ℕ → Bool) (operand : Expression)
    → names_only test (c.IsNull operand) ≡ expression_names_only test operand
unfolding names_only expression_names_only
condition_null test operand = search (rules, the_lemmas)

pub condition_exists : (test : ℕ → ℕ → Bool) (tree : Tree) → names_only test (c.Exists tree) ≡ false
unfolding names_only expression_names_only
condition_exists test tree = search (rules, the_lemmas)

pub expression_constant : (test : ℕ → ℕ → Bool) (x : Value) → expression_names_only test (e.Constant x) ≡ true
unfolding names_only expression_names_only
expression_constant test x = search (rules, the_lemmas)

pub expression_column : (test : ℕ → ℕ → Bool) (depth place : ℕ)
    → expression_names_only test (e.Column depth place) ≡ test depth place
unfolding names_only expression_names_only
expression_column test depth place = search (rules, the_lemmas)

pub expression_calculation : (test : ℕ → ℕ → Bool) (first : Expression) (others : List (Arithmetic × Expression))
    → expression_names_only test (e.Calculation first others) ≡ false
unfolding names_only expression_names_only
expression_calculation test first others = search (rules, the_lemmas)

pub expression_concatenation : (test : ℕ → ℕ → Bool) (first : Expression) (others : List Expression)
    → expression_names_only test (e.Concatenation first others) ≡ false
unfolding names_only expression_names_only
expression_concatenation test first others = search (rules, the_lemmas)

pub expression_negation : (test : ℕ → ℕ → Bool) (operand : Expression)
    → expression_names_only test (e.Negation operand) ≡ false
unfolding names_only expression_names_only
expression_negation test operand = search (rules, the_lemmas)

pub expression_scalar : (test : ℕ → ℕ → Bool) (tree : Tree) → expression_names_only test (e.Scalar tree) ≡ false
unfolding names_only expression_names_only
expression_scalar test tree = search (rules, the_lemmas)

pub ruleset named_nodes = (condition_or, condition_and, condition_not, condition_test, condition_compare, condition_between, condition_in_list, condition_in_query, condition_like, condition_null, condition_exists, expression_constant, expression_column, expression_calculation, expression_concatenation, expression_negation, expression_scalar)
