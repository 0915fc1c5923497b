-- Of each node, what it is with other columns in the places of its own.
use Rattle.std.proofs.Common.{◌≡◌, ℕ, List, map, rules}
use Rattle.sqlval.specs.declared.value.Value.{Value}
use Rattle.sqlval.specs.declared.comparison.CompOp.{CompOp}
use Rattle.sqlval.specs.declared.truth.Truth.{Truth}
use Rattle.algebra.specs.declared.tree.Expression.{Expression, the_lemmas}
use Rattle.algebra.specs.declared.tree.Expression.TheVariants as e
use Rattle.algebra.specs.declared.tree.Condition.{Condition}
use Rattle.algebra.specs.declared.tree.Condition.TheVariants as c
use Rattle.rules.specs.Columns.{Place, moved, moved_expression}

pub condition_or : (to : ℕ → ℕ → Place) (operands : List Condition)
    → moved to (c.Or operands) ≡ c.Or (map (moved to) operands)
unfolding moved moved_expression
condition_or to operands = search (rules, the_lemmas)

pub condition_and : (to : ℕ → ℕ → Place) (operands : List Condition)
    → moved to (c.And operands) ≡ c.And (map (moved to) operands)
unfolding moved moved_expression
condition_and to operands = search (rules, the_lemmas)

pub condition_not : (to : ℕ → ℕ → Place) (operand : Condition) → moved to (c.Not operand) ≡ c.Not (moved to operand)
unfolding moved moved_expression
condition_not to operand = search (rules, the_lemmas)

pub condition_test : (to : ℕ → ℕ → Place) (operand : Condition) (truth : Truth)
    → moved to (c.IsTruth operand truth) ≡ c.IsTruth (moved to operand) truth
unfolding moved moved_expression
condition_test to operand truth = search (rules, the_lemmas)

pub condition_compare : (to : ℕ → ℕ → Place) (op : CompOp) (left right : Expression)
    → moved to (c.Compare op left right) ≡ c.Compare op (moved_expression to left) (moved_expression to right)
unfolding moved moved_expression
condition_compare to op left right = search (rules, the_lemmas)

pub condition_between : (to : ℕ → ℕ → Place) (operand low high : Expression)
    → moved to (c.Between operand low high)
    ≡ c.Between (moved_expression to operand) (moved_expression to low) (moved_expression to high)
unfolding moved moved_expression
condition_between to operand low high = search (rules, the_lemmas)

pub condition_in_list : (to : ℕ → ℕ → Place) (operand : Expression) (values : List Value)
    → moved to (c.InList operand values) ≡ c.InList (moved_expression to operand) values
unfolding moved moved_expression
condition_in_list to operand values = search (rules, the_lemmas)

pub condition_like : (to : ℕ → ℕ → Place) (operand pattern : Expression)
    → moved to (c.Like operand pattern) ≡ c.Like (moved_expression to operand) (moved_expression to pattern)
unfolding moved moved_expression
condition_like to operand pattern = search (rules, the_lemmas)

pub condition_null : (to : ℕ → ℕ → Place) (operand : Expression)
    → moved to (c.IsNull operand) ≡ c.IsNull (moved_expression to operand)
unfolding moved moved_expression
condition_null to operand = search (rules, the_lemmas)

pub expression_constant : (to : ℕ → ℕ → Place) (x : Value) → moved_expression to (e.Constant x) ≡ e.Constant x
unfolding moved moved_expression
expression_constant to x = search (rules, the_lemmas)

pub expression_column : (to : ℕ → ℕ → Place) (depth place : ℕ)
    → moved_expression to (e.Column depth place) ≡ e.Column (to depth place).0 (to depth place).1
unfolding moved moved_expression
expression_column to depth place = search (rules, the_lemmas)

pub ruleset moved_nodes = (condition_or, condition_and, condition_not, condition_test, condition_compare, condition_between, condition_in_list, condition_like, condition_null, expression_constant, expression_column)
