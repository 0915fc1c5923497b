use Rattle.std.proofs.Common.{List, map, refl}
use Rattle.std.specs.List.{list_all}
use Rattle.algebra.specs.declared.tree.Condition.{Condition}
use Rattle.algebra.specs.Raising.{itself}
use Rattle.rules.specs.Columns.{names_only}
use Rattle.tree_columns.specs.Within.{within}
use Rattle.tree_columns.proofs.Asked.{goes_on, says_no, none_left}
use Rattle.tree_columns.proofs.NamedNodes.{condition_or, condition_and, condition_not, condition_test, condition_compare, condition_between, condition_in_list, condition_in_query, condition_like, condition_null, condition_exists}
use Rattle.tree_columns.proofs.named.+named.Goals as goal

pub names_within-returns-in-Or : goal.names_within-returns-in-Or
names_within-returns-in-Or t c = rw (c.in-Or.is, condition_or, ← c.as_slice.ensures) c.all_name_within.ensures

pub names_within-returns-in-And : goal.names_within-returns-in-And
names_within-returns-in-And t c = rw (c.in-And.is, condition_and, ← c.as_slice-in-And.ensures) c.all_name_within-in-And.ensures

pub names_within-returns-in-Not : goal.names_within-returns-in-Not
names_within-returns-in-Not t c = rw (c.in-Not.is, condition_not, ← c.get.ensures) c.names_within.ensures

pub names_within-returns-in-IsTruth : goal.names_within-returns-in-IsTruth
names_within-returns-in-IsTruth t c = rw (c.in-IsTruth.is, condition_test, ← c.get-in-IsTruth.ensures) c.names_within-in-IsTruth.ensures

pub names_within-returns-then-operand_within : goal.names_within-returns-then-operand_within
names_within-returns-then-operand_within t c = rw (c.in-Compare.is, condition_compare, ← c.get-in-Compare.ensures, ← c.operand_within.ensures, c.if-operand_within.true, ← c.get-then-operand_within.ensures) c.operand_within-then-operand_within.ensures

pub names_within-returns-else-operand_within : goal.names_within-returns-else-operand_within
names_within-returns-else-operand_within t c = rw (c.in-Compare.is, condition_compare, ← c.get-in-Compare.ensures, ← c.operand_within.ensures, c.if-operand_within.false)

pub names_within-returns-else-operand_within-2 : goal.names_within-returns-else-operand_within-2
names_within-returns-else-operand_within-2 t c = rw (c.in-Between.is, condition_between, ← c.get-in-Between.ensures, ← c.operand_within-in-Between.ensures, c.if-operand_within-2.false)

pub names_within-returns-else-operand_within-3 : goal.names_within-returns-else-operand_within-3
names_within-returns-else-operand_within-3 t c = rw (c.in-Between.is, condition_between, ← c.get-in-Between.ensures, ← c.operand_within-in-Between.ensures, c.if-operand_within-2.true, ← c.get-then-operand_within-2.ensures, ← c.operand_within-then-operand_within-2.ensures, c.if-operand_within-3.false)

pub names_within-returns-then-operand_within-3 : goal.names_within-returns-then-operand_within-3
names_within-returns-then-operand_within-3 t c = rw (c.in-Between.is, condition_between, ← c.get-in-Between.ensures, ← c.operand_within-in-Between.ensures, c.if-operand_within-2.true, ← c.get-then-operand_within-2.ensures, ← c.operand_within-then-operand_within-2.ensures, c.if-operand_within-3.true, ← c.get-then-operand_within-3.ensures) c.operand_within-then-operand_within-3.ensures

pub names_within-returns-in-InList : goal.names_within-returns-in-InList
names_within-returns-in-InList t c = rw (c.in-InList.is, condition_in_list, ← c.get-in-InList.ensures) c.operand_within-in-InList.ensures

pub names_within-returns-in-InQuery : goal.names_within-returns-in-InQuery
names_within-returns-in-InQuery t c = rw (c.in-InQuery.is, condition_in_query)

pub names_within-returns-else-operand_within-4 : goal.names_within-returns-else-operand_within-4
names_within-returns-else-operand_within-4 t c = rw (c.in-Like.is, condition_like, ← c.get-in-Like.ensures, ← c.operand_within-in-Like.ensures, c.if-operand_within-4.false)

pub names_within-returns-then-operand_within-4 : goal.names_within-returns-then-operand_within-4
names_within-returns-then-operand_within-4 t c = rw (c.in-Like.is, condition_like, ← c.get-in-Like.ensures, ← c.operand_within-in-Like.ensures, c.if-operand_within-4.true, ← c.get-then-operand_within-4.ensures) c.operand_within-then-operand_within-4.ensures

pub names_within-returns-in-IsNull : goal.names_within-returns-in-IsNull
names_within-returns-in-IsNull t c = rw (c.in-IsNull.is, condition_null, ← c.get-in-IsNull.ensures) c.operand_within-in-IsNull.ensures

pub names_within-returns-in-Exists : goal.names_within-returns-in-Exists
names_within-returns-in-Exists t c = rw (c.in-Exists.is, condition_exists)

pub all_name_within-loop-operand-preserved : goal.all_name_within-loop-operand-preserved
all_name_within-loop-operand-preserved t c =
    goes_on (λ (xs : List Condition). list_all itself (map (names_only (within c.args.reach c.args.width)) xs)) (names_only (within c.args.reach c.args.width)) (λ _ _. refl) c.args.operands.now _ _
    c.loop-operand-test.true c.operand-item.is c.if-not-names_within.ensures c.loop-operand.invariant

pub all_name_within-returns-then-not-names_within : goal.all_name_within-returns-then-not-names_within
all_name_within-returns-then-not-names_within t c =
    says_no (λ (xs : List Condition). list_all itself (map (names_only (within c.args.reach c.args.width)) xs)) (names_only (within c.args.reach c.args.width)) (λ _ _. refl) c.args.operands.now _ _
    c.loop-operand-test.true c.operand-item.is c.if-not-names_within.ensures c.loop-operand.invariant

pub all_name_within-returns : goal.all_name_within-returns
all_name_within-returns t c =
    none_left (λ (xs : List Condition). list_all itself (map (names_only (within c.args.reach c.args.width)) xs)) refl c.args.operands.now _ c.loop-operand-test.false c.loop-operand.invariant
