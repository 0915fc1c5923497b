use Rattle.std.proofs.Common.{sym}
use Rattle.streams.specs.Parts.{names_in_parts}
use Rattle.streams.proofs.Runs.{named-same, names_group, names_half, names_hash, names_inner, names_left, names_loop, names_member, names_opposite, names_set}
use Rattle.tree_tables.specs.TablesRead.{all_names, tables_in_condition, tables_in_expression, tables_in_function}
use Rattle.std.proofs.Common.{map, ◌++◌}
use Rattle.streams.proofs.named.+tables_in_parts.Goals as goal

pub returns-in-Inner : goal.returns-in-Inner
returns-in-Inner t c =
    let l = c.in-Inner.left in
    let r = c.in-Inner.right in
    let sides = c.joined-sides.ensures (names_in_parts l) (names_in_parts r)
    (rw c.get-in-Inner.ensures at c.tables_in_parts-in-Inner.ensures) (rw c.get-in-Inner-2.ensures at c.tables_in_parts-in-Inner-2.ensures) in
    rw c.in-Inner.is (named-same _ _ (c.joined-in-Inner.ensures (tables_in_condition c.in-Inner.on) (names_in_parts l ++ names_in_parts r)
    (rw c.get-in-Inner-3.ensures at c.tables_in_condition-in-Inner.ensures.named) sides) (sym (names_inner c.in-Inner.on l r)))

pub returns-in-Left : goal.returns-in-Left
returns-in-Left t c =
    let l = c.in-Left.left in
    let r = c.in-Left.right in
    let sides = c.joined-sides-in-Left.ensures (names_in_parts l) (names_in_parts r)
    (rw c.get-in-Left.ensures at c.tables_in_parts-in-Left.ensures) (rw c.get-in-Left-2.ensures at c.tables_in_parts-in-Left-2.ensures) in
    rw c.in-Left.is (named-same _ _ (c.joined-in-Left.ensures (tables_in_condition c.in-Left.on) (names_in_parts l ++ names_in_parts r)
    (rw c.get-in-Left-3.ensures at c.tables_in_condition-in-Left.ensures.named) sides) (sym (names_left c.in-Left.on l r c.in-Left.width)))

pub returns-in-Half : goal.returns-in-Half
returns-in-Half t c =
    let l = c.in-Half.left in
    let r = c.in-Half.right in
    let sides = c.joined-sides-in-Half.ensures (names_in_parts l) (names_in_parts r)
    (rw c.get-in-Half.ensures at c.tables_in_parts-in-Half.ensures) (rw c.get-in-Half-2.ensures at c.tables_in_parts-in-Half-2.ensures) in
    rw c.in-Half.is (named-same _ _ (c.joined-in-Half.ensures (tables_in_condition c.in-Half.on) (names_in_parts l ++ names_in_parts r)
    (rw c.get-in-Half-3.ensures at c.tables_in_condition-in-Half.ensures.named) sides) (sym (names_half c.in-Half.on l r)))

pub returns-in-OppositeHalf : goal.returns-in-OppositeHalf
returns-in-OppositeHalf t c =
    let l = c.in-OppositeHalf.left in
    let r = c.in-OppositeHalf.right in
    let sides = c.joined-sides-in-OppositeHalf.ensures (names_in_parts l) (names_in_parts r)
    (rw c.get-in-OppositeHalf.ensures at c.tables_in_parts-in-OppositeHalf.ensures) (rw c.get-in-OppositeHalf-2.ensures at c.tables_in_parts-in-OppositeHalf-2.ensures) in
    rw c.in-OppositeHalf.is (named-same _ _ (c.joined-in-OppositeHalf.ensures (tables_in_condition c.in-OppositeHalf.on) (names_in_parts l ++ names_in_parts r)
    (rw c.get-in-OppositeHalf-3.ensures at c.tables_in_condition-in-OppositeHalf.ensures.named) sides) (sym (names_opposite c.in-OppositeHalf.on l r)))

pub returns-in-HashJoin : goal.returns-in-HashJoin
returns-in-HashJoin t c =
    let l = c.in-HashJoin.left in
    let r = c.in-HashJoin.right in
    let sides = c.joined-sides-in-HashJoin.ensures (names_in_parts l) (names_in_parts r)
    (rw c.get-in-HashJoin.ensures at c.tables_in_parts-in-HashJoin.ensures) (rw c.get-in-HashJoin-2.ensures at c.tables_in_parts-in-HashJoin-2.ensures) in
    rw c.in-HashJoin.is (named-same _ _ (c.joined-in-HashJoin.ensures (tables_in_condition c.in-HashJoin.on) (names_in_parts l ++ names_in_parts r)
    (rw c.get-in-HashJoin-3.ensures at c.tables_in_condition-in-HashJoin.ensures.named) sides) (sym (names_hash c.in-HashJoin.on l r c.in-HashJoin.left_places c.in-HashJoin.right_places)))

pub returns-in-Member : goal.returns-in-Member
returns-in-Member t c =
    let l = c.in-Member.members in
    let r = c.in-Member.rows in
    let sides = c.joined-sides-in-Member.ensures (names_in_parts l) (names_in_parts r)
    (rw c.get-in-Member.ensures at c.tables_in_parts-in-Member.ensures) (rw c.get-in-Member-2.ensures at c.tables_in_parts-in-Member-2.ensures) in
    rw c.in-Member.is (named-same _ _ (c.joined-in-Member.ensures (tables_in_expression c.in-Member.operand) (names_in_parts l ++ names_in_parts r)
    (rw c.get-in-Member-3.ensures at c.tables_in_expression.ensures.named) sides) (sym (names_member c.in-Member.operand c.in-Member.negated l r)))

pub returns-in-Group : goal.returns-in-Group
returns-in-Group t c =
    rw c.in-Group.is (named-same _ _ (c.joined-in-Group.ensures (all_names (map tables_in_function c.in-Group.functions)) (names_in_parts c.in-Group.rows)
    (rw c.as_slice.ensures at c.tables_in_functions.ensures.named) (rw c.get-in-Group.ensures at c.tables_in_parts-in-Group.ensures))
    (sym (names_group c.in-Group.columns c.in-Group.functions c.in-Group.rows)))

pub returns-in-Set : goal.returns-in-Set
returns-in-Set t c =
    rw c.in-Set.is (named-same _ _ (c.joined-in-Set.ensures (names_in_parts c.in-Set.left) (names_in_parts c.in-Set.right)
    (rw c.get-in-Set.ensures at c.tables_in_parts-in-Set.ensures) (rw c.get-in-Set-2.ensures at c.tables_in_parts-in-Set-2.ensures))
    (sym (names_set c.in-Set.field-0 c.in-Set.left c.in-Set.right)))

pub returns-in-IndexLoop : goal.returns-in-IndexLoop
returns-in-IndexLoop t c =
    rw c.in-IndexLoop.is (named-same _ _ (c.joined-in-IndexLoop.ensures (tables_in_condition c.in-IndexLoop.on) (names_in_parts c.in-IndexLoop.left)
    (rw c.get-in-IndexLoop.ensures at c.tables_in_condition-in-IndexLoop.ensures.named) (rw c.get-in-IndexLoop-2.ensures at c.tables_in_parts-in-IndexLoop.ensures))
    (sym (names_loop c.in-IndexLoop.on c.in-IndexLoop.left c.in-IndexLoop.places c.in-IndexLoop.table c.in-IndexLoop.columns)))
