-- What a session keeps of its queries and cursors may go to another thread. One search over all of
-- it gives up, so each type that reaches itself has a lemma of its own.
use denote.Param.Send.{IsSend, sendable}
use denote.Param.SendFields.{declared_send}
use Rattle.std.proofs.Crossing.{crosses}
use Rattle.std.proofs.option.Option.TheSendSync as option
use Rattle.std.proofs.rt.Memory.TheSendSync as memory
use Rattle.std.proofs.boxed.Box.TheSendSync as box
use Rattle.std.proofs.vec.Vec.TheSendSync as vec
use Rattle.std.proofs.collections.BTreeMap.TheSendSync as tree_map
use Rattle.std.proofs.collections.BTreeSet.TheSendSync as tree_set
use Rattle.std.proofs.collections.VecDeque.TheSendSync as deque
use Rattle.std.proofs.vec.IntoIter.TheSendSync as into_iter
use Rattle.std.proofs.alloc.Global.TheSendSync as global
use Rattle.std.below.std_heap.proofs.GlobalAllocator.TheSendSync as allocator
use Rattle.items.proofs.boxed.Boxed.TheSendSync as boxed
use Rattle.items.proofs.character_string.Text.TheSendSync as text
use Rattle.items.proofs.list.Items.TheSendSync as items
use Rattle.sqlval.proofs.comparison.CompOp.TheSendSync as comparison
use Rattle.sqlval.proofs.truth.Truth.TheSendSync as truth
use Rattle.sqlval.proofs.value.Value.TheSendSync as value
use Rattle.lexer.proofs.names.Name.TheSendSync as text_name
use Rattle.ast.proofs.operator.AddOperator.TheSendSync as add_operator
use Rattle.ast.proofs.operator.Alias.TheSendSync as alias
use Rattle.ast.proofs.operator.Column.TheSendSync as column
use Rattle.ast.proofs.operator.Comparison.TheSendSync as written_comparison
use Rattle.ast.proofs.operator.Direction.TheSendSync as direction
use Rattle.ast.proofs.operator.Literal.TheSendSync as literal
use Rattle.ast.proofs.operator.MultiplyOperator.TheSendSync as multiply_operator
use Rattle.ast.proofs.operator.Quantifier.TheSendSync as quantifier
use Rattle.ast.proofs.operator.SetFunction.TheSendSync as set_function
use Rattle.ast.proofs.operator.SetOperator.TheSendSync as written_operator
use Rattle.ast.proofs.operator.Sign.TheSendSync as sign
use Rattle.ast.proofs.operator.TruthTest.TheSendSync as truth_test
use Rattle.ast.proofs.operator.TruthValue.TheSendSync as truth_value
use Rattle.ast.proofs.statement.SortColumn.TheSendSync as sort_column
use Rattle.ast.proofs.statement.SortKey.TheSendSync as sort_key
use Rattle.typing.proofs.typed.Arithmetic.TheSendSync as arithmetic
use Rattle.typing.proofs.typed.OrderKey.TheSendSync as order_key
use Rattle.typing.proofs.typed.SetFunctionType.TheSendSync as function_type
use Rattle.typing.proofs.typed.SetOperation.TheSendSync as set_operation
use Rattle.typing.proofs.typed.SetOperator.TheSendSync as set_operator
use Rattle.ast.proofs.tree.Join.TheLaws.TheKnot as query_knot
use Rattle.denote.proofs.fault.Fault.TheSendSync as fault
use Rattle.store.proofs.rows.Position.TheSendSync as position
use Rattle.algebra.proofs.tree.Bound.TheSendSync as bound
use Rattle.algebra.proofs.tree.StoredTable.TheSendSync as stored_table
use Rattle.algebra.proofs.tree.Condition.TheLaws.TheKnot as tree_knot
use Rattle.key_tables.proofs.kept_keys.KeptKeys.TheSendSync as kept_keys
use Rattle.key_tables.proofs.member.Member.TheSendSync as one_member
use Rattle.key_tables.proofs.members.Members.TheSendSync as member_values
use Rattle.places.proofs.place.KeyedRows.TheSendSync as keyed_rows
use Rattle.places.proofs.place.Members.TheSendSync as members
use Rattle.places.proofs.place.Place.TheLaws.TheKnot as place_knot
use Rattle.ast.specs.contracts.statement.OrderedQuery as ordered_query
use Rattle.algebra.specs.contracts.tree.Tree as tree
use Rattle.places.specs.contracts.place.Place as place
use Rattle.cursors.specs.contracts.cursor.OpenCursor as open_cursor
use Rattle.cursors.specs.contracts.held.Declared as declared
use Rattle.cursors.specs.contracts.held.Cursors as cursors

ruleset lists = (
  sendable,
  crosses,
  option.the_send,
  option.the_field_send,
  memory.the_send,
  box.the_send,
  vec.the_send,
  tree_map.the_send,
  tree_set.the_send,
  deque.the_send,
  into_iter.the_send,
  global.the_send,
  allocator.the_frees,
  boxed.the_send,
  text.the_send,
  text_name.the_send,
  items.the_send,
)

ruleset words = (
  add_operator.the_send,
  add_operator.the_field_send,
  alias.the_send,
  alias.the_field_send,
  column.the_send,
  column.the_field_send,
  written_comparison.the_send,
  written_comparison.the_field_send,
  direction.the_send,
  direction.the_field_send,
  literal.the_send,
  literal.the_field_send,
  multiply_operator.the_send,
  multiply_operator.the_field_send,
  quantifier.the_send,
  quantifier.the_field_send,
  set_function.the_send,
  set_function.the_field_send,
  written_operator.the_send,
  written_operator.the_field_send,
  sign.the_send,
  sign.the_field_send,
  truth_test.the_send,
  truth_test.the_field_send,
  truth_value.the_send,
  truth_value.the_field_send,
  sort_column.the_send,
  sort_column.the_field_send,
  sort_key.the_send,
  sort_key.the_field_send,
)

ruleset values = (
  comparison.the_send,
  comparison.the_field_send,
  truth.the_send,
  truth.the_field_send,
  value.the_send,
  value.the_field_send,
  arithmetic.the_send,
  arithmetic.the_field_send,
  function_type.the_send,
  function_type.the_field_send,
  set_operator.the_send,
  set_operator.the_field_send,
  set_operation.the_send,
  set_operation.the_field_send,
  order_key.the_send,
  order_key.the_field_send,
  fault.the_send,
  fault.the_field_send,
  position.the_send,
  position.the_field_send,
)

ruleset plans = (
  bound.the_send,
  bound.the_field_send,
  stored_table.the_send,
  stored_table.the_field_send,
  one_member.the_send,
  one_member.the_field_send,
  member_values.the_send,
  member_values.the_field_send,
  kept_keys.the_send,
  kept_keys.the_field_send,
  keyed_rows.the_send,
  keyed_rows.the_field_send,
  members.the_send,
  members.the_field_send,
)

query_send : IsSend ordered_query.the_row
query_send = search (lists, words, query_knot.send-Query) depth 40

tree_send : IsSend tree.the_row
tree_send = search (lists, values, plans, tree_knot.send-Tree) depth 40

place_send : IsSend place.the_row
place_send = search (lists, values, plans, place_knot.send-Place) depth 40

pub open_cursor_send : IsSend open_cursor.the_row
open_cursor_send = declared_send open_cursor.the_type (search (lists, tree_send), (search (lists, tree_send), (search (lists, values), (search (place_send), tt))))

declared_query_send : IsSend declared.the_row
declared_query_send = declared_send declared.the_type (search lists, (search (query_send), (search (lists, open_cursor_send), tt)))

pub cursors_send : IsSend cursors.the_row
cursors_send = declared_send cursors.the_type (search (lists, declared_query_send), (search (lists, open_cursor_send), tt))
