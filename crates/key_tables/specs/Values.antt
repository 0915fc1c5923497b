-- Members in the order of values.
use Rattle.std.specs.declared.cmp.Ordering.{Ordering}
use Rattle.std.specs.Cmp.{IsTotalOrder, on_total}
use Rattle.std.specs.Ordering.{on}
use Rattle.sqlval.specs.Comparison.{value_order}
use Rattle.sqlval.proofs.ValueOrderLaws.{value_order_total}
use Rattle.key_tables.specs.declared.member.Member.{Member}

abbrev pub member_order : Member → Member → Ordering
member_order = on (λ (member : Member). member.value) value_order

pub member_order_total : IsTotalOrder member_order
member_order_total = on_total (λ (member : Member). member.value) value_order_total
