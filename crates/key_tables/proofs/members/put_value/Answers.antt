use Rattle.std.proofs.Common.{◌∙◌, ap, cond, true}
use Rattle.std.specs.Ordering.{is_eq}
use Rattle.std.specs.BTreeSet.{contains}
use Rattle.sqlval.specs.Comparison.{value_order}
use Rattle.key_tables.specs.Values.{member_order}
use Rattle.key_tables.proofs.members.put_value.Goals as goal

pub returns : goal.returns
returns c = record {
  adds = λ other. c.in_ok-insert.ensures.updates.0 other
      ∙ ap (λ x. cond (is_eq (value_order x other.value)) true (contains member_order c.args.values.now other)) c.in_ok-value.ensures;
}
