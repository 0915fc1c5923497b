-- Lists whose members are asked for.
use Rattle.std.specs.Prelude.{◌≡◌}
use Rattle.denote.specs.Condition.{first_column}
use Rattle.denote.specs.Outcome.{Outcome}
use Rattle.key_tables.specs.Among.{AreMembers}
use Rattle.executor.specs.declared.subqueries.MemberList.{MemberList}
use Rattle.executor.specs.Reply.{as_list}

-- the first column of this list, and the fault that ends it
pub record HasMembers (list : MemberList) (listed : Outcome) : Type 0 where
  pub members : AreMembers list.members (first_column listed.rows)
  pub end : as_list list.fault ≡ listed.faults
