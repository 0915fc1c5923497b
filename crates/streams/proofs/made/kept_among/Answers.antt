use Rattle.std.proofs.Common.{ap, sym, ◌∙◌, subst}
use Rattle.denote.specs.Condition.{first_column}
use Rattle.key_tables.specs.Among.{AreMembers}
use Rattle.key_tables.specs.declared.members.Members.{Members}
use Rattle.executor.specs.Members.{HasMembers}
use Rattle.executor.specs.Reply.{as_list}
use Rattle.places.specs.Left.{members_listed}
use Rattle.streams.proofs.Blocks.{same-ending}
use Rattle.streams.proofs.made.kept_among.Goals as goal

pub returns-clause-lists : goal.returns-clause-lists
returns-clause-lists g c =
    let members = c.args.members in
    let list = c.list_of_members-list in
    let has : HasMembers list.result (members_listed members) = record {
      members = subst (λ (values : Members). AreMembers values (first_column members.rows)) (sym list.ensures.members) members.decides;
      end = ap as_list list.ensures.fault ∙ same-ending members.fault;
    } in
    c.kept_by_list-kept.ensures.lists (members_listed members) has
