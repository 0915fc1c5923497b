use Rattle.std.proofs.Common.{refl, sym, subst, List}
use Rattle.sqlval.specs.declared.value.Value.{Value}
use Rattle.key_tables.specs.Among.{AreMembers}
use Rattle.executor.proofs.SubqueryLemmas.{first-column-of}
use Rattle.executor.proofs.subqueries.list_of_values.Goals as goal

pub returns : goal.returns
returns c = record {
  members = subst (λ (values : List Value). AreMembers c.in_ok-members.members values) (sym (first-column-of c.args.values.now)) c.in_ok-members.ensures;
  end = refl;
}
