use Rattle.std.proofs.Common.{sym, ap, subst, ◌∙◌, Result}
use Rattle.sqlval.specs.declared.value.Value.{Value}
use Rattle.denote.specs.Condition.{first_column}
use Rattle.denote.specs.declared.fault.Stop.{Stop}
use Rattle.executor.specs.Reply.{Gives as IsGiven, as_list}
use Rattle.executor.proofs.SubqueryLemmas.{members-fault, members-found}
use Rattle.executor.proofs.subqueries.among_members.Goals as goal

pub returns-in-Some : goal.returns-in-Some
returns-in-Some c = record {
  gives = λ meant listed x has.
      let value = (subst (λ (reply : Result Value Stop). IsGiven reply meant) c.in-Ok.is x).ok in
      members-fault meant listed c.in-Ok.x c.in-Some.fault value (sym (ap as_list c.in-Some.is) ∙ has.end);
}

pub returns-in-None : goal.returns-in-None
returns-in-None c = record {
  gives = λ meant listed x has.
      let value = (subst (λ (reply : Result Value Stop). IsGiven reply meant) c.in-Ok.is x).ok in
      members-found meant listed c.in-Ok.x c.truth_of.result value (sym (ap as_list c.in-None.is) ∙ has.end) (c.truth_of.ensures (first_column listed.rows) has.members);
}
