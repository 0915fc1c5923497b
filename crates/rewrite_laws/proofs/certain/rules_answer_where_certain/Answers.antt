use Rattle.rewrite_laws.proofs.CertainLaws.{answers-certainly}
use Rattle.rewrite_laws.proofs.Conditions.{Denials}
use Rattle.rewrite_laws.proofs.certain.rules_answer_where_certain.Goals as goal

pub returns : goal.returns
returns c =
    let denied : Denials = record {
      condition = c.denials_are_certain.ensures.condition;
      expression = c.denials_are_certain.ensures.expression;
      plain = c.denials_are_certain.ensures.plain;
    } in
    answers-certainly denied
