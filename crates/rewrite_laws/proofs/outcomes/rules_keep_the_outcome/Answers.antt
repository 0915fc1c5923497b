use Rattle.rewrite_laws.proofs.Conditions.{Denials}
use Rattle.rewrite_laws.proofs.LookupRuleLaws.{LookUps}
use Rattle.rewrite_laws.proofs.RuleLaws.{applied-keeps-all, replayed-keeps}
use Rattle.rewrite_laws.proofs.outcomes.rules_keep_the_outcome.Goals as goal

pub returns : goal.returns
returns c =
    let denied : Denials = record {
      condition = c.denials_are_certain.ensures.condition;
      expression = c.denials_are_certain.ensures.expression;
      plain = c.denials_are_certain.ensures.plain;
    } in
    let found : LookUps = record {
      calm = c.look_ups_miss_no_row.ensures.quiet;
      matching = c.look_ups_miss_no_row.ensures.matching;
    } in
    record { applied = applied-keeps-all denied found; replayed = replayed-keeps denied found }
