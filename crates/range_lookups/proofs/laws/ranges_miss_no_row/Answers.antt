use Rattle.rewrite_laws.proofs.Conditions.{Denials}
use Rattle.range_lookups.proofs.Ranges.{calm, inside}
use Rattle.range_lookups.proofs.laws.ranges_miss_no_row.Goals as goal

pub returns : goal.returns
returns c =
    let denied : Denials = record {
      condition = c.denials_are_certain.ensures.condition;
      expression = c.denials_are_certain.ensures.expression;
      plain = c.denials_are_certain.ensures.plain;
    } in
    record { quiet = calm denied; within = inside }
