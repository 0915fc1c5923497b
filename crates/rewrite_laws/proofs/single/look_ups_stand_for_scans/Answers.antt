use Rattle.rewrite_laws.proofs.Conditions.{Denials, quiet-is}
use Rattle.rewrite_laws.proofs.JoinColumnRules.{places-equate}
use Rattle.rewrite_laws.proofs.JoinColumns.{join-equates}
use Rattle.rewrite_laws.proofs.JoinTrees.{q10, q11}
use Rattle.rewrite_laws.proofs.LookupRuleLaws.{LookUps, sought-keeps, range-keeps}
use Rattle.rules.specs.JoinKeys.{join_pairs, left_places, right_places}
use Rattle.rewrite_laws.proofs.single.look_ups_stand_for_scans.Goals as goal

pub returns : goal.returns
returns c =
    let denied : Denials = record {
      condition = c.denials_are_certain.ensures.condition;
      expression = c.denials_are_certain.ensures.expression;
      plain = c.denials_are_certain.ensures.plain;
    } in
    let found : LookUps = record {
      calm = c.look_ups_miss_no_row.ensures.quiet;
      matching = c.look_ups_miss_no_row.ensures.matching;
    } in
    record {
      sought = sought-keeps found;
      within = range-keeps denied;
      hashed = λ on left right w wide calm.
          q10 on left right w (left_places (join_pairs w on)) (right_places (join_pairs w on)) wide (quiet-is denied on calm)
          (join-equates on w);
      looped = λ on left table columns places w wide calm e.
          q11 on left table w places columns wide (quiet-is denied on calm) (places-equate on w columns places e);
    }
