use Rattle.rewrite_laws.proofs.Conditions.{Denials, quiet-is}
use Rattle.rewrite_laws.proofs.JoinRuleLaws.{right-keep, regrouped-keeps}
use Rattle.rewrite_laws.proofs.JoinTrees.{q5, q7}
use Rattle.rewrite_laws.proofs.Nulls.{fails-on-nulls}
use Rattle.rewrite_laws.proofs.single.joins_become_others.Goals as goal

pub returns : goal.returns
returns c =
    let denied : Denials = record {
      condition = c.denials_are_certain.ensures.condition;
      expression = c.denials_are_certain.ensures.expression;
      plain = c.denials_are_certain.ensures.plain;
    } in
    record {
      into_the_right = λ on left right width w new wide calm e. right-keep denied on left right width w new calm wide e;
      inner = q5;
      regrouped = regrouped-keeps denied;
      unpadded = λ condition on left right width w wide calm e.
          q7 condition on left right width w wide (quiet-is denied condition calm) (fails-on-nulls condition w width e);
    }
