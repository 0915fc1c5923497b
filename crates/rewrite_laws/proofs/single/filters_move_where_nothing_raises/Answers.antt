use Rattle.rewrite_laws.proofs.Conditions.{Denials, quiet-is}
use Rattle.rewrite_laws.proofs.FilterRuleLaws.{parted-keeps, sides-keep, left-keep}
use Rattle.rewrite_laws.proofs.FilterTrees.{q16}
use Rattle.rewrite_laws.proofs.single.filters_move_where_nothing_raises.Goals as goal

pub returns : goal.returns
returns c =
    let denied : Denials = record {
      condition = c.denials_are_certain.ensures.condition;
      expression = c.denials_are_certain.ensures.expression;
      plain = c.denials_are_certain.ensures.plain;
    } in
    record {
      parted = parted-keeps denied;
      below = λ conditions left right w new wide calm e. sides-keep denied conditions left right w wide calm new e;
      to_the_left = λ conditions on left right width w new wide calm calm-on e.
          left-keep denied conditions left right w wide calm on right width calm-on new e;
      tried_first = λ first rest rows e. q16 first rest rows (quiet-is denied first e);
    }
