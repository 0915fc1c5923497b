use Rattle.type_rules.proofs.FindsLemmas.{Finds-ok, then-ok}
use Rattle.type_rules.proofs.conditions.query_of.Goals as goal

pub returns : goal.returns
returns c = λ p h. then-ok c.args.parts _ _ p _ c.in_ok-x.was h (c.queried.ensures _ (c.of_type.ensures _ (Finds-ok _)))
