use Rattle.typing.specs.Insert.{stored_as}
use Rattle.type_rules.proofs.FindsLemmas.{Finds-ok, then-ok}
use Rattle.change_types.proofs.sources.stored.Goals as goal

pub returns-in-Some : goal.returns-in-Some
returns-in-Some c = λ x h. then-ok c.args.source _ _ x (stored_as c.args.wanted) c.in_ok-typed.was h (rw c.in-Some.is (c.of_type.ensures _ (Finds-ok _)))

pub returns-in-None : goal.returns-in-None
returns-in-None c = λ x h. then-ok c.args.source _ _ x (stored_as c.args.wanted) c.in_ok-typed.was h (rw c.in-None.is (Finds-ok _))
