use Rattle.type_rules.proofs.FindsLemmas.{Finds-ok, then-ok}
use Rattle.table_types.proofs.Texts.{text-is}
use Rattle.table_types.proofs.rules.kept.Goals as goal

pub returns-in-Some : goal.returns-in-Some
returns-in-Some c = λ x h. then-ok c.args.found _ _ x _ c.in_ok-found.was h (rw (text-is c.args.text c.in-Some.text c.in-Some.ensures) (Finds-ok _))
