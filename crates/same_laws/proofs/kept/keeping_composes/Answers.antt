use Rattle.same_laws.proofs.Composed.{keeps-refl, keeps-trans}
use Rattle.same_laws.proofs.kept.keeping_composes.Goals as goal

pub returns : goal.returns
returns c = record { itself = keeps-refl; through = λ new between old first then. keeps-trans old between new first then }
