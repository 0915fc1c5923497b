use Rattle.std.proofs.Common.{refl}
use Rattle.std.proofs.lemmas.Result.{IfOk-weaker}
use Rattle.constraints.specs.Foreseen.{Comes}
use Rattle.constraints.proofs.foreseeing.look_again.Goals as goal

pub returns-clause-found : goal.returns-clause-found
returns-clause-found g c = IfOk-weaker c.look_up.result _ _
    (λ foreseen h reading table others sound there decided order.
    h reading table (record table { rows = others }) table sound there decided (Comes.already others refl order refl refl))
    c.look_up.ensures.found
