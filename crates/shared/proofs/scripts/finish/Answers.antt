use Rattle.std.proofs.Common.{sym, subst}
use Rattle.shared.specs.Scripts.{Asks, closing}
use Rattle.shared.specs.Callers.{past_of, stands_of}
use Rattle.shared.specs.declared.jobs.Caller.{Caller}
use Rattle.shared.proofs.Asking.{asks_one}
use Rattle.shared.proofs.scripts.finish.Goals as goal

pub returns-in-Stands : goal.returns-in-Stands
returns-in-Stands g c = subst (λ (x : Caller g.row.J.Denot). Asks (past_of x) (closing (stands_of x)) c.end.result) (sym c.in-Stands.is) (asks_one _ _ _ _ _ _ c.end.ensures.call)
