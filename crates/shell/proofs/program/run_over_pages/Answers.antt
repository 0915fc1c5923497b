use Rattle.std.proofs.Common.{refl, inl}
use Rattle.std.specs.FinMap.{empty}
use Rattle.std.proofs.lemmas.Result.{IfOk-weaker}
use Rattle.shell.proofs.program.run_over_pages.Goals as goal

pub returns-clause-status : goal.returns-clause-status
returns-clause-status g c = c.run_over.ensures.status

pub returns-clause-runs : goal.returns-clause-runs
returns-clause-runs g c = c.run_over.ensures.runs

pub returns-clause-new : goal.returns-clause-new
returns-clause-new g c =
    IfOk-weaker c.args.device _ _
    (λ device runs rules are honest bare. runs rules empty are (honest, inl (bare, refl)) (c.databases_stay_good.ensures.new_world rules.check).last)
    c.run_over.ensures.runs

pub returns-clause-ends : goal.returns-clause-ends
returns-clause-ends g c = c.run_over.ensures.ends

pub returns-clause-unreadable : goal.returns-clause-unreadable
returns-clause-unreadable g c = c.run_over.ensures.unreadable

pub returns-clause-begun : goal.returns-clause-begun
returns-clause-begun g c = c.run_over.ensures.begun

pub returns-clause-not_opened : goal.returns-clause-not_opened
returns-clause-not_opened g c = c.run_over.ensures.not_opened

pub returns-clause-nothing : goal.returns-clause-nothing
returns-clause-nothing g c = c.run_over.ensures.nothing
