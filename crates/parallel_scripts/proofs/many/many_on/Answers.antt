use Rattle.parallel_scripts.proofs.Endings.{ends_by}
use Rattle.parallel_scripts.proofs.Histories.{or_else, told_unopened}
use Rattle.parallel_scripts.proofs.many.many_on.Goals as goal

pub returns-clause-many : goal.returns-clause-many
returns-clause-many g c = λ more. ends_by _ _ _ _ _ _ _ (c.count_and_run-outcome.ensures.many more) c.ended-status.ensures.ends

pub returns-clause-runs : goal.returns-clause-runs
returns-clause-runs g c = λ db saved. ends_by _ _ _ _ _ _ _ (c.count_and_run-outcome.ensures.runs db saved) c.ended-status.ensures.ends

pub returns-clause-begun : goal.returns-clause-begun
returns-clause-begun g c = λ begun. or_else _ _ _ (λ comes. ends_by _ _ _ _ _ _ _ comes c.ended-status.ensures.ends) (c.count_and_run-outcome.ensures.begun begun)

pub returns-clause-unopened : goal.returns-clause-unopened
returns-clause-unopened g c = told_unopened g.S.Store.is_honest g.S.Store.same _ _ c.args.device (λ refusal status told. ends_by _ _ _ _ _ _ _ told c.ended-status.ensures.ends) c.count_and_run-outcome.result.back c.count_and_run-outcome.ensures.unopened

pub returns-clause-back : goal.returns-clause-back
returns-clause-back g c = c.count_and_run-outcome.ensures.back

pub returns-clause-any_device : goal.returns-clause-any_device
returns-clause-any_device g c = c.count_and_run-outcome.ensures.any_device
