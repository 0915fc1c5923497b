use Rattle.session_laws.proofs.GoodSteps.{good_alone, good_new, good_run, good_history}
use Rattle.session_laws.proofs.Declarations.{declare_rightly}
use Rattle.session_laws.proofs.runs.databases_stay_good.Goals as goal

pub returns-clause-new_world : goal.returns-clause-new_world
returns-clause-new_world c = good_new

pub returns-clause-opened : goal.returns-clause-opened
returns-clause-opened c = λ reading db good. good_alone reading 0 db good

pub returns-clause-run : goal.returns-clause-run
returns-clause-run c = λ rules start end moments are good run. good_run rules (declare_rightly c.kept_checks_can_be_read.ensures c.declared_columns_are_there.ensures.created c.declared_columns_are_there.ensures.indexed
    c.what_is_referenced_is_there.ensures.free c.what_is_referenced_is_there.ensures.referenced c.what_is_referenced_is_there.ensures.dropped rules are) start end moments good run

pub returns-clause-committed : goal.returns-clause-committed
returns-clause-committed c = λ rules start end moments are good run. good_history rules (declare_rightly c.kept_checks_can_be_read.ensures c.declared_columns_are_there.ensures.created c.declared_columns_are_there.ensures.indexed
    c.what_is_referenced_is_there.ensures.free c.what_is_referenced_is_there.ensures.referenced c.what_is_referenced_is_there.ensures.dropped rules are) start end moments good run
