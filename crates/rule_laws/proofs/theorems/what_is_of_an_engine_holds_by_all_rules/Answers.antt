use Rattle.rule_laws.proofs.Engines.{good_world_by, played_by, run_by, step_by}
use Rattle.rule_laws.proofs.theorems.what_is_of_an_engine_holds_by_all_rules.Goals as goal

pub returns-clause-step : goal.returns-clause-step
returns-clause-step c rules old new s text reply are good h =
    step_by h.rules rules h.are are (λ start end moments. c.databases_stay_good.ensures.run h.rules start end moments h.are) old new s text reply
    (good_world_by rules.check h.rules.check are.checks h.are.checks old good) h.step

pub returns-clause-run : goal.returns-clause-run
returns-clause-run c rules start end moments are good h =
    run_by h.rules rules h.are are (λ first last events. c.databases_stay_good.ensures.run h.rules first last events h.are) start end moments
    (good_world_by rules.check h.rules.check are.checks h.are.checks start good) h.run

pub returns-clause-script : goal.returns-clause-script
returns-clause-script c rules old new pieces printed are good h =
    played_by h.rules rules h.are are (λ start end moments. c.databases_stay_good.ensures.run h.rules start end moments h.are) old new pieces printed
    (good_world_by rules.check h.rules.check are.checks h.are.checks old good) h.played
