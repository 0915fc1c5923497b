use Rattle.rule_laws.proofs.theorems.what_holds_by_all_rules_is_of_an_engine.Goals as goal

pub returns-clause-step : goal.returns-clause-step
returns-clause-step c old new s text reply h =
    let (rules, are) = c.there_are_rules.ensures in record { rules = rules; are = are; step = h rules are }

pub returns-clause-run : goal.returns-clause-run
returns-clause-run c start end moments h =
    let (rules, are) = c.there_are_rules.ensures in record { rules = rules; are = are; run = h rules are }

pub returns-clause-script : goal.returns-clause-script
returns-clause-script c old new pieces printed h =
    let (rules, are) = c.there_are_rules.ensures in record { rules = rules; are = are; played = h rules are }
