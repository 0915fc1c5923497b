use Rattle.query_answers.proofs.planned.planned.Goals as goal

pub returns-in-Ok-clause-stored : goal.returns-in-Ok-clause-stored
returns-in-Ok-clause-stored c = (c.rules_keep_the_outcome.ensures.replayed _ _ _ c.in-Ok.ensures.replays).stored

pub returns-in-Ok-clause-keeps : goal.returns-in-Ok-clause-keeps
returns-in-Ok-clause-keeps c = c.rules_keep_the_outcome.ensures.replayed _ _ _ c.in-Ok.ensures.replays
