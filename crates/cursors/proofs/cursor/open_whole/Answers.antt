use Rattle.cursors.proofs.cursor.open_whole.Goals as goal

pub returns-in-Ok-clause-begins : goal.returns-in-Ok-clause-begins
returns-in-Ok-clause-begins g c = λ sound stands. c.at_beginning.ensures.begins _ ((rw (c.in-Ok.is, c.get.ensures) at c.run_plan.ensures.lists) sound stands.indexed) stands.same

pub returns-in-Ok-clause-tree : goal.returns-in-Ok-clause-tree
returns-in-Ok-clause-tree g c = c.at_beginning.ensures.tree

pub returns-in-Ok-clause-refused : goal.returns-in-Ok-clause-refused
returns-in-Ok-clause-refused g c = tt

pub returns-in-Ok-clause-limits : goal.returns-in-Ok-clause-limits
returns-in-Ok-clause-limits g c = tt

pub returns-in-Ok-clause-counts : goal.returns-in-Ok-clause-counts
returns-in-Ok-clause-counts g c = tt

pub returns-in-Ok-clause-follows : goal.returns-in-Ok-clause-follows
returns-in-Ok-clause-follows g c = c.run_plan.ensures.follows

pub returns-in-Err-clause-begins : goal.returns-in-Err-clause-begins
returns-in-Err-clause-begins g c = tt

pub returns-in-Err-clause-tree : goal.returns-in-Err-clause-tree
returns-in-Err-clause-tree g c = tt

pub returns-in-Err-clause-follows : goal.returns-in-Err-clause-follows
returns-in-Err-clause-follows g c = c.run_plan.ensures.follows

pub returns-in-Err-clause-refused : goal.returns-in-Err-clause-refused
returns-in-Err-clause-refused g c = c.in-Err.ensures.refused

pub returns-in-Err-clause-limits : goal.returns-in-Err-clause-limits
returns-in-Err-clause-limits g c = c.in-Err.ensures.limits
