use Rattle.foreign_keys.proofs.sources.source_of.Goals as goal

pub returns-in-Some-clause-is : goal.returns-in-Some-clause-is
returns-in-Some-clause-is g c = λ from to sound some. rw c.in-Some.is at some

pub returns-in-Ok-clause-is : goal.returns-in-Ok-clause-is
returns-in-Ok-clause-is g c = λ from to sound some. (c.in-Ok.ensures.rows sound).rows
