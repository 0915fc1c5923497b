use Rattle.change.proofs.Named.{decided, there, readable, refused_as, refused_good, no_limit}
use Rattle.change.proofs.named_checks.named_checks.Goals as goal

pub returns-in-Ok-clause-there : goal.returns-in-Ok-clause-there
returns-in-Ok-clause-there c = λ db of. there c.args.schema.now db c.args.name.now c.in-Some.table.now of c.in-Some.ensures.there c.in-Some.ensures.named

pub returns-in-Ok-clause-decides : goal.returns-in-Ok-clause-decides
returns-in-Ok-clause-decides c = λ reading db is_reading of.
    decided reading c.args.schema.now db c.args.name.now c.in-Some.table.now c.in-Ok.checks.conditions of c.in-Some.ensures.there c.in-Some.ensures.named (c.in-Ok.ensures.decides reading is_reading)

pub returns-in-Err-clause-refused : goal.returns-in-Err-clause-refused
returns-in-Err-clause-refused c = refused_as c.in-Err.fault c.refusal_of.result c.refusal_of.ensures.memory c.refusal_of.ensures.damaged

pub returns-in-Err-clause-good : goal.returns-in-Err-clause-good
returns-in-Err-clause-good c = λ reading db of good. refused_good c.in-Err.fault c.refusal_of.result c.refusal_of.ensures.memory
    (λ unreadable. c.in-Err.ensures.unreadable unreadable (readable reading c.args.schema.now db c.args.name.now c.in-Some.table.now of c.in-Some.ensures.there c.in-Some.ensures.named good))

pub returns-in-Err-clause-limits : goal.returns-in-Err-clause-limits
returns-in-Err-clause-limits c = no_limit c.refusal_of.result (refused_as c.in-Err.fault c.refusal_of.result c.refusal_of.ensures.memory c.refusal_of.ensures.damaged)

pub returns-in-Ok-clause-refused : goal.returns-in-Ok-clause-refused
returns-in-Ok-clause-refused c = tt

pub returns-in-Ok-clause-limits : goal.returns-in-Ok-clause-limits
returns-in-Ok-clause-limits c = tt

pub returns-in-Ok-clause-good : goal.returns-in-Ok-clause-good
returns-in-Ok-clause-good c = tt

pub returns-in-Err-clause-there : goal.returns-in-Err-clause-there
returns-in-Err-clause-there c = tt

pub returns-in-Err-clause-decides : goal.returns-in-Err-clause-decides
returns-in-Err-clause-decides c = tt
