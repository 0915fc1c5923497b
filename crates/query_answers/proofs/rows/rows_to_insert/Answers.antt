use Rattle.std.proofs.Common.{[]}
use Rattle.denote.specs.Database.{table_of}
use Rattle.query_answers.proofs.Answering.{raised_tells}
use Rattle.query_answers.proofs.Meant.{rows-show, stored_meant, fault_meant}
use Rattle.query_answers.proofs.rows.rows_to_insert.Goals as goal

pub returns-in-Ok-clause-gives : goal.returns-in-Ok-clause-gives
returns-in-Ok-clause-gives c = λ tables conditions rows agree are checked.
    stored_meant _ _ _ c.in-Ok.ensures.ok
    (rows-show c.evaluation_keeps_the_meaning.ensures.truth tables c.values_read_their_tables.ensures _ conditions c.args.checks.now (table_of c.args.table.now []) c.args.columns.now rows c.args.trees.now agree are checked)

pub returns-in-Err-Fault-clause-refused : goal.returns-in-Err-Fault-clause-refused
returns-in-Err-Fault-clause-refused c = λ tables conditions rows agree are checked.
    fault_meant c.in-Err-Fault.fault _ _ _ c.refusal_of_fault.ensures (rw c.in-Err-Fault.field-0-is at c.in-Err-Fault.ensures.err)
    (rows-show c.evaluation_keeps_the_meaning.ensures.truth tables c.values_read_their_tables.ensures _ conditions c.args.checks.now (table_of c.args.table.now []) c.args.columns.now rows c.args.trees.now agree are checked)

pub returns-in-Err-Fault-clause-limits : goal.returns-in-Err-Fault-clause-limits
returns-in-Err-Fault-clause-limits c = raised_tells c.in-Err-Fault.fault _ c.refusal_of_fault.ensures
