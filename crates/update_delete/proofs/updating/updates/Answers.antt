use Rattle.std.proofs.Common.{[]}
use Rattle.denote.specs.Database.{table_of}
use Rattle.query_answers.specs.Lent.{rows_lent}
use Rattle.update_delete.specs.Given.{update_given}
use Rattle.update_delete.proofs.Coming.{gives-many}
use Rattle.update_delete.proofs.KeptChangeLemmas.{updates_stay}
use Rattle.update_delete.proofs.Meant.{updates_meant}
use Rattle.update_delete.proofs.updating.updates.Goals as goal

pub returns-in-Ok-clause-gives : goal.returns-in-Ok-clause-gives
returns-in-Ok-clause-gives c = λ tables conditions u whole test rows others agree of checked.
    updates_meant c.evaluation_keeps_the_meaning.ensures.truth c.values_read_their_tables.ensures c.listings_read_their_tables.ensures
    (rows_lent c.args.lent.now.tables) tables conditions c.args.checks.now (table_of c.args.table.now whole) u c.args.update.now c.args.rows.now test c.all_updates.result rows others agree of checked
    (updates_stay c.kept_trees_mean_the_same.ensures.conditions c.kept_trees_mean_the_same.ensures.expressions (rows_lent c.args.lent.now.tables) c.args.checks.now (table_of c.args.table.now [])
    c.in-Ok.kept c.args.update.now c.args.rows.now c.all_updates.result c.in-Ok.ensures c.all_updates.ensures)

pub returns-in-Ok-clause-as_many : goal.returns-in-Ok-clause-as_many
returns-in-Ok-clause-as_many c =
    gives-many (update_given (rows_lent c.args.lent.now.tables) c.args.checks.now (table_of c.args.table.now []) c.in-Ok.kept) c.args.rows.now c.all_updates.result c.all_updates.ensures
