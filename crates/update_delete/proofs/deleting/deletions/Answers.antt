use Rattle.query_answers.specs.Lent.{rows_lent}
use Rattle.update_delete.specs.Given.{deletion_given}
use Rattle.update_delete.proofs.Coming.{gives-many}
use Rattle.update_delete.proofs.KeptChangeLemmas.{deletions_stay}
use Rattle.update_delete.proofs.Meant.{deletions_meant}
use Rattle.update_delete.proofs.Reaching.{deletions_spare}
use Rattle.update_delete.proofs.deleting.deletions.Goals as goal

pub returns-in-Ok : goal.returns-in-Ok
returns-in-Ok c = record {
  gives = λ tables table d test rows others agree of.
      deletions_meant c.values_read_their_tables.ensures c.listings_read_their_tables.ensures
      (rows_lent c.args.lent.now.tables) tables table d c.args.filter.now c.args.rows.now test c.all_deletions.result rows others agree of
      (deletions_stay c.kept_trees_mean_the_same.ensures.conditions (rows_lent c.args.lent.now.tables) c.in-Ok.kept c.args.filter.now c.args.rows.now c.all_deletions.result c.in-Ok.ensures c.all_deletions.ensures);
  spares = deletions_spare (rows_lent c.args.lent.now.tables) c.in-Ok.kept c.args.rows.now c.all_deletions.result c.all_deletions.ensures;
  as_many = gives-many (deletion_given (rows_lent c.args.lent.now.tables) c.in-Ok.kept) c.args.rows.now c.all_deletions.result c.all_deletions.ensures;
}
