use Rattle.std.proofs.Common.{[]}
use Rattle.std.proofs.lemmas.Result.{IfOk-weaker}
use Rattle.algebra.specs.Described.{described_in}
use Rattle.denote.specs.Database.{rows_in}
use Rattle.query_answers.proofs.Meant.{described_named}
use Rattle.update_delete.proofs.PlannedTrees.{filter-means}
use Rattle.update_delete.proofs.trees.filter_tree.Goals as goal

pub returns : goal.returns
returns c = record {
  tree = λ reading db good of.
      let schema = c.args.schema.now in
      let stand = c.planned_trees_mean_the_same.ensures.conditions (described_in schema) (described_named schema) (rows_in db)
      (λ query. c.described_tables_are_known.ensures.fits reading schema db (record { query = query; keys = [] }) good of) in
      IfOk-weaker c.filter_planned.result _ _
      (λ new keeps. record { means = filter-means (described_in schema) (rows_in db) stand c.args.filter.now new keeps })
      c.filter_planned.ensures;
}
