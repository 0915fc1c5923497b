use Rattle.std.proofs.Common.{[]}
use Rattle.std.proofs.lemmas.Result.{IfOk-weaker}
use Rattle.algebra.specs.Described.{described_in}
use Rattle.denote.specs.Database.{rows_in}
use Rattle.query_answers.proofs.Meant.{described_named}
use Rattle.query_answers.proofs.PlannedSources.{rows-mean}
use Rattle.query_answers.proofs.sources.source_trees.Goals as goal

pub returns : goal.returns
returns c = record {
  trees = λ reading db good of.
      let schema = c.args.schema.now in
      let stand = c.planned_trees_mean_the_same.ensures.expressions (described_in schema) (described_named schema) (rows_in db)
      (λ query. c.described_tables_are_known.ensures.fits reading schema db (record { query = query; keys = [] }) good of) in
      IfOk-weaker c.planned_rows.result _ _
      (λ new keeps. record { mean = rows-mean (described_in schema) (rows_in db) stand c.args.rows.now new keeps })
      c.planned_rows.ensures;
  known = c.planned_rows.ensures;
}
