use Rattle.std.proofs.Common.{[]}
use Rattle.algebra.specs.Described.{described_in}
use Rattle.denote.specs.Database.{rows_in}
use Rattle.query_answers.proofs.Meant.{described_named}
use Rattle.algebra.specs.Translated.{tree_of_query}
use Rattle.rules.specs.Same.{Fits}
use Rattle.typing.specs.declared.typed.Query.{Query}
use Rattle.update_delete.proofs.PlannedTrees.{filter-means, sources-mean}
use Rattle.update_delete.proofs.trees.update_trees.Goals as goal

pub returns : goal.returns
returns c = record {
  trees = λ reading db good of.
      let schema = c.args.schema.now in
      let u = c.args.update.now in
      let fits : (query : Query) → Fits (rows_in db) (tree_of_query (described_in schema) query) = λ query. c.described_tables_are_known.ensures.fits reading schema db (record { query = query; keys = [] }) good of in
      record {
        filter = filter-means (described_in schema) (rows_in db)
            (c.planned_trees_mean_the_same.ensures.conditions (described_in schema) (described_named schema) (rows_in db) fits)
            u.filter c.in_ok-filter.filter c.in_ok-filter.ensures;
        columns = rw c.as_slice.ensures at c.in_ok-columns.ensures;
        sources = sources-mean (described_in schema) (rows_in db)
            (c.planned_trees_mean_the_same.ensures.expressions (described_in schema) (described_named schema) (rows_in db) fits)
            u.assignments c.in_ok-sources.sources (rw c.as_slice-2.ensures at c.in_ok-sources.ensures);
      };
}
