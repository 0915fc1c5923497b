-- Plans by which queries are answered.
use Rattle.std.specs.Prelude.{[]}
use Rattle.typing.specs.declared.typed.OrderedQuery.{OrderedQuery}
use Rattle.typing.specs.declared.typed.Query.{Query}
use Rattle.algebra.specs.Listing.{reply_of, tree_listing}
use Rattle.algebra.specs.declared.tree.Tree.{Tree}
use Rattle.denote.specs.Answer.{Answers}
use Rattle.denote.specs.Query.{denotes}
use Rattle.places.specs.Indexes.{HasIndexes}
use Rattle.query_answers.specs.Answered.{rows_found}
use Rattle.rules.specs.Same.{IsSameTree}
use Rattle.store.specs.Contents.{Contents, database_of}

-- What the plan lists over the stored tables answers the query, and these have the indexes that it
-- reads by.
pub record IsPlanOf (contents : Contents) (ordered : OrderedQuery) (plan : Tree) : Type 0 where
  pub answers : Answers (reply_of (tree_listing (rows_found contents) plan [])) (denotes (database_of contents) ordered)
  pub indexed : HasIndexes contents plan

-- A query without ORDER BY, as it stands in INSERT (ISO/IEC 9075:1992, 13.8).
abbrev pub unordered : Query → OrderedQuery
unordered query = record { query = query; keys = [] }

-- The plan has the rows and the faults of the tree over the stored tables, and order keys that those
-- of the tree begin; and the tables have the indexes that it reads by.
pub record StandsFor (contents : Contents) (plan tree : Tree) : Type 0 where
  pub same : IsSameTree (rows_found contents) plan tree
  pub indexed : HasIndexes contents plan
