use Rattle.algebra.specs.Described.{described_in}
use Rattle.store.specs.Contents.{database_of}
use Rattle.query_answers.proofs.Planning.{described_named, stands_for}
use Rattle.query_answers.proofs.planned.plan_beside_tree.Goals as goal

pub returns-in-Ok-plan_in_box-clause-tree : goal.returns-in-Ok-plan_in_box-clause-tree
returns-in-Ok-plan_in_box-clause-tree c = record {
  described = described_in c.args.schema.now;
  names = described_named c.args.schema.now;
  is = c.in-Ok.ensures;
}

pub returns-in-Ok-plan_in_box-clause-plan : goal.returns-in-Ok-plan_in_box-clause-plan
returns-in-Ok-plan_in_box-clause-plan c = λ reading contents good of.
    let law = c.described_tables_are_known.ensures in
    let schema = c.args.schema.now in
    let query = c.args.query.now in
    stands_for contents schema query c.in-Ok.tree c.in-Ok.ensures
    (law.fits reading schema (database_of contents) query good of)
    (λ plan. law.indexed contents schema query plan of)
    c.in-Ok-plan_in_box.plan c.in-Ok-plan_in_box.ensures.stored c.in-Ok-plan_in_box.ensures.keeps
