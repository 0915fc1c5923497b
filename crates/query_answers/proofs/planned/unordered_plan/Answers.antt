use Rattle.std.proofs.Common.{sym, subst}
use Rattle.algebra.specs.Described.{described_in}
use Rattle.algebra.specs.declared.tree.Tree.{Tree}
use Rattle.denote.specs.Database.{rows_in}
use Rattle.planner.specs.Joins.{AsksPairs}
use Rattle.planner.specs.Looks.{Asks}
use Rattle.rules.specs.Same.{Fits}
use Rattle.store.specs.Contents.{database_of}
use Rattle.query_answers.specs.Planned.{unordered}
use Rattle.query_answers.proofs.Planning.{described_named, plan_found}
use Rattle.query_answers.proofs.planned.unordered_plan.Goals as goal

pub returns-in-Ok-clause-plan : goal.returns-in-Ok-clause-plan
returns-in-Ok-clause-plan c = λ reading contents good of.
    let law = c.described_tables_are_known.ensures in
    let schema = c.args.schema.now in
    let query = unordered c.args.query.now in
    let db = database_of contents in
    plan_found contents schema query c.in-Ok.rows c.in-Ok.ensures.translated
    (c.translation_keeps_the_meaning.ensures.ordered (described_in schema) (described_named schema) db query)
    (λ plan. law.indexed contents schema query plan of)
    c.planned.result c.planned.ensures.stored
    (c.planned.ensures.answers (rows_in db)
    (subst (λ (tree : Tree). Fits (rows_in db) tree) (sym c.in-Ok.ensures.translated) (law.fits reading schema db query good of)))

pub returns-in-Ok-clause-looks : goal.returns-in-Ok-clause-looks
returns-in-Ok-clause-looks c = λ condition table asks. c.planned.ensures.looks condition table
    (subst (Asks condition table) (sym c.in-Ok.ensures.translated) asks)

pub returns-in-Ok-clause-joins : goal.returns-in-Ok-clause-joins
returns-in-Ok-clause-joins c = λ condition left right asks. c.planned.ensures.joins condition left right
    (subst (AsksPairs condition left right) (sym c.in-Ok.ensures.translated) asks)
