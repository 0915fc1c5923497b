use Rattle.std.proofs.Common.{sym, ap, ◌∙◌, ℕ, List}
use Rattle.sqlval.specs.Schema.{index_in}
use Rattle.database_trees.proofs.UnindexLemmas.{table_same}
use Rattle.database_trees.proofs.unindexing.unindex_table.Goals as goal

pub returns-in-None-clause-unindexed : goal.returns-in-None-clause-unindexed
returns-in-None-clause-unindexed g c = λ alone h. table_same (g.S.PageReader.pages c.args.space.now) c.args.root c.args.table.now c.args.name.now h (ap (λ (n : List ℕ). index_in n c.args.table.now) (sym c.as_slice.ensures.codes) ∙ sym c.in-None.ensures)

pub returns-in-None-clause-follows : goal.returns-in-None-clause-follows
returns-in-None-clause-follows g c = g.met.S.PageReader.follows_refl _
