use Rattle.std.proofs.Common.{arith, List, false}
use Rattle.sqlval.specs.declared.schema.Index.{Index}
use Rattle.stored_tables.proofs.ChangeLemmas.{whole_later}
use Rattle.btree.specs.Overfull.{IsNoTreeIn}
use Rattle.btree.proofs.RefusalLemmas.{change_refused, change_refused_on}
use Rattle.tablestore.specs.Held.{entries_of}
use Rattle.database_trees.specs.Dropped.{AreIndexes, AreTreesOf}
use Rattle.database_trees.proofs.DropLemmas.{indexes_then, rows_tree_of, dropped_both}
use Rattle.database_trees.proofs.dropping.drop_trees.Goals as goal

pub returns-in-Ok-clause-dropped : goal.returns-in-Ok-clause-dropped
returns-in-Ok-clause-dropped g c = λ alone h. let one = c.in-Ok.ensures.dropped h.at.owned (entries_of h.at.rows) (rows_tree_of (g.S.PageReader.pages c.args.space.now) c.args.table.now h) in dropped_both c.drop_indexes.result (g.S.PageReader.pages c.args.space.now) (g.S.PageReader.pages c.drop_tree.new.space) (g.S.PageReader.pages c.drop_indexes.new.space) h.at one (c.drop_indexes.ensures.dropped _ (indexes_then (g.S.PageReader.pages c.args.space.now) (g.S.PageReader.pages c.drop_tree.new.space) c.args.table.now h one))

pub returns-in-Ok-clause-whole : goal.returns-in-Ok-clause-whole
returns-in-Ok-clause-whole g c = whole_later c.drop_indexes.result (g.S.PageReader.is_whole c.args.space.now) (g.S.PageReader.is_whole c.drop_tree.new.space) (g.S.PageReader.is_whole c.drop_indexes.new.space) c.in-Ok.ensures.whole c.drop_indexes.ensures.whole

pub returns-in-Ok-clause-follows : goal.returns-in-Ok-clause-follows
returns-in-Ok-clause-follows g c = g.met.S.PageReader.follows_trans _ _ _ c.drop_tree.ensures.follows c.drop_indexes.ensures.follows

pub returns-in-Ok-clause-refusal : goal.returns-in-Ok-clause-refusal
returns-in-Ok-clause-refusal g c =
    change_refused_on c.drop_indexes.result (g.S.PageSpace.at_limit c.drop_indexes.new.space) (AreIndexes false (g.S.PageReader.pages c.drop_tree.new.space) c.args.table.now.indexes → (g.S.PageReader.is_whole c.drop_tree.new.space) → ⊥) (AreTreesOf false (g.S.PageReader.pages c.args.space.now) c.args.table.now → (g.S.PageReader.is_whole c.args.space.now) → ⊥) (g.S.PageReader.refused c.args.space.now) (g.S.PageReader.refused c.drop_tree.new.space) (g.S.PageReader.refused c.drop_indexes.new.space) c.drop_tree.ensures.rising
    (λ none h whole. none (indexes_then (g.S.PageReader.pages c.args.space.now) (g.S.PageReader.pages c.drop_tree.new.space) c.args.table.now h (c.in-Ok.ensures.dropped h.at.owned (entries_of h.at.rows) (rows_tree_of (g.S.PageReader.pages c.args.space.now) c.args.table.now h))) (c.in-Ok.ensures.whole whole)) c.drop_indexes.ensures.refusal

pub returns-in-Err-clause-refusal : goal.returns-in-Err-clause-refusal
returns-in-Err-clause-refusal g c =
    change_refused (g.S.PageSpace.at_limit c.drop_tree.new.space) (IsNoTreeIn (g.S.PageReader.pages c.args.space.now) c.args.table.now.root (g.S.PageReader.is_whole c.args.space.now)) (AreTreesOf false (g.S.PageReader.pages c.args.space.now) c.args.table.now → (g.S.PageReader.is_whole c.args.space.now) → ⊥) (g.S.PageReader.refused c.args.space.now) (g.S.PageReader.refused c.args.space.now) (g.S.PageReader.refused c.drop_tree.new.space) c.in-Err.fault (omega arith)
    (λ none h whole. none h.at.owned (entries_of h.at.rows) (rows_tree_of (g.S.PageReader.pages c.args.space.now) c.args.table.now h) whole) c.in-Err.ensures.refusal
