use Rattle.std.proofs.Common.{arith, false}
use Rattle.stored_tables.proofs.ChangeLemmas.{whole_later}
use Rattle.database_trees.specs.Dropped.{AreIndexes}
use Rattle.database_trees.specs.Exchanged.{IsTableOf, HasTable}
use Rattle.database_trees.proofs.UnindexLemmas.{to_put_without, to_drop, table_left}
use Rattle.database_trees.proofs.RefusalLemmas.{later, fault_refused}
use Rattle.database_trees.proofs.unindexing.unindex_named.Goals as goal

pub returns-in-Ok-drop_named-clause-unindexed : goal.returns-in-Ok-drop_named-clause-unindexed
returns-in-Ok-drop_named-clause-unindexed g c = λ alone h.
    let p = c.in-Ok.ensures.put _ (to_put_without (g.S.PageReader.pages c.args.space.now) c.args.root c.args.table.now c.args.name.now h) in
    table_left (g.S.PageReader.pages c.args.space.now) c.args.root c.args.table.now c.args.name.now h (g.S.PageReader.pages c.put_without.new.space) c.in-Ok.top p (g.S.PageReader.pages c.drop_named.new.space) (c.in-Ok-drop_named.ensures.left _ (to_drop (g.S.PageReader.pages c.args.space.now) c.args.root c.args.table.now c.args.name.now h (g.S.PageReader.pages c.put_without.new.space) c.in-Ok.top p))

pub returns-in-Ok-drop_named-clause-follows : goal.returns-in-Ok-drop_named-clause-follows
returns-in-Ok-drop_named-clause-follows g c = g.met.S.PageReader.follows_trans _ _ _ c.put_without.ensures.follows c.drop_named.ensures.follows

pub returns-in-Err-drop_named-clause-follows : goal.returns-in-Err-drop_named-clause-follows
returns-in-Err-drop_named-clause-follows g c = g.met.S.PageReader.follows_trans _ _ _ c.put_without.ensures.follows c.drop_named.ensures.follows

pub returns-in-Err-drop_named-clause-refusal : goal.returns-in-Err-drop_named-clause-refusal
returns-in-Err-drop_named-clause-refusal g c =
    fault_refused c.in-Err-drop_named.fault (g.S.PageSpace.at_limit c.drop_named.new.space) (AreIndexes false (g.S.PageReader.pages c.put_without.new.space) c.args.table.now.indexes → (g.S.PageReader.is_whole c.put_without.new.space) → ⊥) (IsTableOf false (g.S.PageReader.pages c.args.space.now) c.args.root c.args.table.now → (g.S.PageReader.is_whole c.args.space.now) → ⊥) (g.S.PageReader.refused c.args.space.now) (g.S.PageReader.refused c.put_without.new.space) (g.S.PageReader.refused c.drop_named.new.space)
    (λ none h whole. let p = c.in-Ok.ensures.put _ (to_put_without (g.S.PageReader.pages c.args.space.now) c.args.root c.args.table.now c.args.name.now h) in none (to_drop (g.S.PageReader.pages c.args.space.now) c.args.root c.args.table.now c.args.name.now h (g.S.PageReader.pages c.put_without.new.space) c.in-Ok.top p) (c.in-Ok.ensures.whole whole)) c.put_without.ensures.rising c.in-Err-drop_named.ensures.refusal

pub returns-in-Err-clause-refusal : goal.returns-in-Err-clause-refusal
returns-in-Err-clause-refusal g c =
    later c.in-Err.error (g.S.PageSpace.at_limit c.put_without.new.space) (HasTable false (g.S.PageReader.pages c.args.space.now) c.args.root c.args.table.now → (g.S.PageReader.is_whole c.args.space.now) → ⊥) (IsTableOf false (g.S.PageReader.pages c.args.space.now) c.args.root c.args.table.now → (g.S.PageReader.is_whole c.args.space.now) → ⊥) (g.S.PageReader.refused c.args.space.now) (g.S.PageReader.refused c.args.space.now) (g.S.PageReader.refused c.put_without.new.space)
    (λ none h whole. none (to_put_without (g.S.PageReader.pages c.args.space.now) c.args.root c.args.table.now c.args.name.now h) whole) (omega arith) c.in-Err.ensures.refusal
