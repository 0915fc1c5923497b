use Rattle.std.proofs.Common.{◌≡◌, ◌∷◌, ◌++◌, arith, false}
use Rattle.stored_tables.proofs.ChangeLemmas.{whole_later}
use Rattle.catalog_records.specs.References.{is_referenced}
use Rattle.catalog.specs.Changed.{HoldsNoSchemaIn}
use Rattle.database_trees.specs.Held.{declared_of}
use Rattle.database_trees.specs.Exchanged.{IsTableOf}
use Rattle.database_trees.specs.Dropped.{AreTreesOf, TableGone}
use Rattle.database_trees.proofs.DatabaseLemmas.{schema_of_it}
use Rattle.database_trees.proofs.DropLemmas.{trees_then, table_gone}
use Rattle.database_trees.proofs.RefusalLemmas.{fault_refused, change_refused_by, schema_reaches}
use Rattle.database_trees.proofs.dropping.drop_free.Goals as goal

pub returns-in-Ok-drop_trees-clause-dropped : goal.returns-in-Ok-drop_trees-clause-dropped
returns-in-Ok-drop_trees-clause-dropped g c = λ alone h free.
    let w = c.in-Ok.ensures.dropped h.holds.owned (declared_of h.before) (declared_of h.behind) (schema_of_it (g.S.PageReader.pages c.args.space.now) c.args.root c.args.table.now h) free in
    table_gone (g.S.PageReader.pages c.args.space.now) (g.S.PageReader.pages c.drop_table.new.space) c.args.root c.in-Ok.top c.args.table.now h w (g.S.PageReader.pages c.drop_trees.new.space) (c.in-Ok-drop_trees.ensures.dropped _ (trees_then (g.S.PageReader.pages c.args.space.now) (g.S.PageReader.pages c.drop_table.new.space) c.args.root c.in-Ok.top c.args.table.now h w))

pub returns-in-Ok-drop_trees-clause-follows : goal.returns-in-Ok-drop_trees-clause-follows
returns-in-Ok-drop_trees-clause-follows g c = g.met.S.PageReader.follows_trans _ _ _ c.drop_table.ensures.follows c.drop_trees.ensures.follows

pub returns-in-Err-drop_trees-clause-follows : goal.returns-in-Err-drop_trees-clause-follows
returns-in-Err-drop_trees-clause-follows g c = g.met.S.PageReader.follows_trans _ _ _ c.drop_table.ensures.follows c.drop_trees.ensures.follows

pub returns-in-Err-drop_trees-clause-refusal : goal.returns-in-Err-drop_trees-clause-refusal
returns-in-Err-drop_trees-clause-refusal g c =
    fault_refused c.in-Err-drop_trees.fault (g.S.PageSpace.at_limit c.drop_trees.new.space) (AreTreesOf false (g.S.PageReader.pages c.drop_table.new.space) c.args.table.now → (g.S.PageReader.is_whole c.drop_table.new.space) → ⊥) ((h : IsTableOf false (g.S.PageReader.pages c.args.space.now) c.args.root c.args.table.now) → is_referenced c.args.table.now.name (declared_of h.before ++ c.args.table.now ∷ declared_of h.behind) ≡ false → (g.S.PageReader.is_whole c.args.space.now) → ⊥) (g.S.PageReader.refused c.args.space.now) (g.S.PageReader.refused c.drop_table.new.space) (g.S.PageReader.refused c.drop_trees.new.space)
    (λ none h free whole. let w = c.in-Ok.ensures.dropped h.holds.owned (declared_of h.before) (declared_of h.behind) (schema_of_it (g.S.PageReader.pages c.args.space.now) c.args.root c.args.table.now h) free in
    none (trees_then (g.S.PageReader.pages c.args.space.now) (g.S.PageReader.pages c.drop_table.new.space) c.args.root c.in-Ok.top c.args.table.now h w) (c.in-Ok.ensures.whole whole)) c.drop_table.ensures.rising c.in-Err-drop_trees.ensures.refusal

pub returns-in-Err-clause-limits : goal.returns-in-Err-clause-limits
returns-in-Err-clause-limits g c = schema_reaches c.in-Err.error c.of_change.result ⊥ ⊥ ⊥ c.of_change.ensures

pub returns-in-Err-clause-refusal : goal.returns-in-Err-clause-refusal
returns-in-Err-clause-refusal g c =
    change_refused_by c.in-Err.error c.of_change.result (g.S.PageSpace.at_limit c.drop_table.new.space) (HoldsNoSchemaIn (g.S.PageReader.pages c.args.space.now) c.args.root (g.S.PageReader.is_whole c.args.space.now)) ((h : IsTableOf false (g.S.PageReader.pages c.args.space.now) c.args.root c.args.table.now) → is_referenced c.args.table.now.name (declared_of h.before ++ c.args.table.now ∷ declared_of h.behind) ≡ false → (g.S.PageReader.is_whole c.args.space.now) → ⊥) (g.S.PageReader.refused c.args.space.now) (g.S.PageReader.refused c.args.space.now) (g.S.PageReader.refused c.drop_table.new.space) c.of_change.ensures
    (λ none h free whole. none h.holds.owned _ (schema_of_it (g.S.PageReader.pages c.args.space.now) c.args.root c.args.table.now h) whole) (omega arith) c.in-Err.ensures.refusal
