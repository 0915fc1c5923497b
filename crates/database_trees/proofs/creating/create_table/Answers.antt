use Rattle.std.proofs.Common.{sym, subst, ◌∙◌, false, true}
use Rattle.page_space.specs.Space.{PageMap}
use Rattle.catalog.specs.Held.{HoldsNoSchema}
use Rattle.catalog.specs.Changed as schema
use Rattle.catalog.specs.Changed.{SchemaWritten, HoldsNoSchemaIn}
use Rattle.store.specs.Contents.{with_table}
use Rattle.btree.specs.Kept.{LosesNoPage}
use Rattle.stored_tables.proofs.ChangeLemmas.{whole_later}
use Rattle.database_trees.specs.Held.{declared_of, HoldsDatabase, contents_of, HoldsFor}
use Rattle.database_trees.specs.Changed.{DatabaseWritten, HoldsNoDatabaseIn, WrittenFor}
use Rattle.database_trees.proofs.ContentLemmas.{is_found}
use Rattle.database_trees.proofs.CreateLemmas.{if_ok_both, created_new, created_before, name_free}
use Rattle.database_trees.proofs.RefusalLemmas.{read_refused, refused_later}
use Rattle.database_trees.proofs.creating.create_table.Goals as goal

pub returns-in-Ok-Some-clause-created : goal.returns-in-Ok-Some-clause-created
returns-in-Ok-Some-clause-created g c = λ tables h good. created_before (g.S.PageReader.pages c.read_table.new.space) c.args.root c.args.table.now c.in-Ok-Some.field-0-0 tables (subst (λ (p : PageMap). HoldsFor false p c.args.root tables) (sym c.read_table.ensures.same) h) (is_found c.args.table.now.name tables _ (sym (c.in-Ok-Some.ensures.found h.owned (declared_of tables) h.trees.each.0) ∙ c.in-Ok-Some.field-0-is))

pub returns-in-Ok-Some-clause-owned : goal.returns-in-Ok-Some-clause-owned
returns-in-Ok-Some-clause-owned g c = λ tables h good. created_before (g.S.PageReader.pages c.read_table.new.space) c.args.root c.args.table.now c.in-Ok-Some.field-0-0 tables (subst (λ (p : PageMap). HoldsFor true p c.args.root tables) (sym c.read_table.ensures.same) h) (is_found c.args.table.now.name tables _ (sym (c.in-Ok-Some.ensures.found h.owned (declared_of tables) h.trees.each.0) ∙ c.in-Ok-Some.field-0-is))

pub returns-in-Ok-None-clause-created : goal.returns-in-Ok-None-clause-created
returns-in-Ok-None-clause-created g c = λ tables h good.
    let m = (subst (λ (p : PageMap). HoldsFor false p c.args.root tables) (sym c.read_table.ensures.same) h) in
    if_ok_both (SchemaWritten (g.S.PageReader.pages c.read_table.new.space) (g.S.PageReader.pages c.add_new.new.space) m.owned (schema.with_table c.args.table.now (declared_of tables)))
    (LosesNoPage (g.S.PageReader.pages c.read_table.new.space) (g.S.PageReader.pages c.add_new.new.space) c.args.root) (WrittenFor false (g.S.PageReader.pages c.add_new.new.space) (with_table (contents_of tables) c.args.table.now)) c.add_new.result
    (λ top w keeps. created_new (g.S.PageReader.pages c.read_table.new.space) (g.S.PageReader.pages c.add_new.new.space) c.args.root top c.args.table.now tables c.requires.rows c.requires.indexes m (sym (c.in-Ok-None.ensures.found h.owned (declared_of tables) h.trees.each.0) ∙ c.in-Ok-None.field-0-is) w keeps)
    (c.add_new.ensures.added m.owned (declared_of tables) m.trees.each.0 good (name_free c.args.table.now tables (sym (c.in-Ok-None.ensures.found h.owned (declared_of tables) h.trees.each.0) ∙ c.in-Ok-None.field-0-is))) c.add_new.ensures.keeps

pub returns-in-Ok-None-clause-owned : goal.returns-in-Ok-None-clause-owned
returns-in-Ok-None-clause-owned g c = λ tables h good.
    let m = (subst (λ (p : PageMap). HoldsFor true p c.args.root tables) (sym c.read_table.ensures.same) h) in
    if_ok_both (SchemaWritten (g.S.PageReader.pages c.read_table.new.space) (g.S.PageReader.pages c.add_new.new.space) m.owned (schema.with_table c.args.table.now (declared_of tables)))
    (LosesNoPage (g.S.PageReader.pages c.read_table.new.space) (g.S.PageReader.pages c.add_new.new.space) c.args.root) (WrittenFor true (g.S.PageReader.pages c.add_new.new.space) (with_table (contents_of tables) c.args.table.now)) c.add_new.result
    (λ top w keeps. created_new (g.S.PageReader.pages c.read_table.new.space) (g.S.PageReader.pages c.add_new.new.space) c.args.root top c.args.table.now tables c.requires.rows c.requires.indexes m (sym (c.in-Ok-None.ensures.found h.owned (declared_of tables) h.trees.each.0) ∙ c.in-Ok-None.field-0-is) w keeps)
    (c.add_new.ensures.added m.owned (declared_of tables) m.trees.each.0 good (name_free c.args.table.now tables (sym (c.in-Ok-None.ensures.found h.owned (declared_of tables) h.trees.each.0) ∙ c.in-Ok-None.field-0-is))) c.add_new.ensures.keeps

pub returns-in-Ok-None-clause-whole : goal.returns-in-Ok-None-clause-whole
returns-in-Ok-None-clause-whole g c = whole_later c.add_new.result (g.S.PageReader.is_whole c.args.space.now) (g.S.PageReader.is_whole c.read_table.new.space) (g.S.PageReader.is_whole c.add_new.new.space) c.read_table.ensures.whole c.add_new.ensures.whole

pub returns-in-Ok-None-clause-follows : goal.returns-in-Ok-None-clause-follows
returns-in-Ok-None-clause-follows g c = g.met.S.PageReader.follows_trans _ _ _ c.read_table.ensures.follows c.add_new.ensures.follows

pub returns-in-Ok-None-clause-refusal : goal.returns-in-Ok-None-clause-refusal
returns-in-Ok-None-clause-refusal g c =
    refused_later c.add_new.result (g.S.PageSpace.at_limit c.add_new.new.space) (HoldsNoSchemaIn (g.S.PageReader.pages c.read_table.new.space) c.args.root (g.S.PageReader.is_whole c.read_table.new.space)) (HoldsNoDatabaseIn (g.S.PageReader.pages c.args.space.now) c.args.root (g.S.PageReader.is_whole c.args.space.now)) (g.S.PageReader.refused c.args.space.now) (g.S.PageReader.refused c.read_table.new.space) (g.S.PageReader.refused c.add_new.new.space)
    (λ none tables h whole. let m = (subst (λ (p : PageMap). HoldsDatabase p c.args.root tables) (sym c.read_table.ensures.same) h) in none m.owned (declared_of tables) m.trees.each.0 (c.read_table.ensures.whole whole)) c.read_table.ensures.rising c.add_new.ensures.refusal

pub returns-clause-refusal : goal.returns-clause-refusal
returns-clause-refusal g c = read_refused c.in-Err.fault (g.S.PageSpace.at_limit c.read_table.new.space) (HoldsNoSchema (g.S.PageReader.pages c.args.space.now) c.args.root) (HoldsNoDatabaseIn (g.S.PageReader.pages c.args.space.now) c.args.root (g.S.PageReader.is_whole c.args.space.now)) (g.S.PageReader.refused c.args.space.now) (g.S.PageReader.refused c.read_table.new.space) (λ none tables h whole. none h.owned (declared_of tables) h.trees.each.0) c.in-Err.ensures.refusal
