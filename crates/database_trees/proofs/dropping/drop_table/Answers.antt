use Rattle.std.proofs.Common.{sym, subst, refl, ◌∙◌, ◌++◌, false, true}
use Rattle.stored_tables.proofs.ChangeLemmas.{whole_later}
use Rattle.page_space.specs.Space.{PageMap}
use Rattle.catalog.specs.Held.{HoldsNoSchema}
use Rattle.database_trees.specs.Held.{declared_of, HoldsDatabase, HoldsFor}
use Rattle.database_trees.specs.Changed.{HoldsNoDatabaseIn}
use Rattle.database_trees.specs.Exchanged.{IsTableOf}
use Rattle.database_trees.proofs.RefusalLemmas.{refused_later, read_refused}
use Rattle.database_trees.proofs.ContentLemmas.{is_found, table_of_name}
use Rattle.database_trees.proofs.DropLemmas.{others_behind, database_dropped, freed_by, contents_absent, none_freed}
use Rattle.database_trees.proofs.dropping.drop_table.Goals as goal

pub returns-in-Ok-Some-clause-dropped : goal.returns-in-Ok-Some-clause-dropped
returns-in-Ok-Some-clause-dropped g c = λ tables h.
    let f = is_found c.args.name.now tables c.in-Ok-Some.table (sym (c.in-Ok-Some.ensures.found h.owned (declared_of tables) h.trees.each.0) ∙ c.in-Ok-Some.field-0-is) in
    let t = table_of_name (g.S.PageReader.pages c.read_table.new.space) c.args.root c.args.name.now tables c.in-Ok-Some.table (subst (λ (p : PageMap). HoldsFor false p c.args.root tables) (sym c.read_table.ensures.same) h) f in
    database_dropped _ c.drop_found.result (g.S.PageReader.pages c.drop_found.new.space) c.args.name.now tables c.in-Ok-Some.table f (others_behind (g.S.PageReader.pages c.args.space.now) c.args.root c.args.name.now tables c.in-Ok-Some.table h f) (c.drop_found.ensures.dropped _ t)

pub returns-in-Ok-Some-clause-owned : goal.returns-in-Ok-Some-clause-owned
returns-in-Ok-Some-clause-owned g c = λ tables h.
    let f = is_found c.args.name.now tables c.in-Ok-Some.table (sym (c.in-Ok-Some.ensures.found h.owned (declared_of tables) h.trees.each.0) ∙ c.in-Ok-Some.field-0-is) in
    let t = table_of_name (g.S.PageReader.pages c.read_table.new.space) c.args.root c.args.name.now tables c.in-Ok-Some.table (subst (λ (p : PageMap). HoldsFor true p c.args.root tables) (sym c.read_table.ensures.same) h) f in
    database_dropped _ c.drop_found.result (g.S.PageReader.pages c.drop_found.new.space) c.args.name.now tables c.in-Ok-Some.table f (others_behind (g.S.PageReader.pages c.args.space.now) c.args.root c.args.name.now tables c.in-Ok-Some.table h f) (c.drop_found.ensures.dropped _ t)

pub returns-in-Ok-Some-clause-whole : goal.returns-in-Ok-Some-clause-whole
returns-in-Ok-Some-clause-whole g c = whole_later c.drop_found.result (g.S.PageReader.is_whole c.args.space.now) (g.S.PageReader.is_whole c.read_table.new.space) (g.S.PageReader.is_whole c.drop_found.new.space) c.read_table.ensures.whole c.drop_found.ensures.whole

pub returns-in-Ok-Some-clause-follows : goal.returns-in-Ok-Some-clause-follows
returns-in-Ok-Some-clause-follows g c = g.met.S.PageReader.follows_trans _ _ _ c.read_table.ensures.follows c.drop_found.ensures.follows

pub returns-in-Ok-Some-clause-refusal : goal.returns-in-Ok-Some-clause-refusal
returns-in-Ok-Some-clause-refusal g c =
    refused_later c.drop_found.result (g.S.PageSpace.at_limit c.drop_found.new.space) (IsTableOf false (g.S.PageReader.pages c.read_table.new.space) c.args.root c.in-Ok-Some.table → (g.S.PageReader.is_whole c.read_table.new.space) → ⊥) (HoldsNoDatabaseIn (g.S.PageReader.pages c.args.space.now) c.args.root (g.S.PageReader.is_whole c.args.space.now)) (g.S.PageReader.refused c.args.space.now) (g.S.PageReader.refused c.read_table.new.space) (g.S.PageReader.refused c.drop_found.new.space)
    (λ none tables h whole. let f = is_found c.args.name.now tables c.in-Ok-Some.table (sym (c.in-Ok-Some.ensures.found h.owned (declared_of tables) h.trees.each.0) ∙ c.in-Ok-Some.field-0-is) in
    none (table_of_name (g.S.PageReader.pages c.read_table.new.space) c.args.root c.args.name.now tables c.in-Ok-Some.table (subst (λ (p : PageMap). HoldsDatabase p c.args.root tables) (sym c.read_table.ensures.same) h) f) (c.read_table.ensures.whole whole))
    c.read_table.ensures.rising c.drop_found.ensures.refusal

pub returns-in-Ok-None-clause-dropped : goal.returns-in-Ok-None-clause-dropped
returns-in-Ok-None-clause-dropped g c = λ tables h. record { tables = tables; holds = subst (λ (p : PageMap). HoldsFor false p c.args.root tables) (sym c.read_table.ensures.same) h; shows = contents_absent c.args.name.now tables (sym (c.in-Ok-None.ensures.found h.owned (declared_of tables) h.trees.each.0) ∙ c.in-Ok-None.field-0-is) }

pub returns-in-Ok-None-clause-owned : goal.returns-in-Ok-None-clause-owned
returns-in-Ok-None-clause-owned g c = λ tables h. record { tables = tables; holds = subst (λ (p : PageMap). HoldsFor true p c.args.root tables) (sym c.read_table.ensures.same) h; shows = contents_absent c.args.name.now tables (sym (c.in-Ok-None.ensures.found h.owned (declared_of tables) h.trees.each.0) ∙ c.in-Ok-None.field-0-is) }

pub returns-in-Err-clause-refusal : goal.returns-in-Err-clause-refusal
returns-in-Err-clause-refusal g c = read_refused c.in-Err.fault (g.S.PageSpace.at_limit c.read_table.new.space) (HoldsNoSchema (g.S.PageReader.pages c.args.space.now) c.args.root) (HoldsNoDatabaseIn (g.S.PageReader.pages c.args.space.now) c.args.root (g.S.PageReader.is_whole c.args.space.now)) (g.S.PageReader.refused c.args.space.now) (g.S.PageReader.refused c.read_table.new.space) (λ none tables h whole. none h.owned (declared_of tables) h.trees.each.0) c.in-Err.ensures.refusal

pub returns-in-Ok-Some-clause-freed : goal.returns-in-Ok-Some-clause-freed
returns-in-Ok-Some-clause-freed g c = λ tables h.
    let f = is_found c.args.name.now tables c.in-Ok-Some.table (sym (c.in-Ok-Some.ensures.found h.owned (declared_of tables) h.trees.each.0) ∙ c.in-Ok-Some.field-0-is) in
    let t = table_of_name (g.S.PageReader.pages c.read_table.new.space) c.args.root c.args.name.now tables c.in-Ok-Some.table (subst (λ (p : PageMap). HoldsDatabase p c.args.root tables) (sym c.read_table.ensures.same) h) f in
    freed_by _ c.drop_found.result (g.S.PageReader.pages c.drop_found.new.space) c.args.name.now tables c.in-Ok-Some.table f (others_behind (g.S.PageReader.pages c.args.space.now) c.args.root c.args.name.now tables c.in-Ok-Some.table h f) (c.drop_found.ensures.dropped _ t)

pub returns-in-Ok-None-clause-freed : goal.returns-in-Ok-None-clause-freed
returns-in-Ok-None-clause-freed g c = λ tables h. none_freed (g.S.PageReader.pages c.read_table.new.space) c.args.name.now tables (sym (c.in-Ok-None.ensures.found h.owned (declared_of tables) h.trees.each.0) ∙ c.in-Ok-None.field-0-is)
