use Rattle.std.proofs.Common.{sym, subst, refl, ◌∙◌, ◌++◌, false, true}
use Rattle.stored_tables.proofs.ChangeLemmas.{whole_later}
use Rattle.page_space.specs.Space.{PageMap}
use Rattle.catalog.specs.Held.{HoldsNoSchema}
use Rattle.database_trees.specs.Held.{declared_of, HoldsDatabase, HoldsFor}
use Rattle.database_trees.specs.Changed.{HoldsNoDatabaseIn}
use Rattle.database_trees.specs.Exchanged.{IsTableOf}
use Rattle.database_trees.proofs.RefusalLemmas.{refused_later, read_refused}
use Rattle.denote.specs.SchemaOf.{index_of}
use Rattle.store.specs.Contents.{with_index}
use Rattle.database_trees.proofs.ContentLemmas.{is_found, table_of_name, database_none, index_limits}
use Rattle.database_trees.proofs.IndexingLemmas.{database_indexed}
use Rattle.database_trees.proofs.indexing.create_index.Goals as goal

pub returns-in-Ok-Some-clause-indexed : goal.returns-in-Ok-Some-clause-indexed
returns-in-Ok-Some-clause-indexed g c = λ tables h places.
    let f = is_found c.args.name.now tables c.in-Ok-Some.table (sym (c.in-Ok-Some.ensures.found h.owned (declared_of tables) h.trees.each.0) ∙ c.in-Ok-Some.field-0-is) in
    let t = table_of_name (g.S.PageReader.pages c.read_table.new.space) c.args.root c.args.name.now tables c.in-Ok-Some.table (subst (λ (p : PageMap). HoldsFor false p c.args.root tables) (sym c.read_table.ensures.same) h) f in
    database_indexed _ c.create_on.result (g.S.PageReader.pages c.create_on.new.space) c.args.name.now tables c.in-Ok-Some.table c.args.index f (c.create_on.ensures.indexed _ t places)

pub returns-in-Ok-Some-clause-owned : goal.returns-in-Ok-Some-clause-owned
returns-in-Ok-Some-clause-owned g c = λ tables h places.
    let f = is_found c.args.name.now tables c.in-Ok-Some.table (sym (c.in-Ok-Some.ensures.found h.owned (declared_of tables) h.trees.each.0) ∙ c.in-Ok-Some.field-0-is) in
    let t = table_of_name (g.S.PageReader.pages c.read_table.new.space) c.args.root c.args.name.now tables c.in-Ok-Some.table (subst (λ (p : PageMap). HoldsFor true p c.args.root tables) (sym c.read_table.ensures.same) h) f in
    database_indexed _ c.create_on.result (g.S.PageReader.pages c.create_on.new.space) c.args.name.now tables c.in-Ok-Some.table c.args.index f (c.create_on.ensures.indexed _ t places)

pub returns-in-Ok-Some-clause-limits : goal.returns-in-Ok-Some-clause-limits
returns-in-Ok-Some-clause-limits g c = λ tables h.
    let f = is_found c.args.name.now tables c.in-Ok-Some.table (sym (c.in-Ok-Some.ensures.found h.owned (declared_of tables) h.trees.each.0) ∙ c.in-Ok-Some.field-0-is) in
    let t = table_of_name (g.S.PageReader.pages c.read_table.new.space) c.args.root c.args.name.now tables c.in-Ok-Some.table (subst (λ (p : PageMap). HoldsDatabase p c.args.root tables) (sym c.read_table.ensures.same) h) f in
    index_limits c.create_on.result c.args.name.now tables c.in-Ok-Some.table (index_of c.args.index) f (c.create_on.ensures.limits t)

pub returns-in-Ok-Some-clause-whole : goal.returns-in-Ok-Some-clause-whole
returns-in-Ok-Some-clause-whole g c = whole_later c.create_on.result (g.S.PageReader.is_whole c.args.space.now) (g.S.PageReader.is_whole c.read_table.new.space) (g.S.PageReader.is_whole c.create_on.new.space) c.read_table.ensures.whole c.create_on.ensures.whole

pub returns-in-Ok-Some-clause-follows : goal.returns-in-Ok-Some-clause-follows
returns-in-Ok-Some-clause-follows g c = g.met.S.PageReader.follows_trans _ _ _ c.read_table.ensures.follows c.create_on.ensures.follows

pub returns-in-Ok-Some-clause-refusal : goal.returns-in-Ok-Some-clause-refusal
returns-in-Ok-Some-clause-refusal g c =
    refused_later c.create_on.result (g.S.PageSpace.at_limit c.create_on.new.space) (IsTableOf false (g.S.PageReader.pages c.read_table.new.space) c.args.root c.in-Ok-Some.table → (g.S.PageReader.is_whole c.read_table.new.space) → ⊥) (HoldsNoDatabaseIn (g.S.PageReader.pages c.args.space.now) c.args.root (g.S.PageReader.is_whole c.args.space.now)) (g.S.PageReader.refused c.args.space.now) (g.S.PageReader.refused c.read_table.new.space) (g.S.PageReader.refused c.create_on.new.space)
    (λ none tables h whole. let f = is_found c.args.name.now tables c.in-Ok-Some.table (sym (c.in-Ok-Some.ensures.found h.owned (declared_of tables) h.trees.each.0) ∙ c.in-Ok-Some.field-0-is) in
    none (table_of_name (g.S.PageReader.pages c.read_table.new.space) c.args.root c.args.name.now tables c.in-Ok-Some.table (subst (λ (p : PageMap). HoldsDatabase p c.args.root tables) (sym c.read_table.ensures.same) h) f) (c.read_table.ensures.whole whole))
    c.read_table.ensures.rising c.create_on.ensures.refusal

pub returns-in-Ok-None-clause-indexed : goal.returns-in-Ok-None-clause-indexed
returns-in-Ok-None-clause-indexed g c = λ tables h places. database_none (g.S.PageReader.pages c.args.space.now) (g.S.PageReader.pages c.read_table.new.space) c.args.root c.args.name.now tables (with_index c.args.index) c.read_table.ensures.same h (sym (c.in-Ok-None.ensures.found h.owned (declared_of tables) h.trees.each.0) ∙ c.in-Ok-None.field-0-is)

pub returns-in-Ok-None-clause-owned : goal.returns-in-Ok-None-clause-owned
returns-in-Ok-None-clause-owned g c = λ tables h places. database_none (g.S.PageReader.pages c.args.space.now) (g.S.PageReader.pages c.read_table.new.space) c.args.root c.args.name.now tables (with_index c.args.index) c.read_table.ensures.same h (sym (c.in-Ok-None.ensures.found h.owned (declared_of tables) h.trees.each.0) ∙ c.in-Ok-None.field-0-is)

pub returns-in-Err-clause-refusal : goal.returns-in-Err-clause-refusal
returns-in-Err-clause-refusal g c = read_refused c.in-Err.fault (g.S.PageSpace.at_limit c.read_table.new.space) (HoldsNoSchema (g.S.PageReader.pages c.args.space.now) c.args.root) (HoldsNoDatabaseIn (g.S.PageReader.pages c.args.space.now) c.args.root (g.S.PageReader.is_whole c.args.space.now)) (g.S.PageReader.refused c.args.space.now) (g.S.PageReader.refused c.read_table.new.space) (λ none tables h whole. none h.owned (declared_of tables) h.trees.each.0) c.in-Err.ensures.refusal
