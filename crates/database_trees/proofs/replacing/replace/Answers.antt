use Rattle.store.specs.Errors.{HasLongRow, HasLongKey, indexes_of}
use Rattle.denote.specs.SchemaOf.{index_of}
use Rattle.std.specs.FinMap.{get}
use Rattle.std.proofs.Common.{[], ◌∷◌, sym, subst, refl, ◌∙◌, ◌++◌, map, List, false, true}
use Rattle.stored_tables.proofs.ChangeLemmas.{whole_later}
use Rattle.page_space.specs.Space.{PageMap}
use Rattle.catalog.specs.Held.{HoldsNoSchema}
use Rattle.database_trees.specs.Held.{declared_of, HoldsDatabase, TableAt, contents_of, HoldsFor}
use Rattle.database_trees.specs.Changed.{HoldsNoDatabaseIn}
use Rattle.database_trees.specs.Exchanged.{IsTableOf}
use Rattle.database_trees.proofs.RefusalLemmas.{refused_later, read_refused, reaches_so}
use Rattle.store.specs.Contents.{with_row}
use Rattle.tablestore.specs.Rows.{with_number}
use Rattle.database_trees.proofs.ContentLemmas.{is_found, table_of_name, database_rows, database_none, key_shown}
use Rattle.database_trees.proofs.replacing.replace.Goals as goal

pub returns-in-Ok-Some-clause-replaced : goal.returns-in-Ok-Some-clause-replaced
returns-in-Ok-Some-clause-replaced g c = λ tables h.
    let f = is_found c.args.name.now tables c.in-Ok-Some.table (sym (c.in-Ok-Some.ensures.found h.owned (declared_of tables) h.trees.each.0) ∙ c.in-Ok-Some.field-0-is) in
    let t = table_of_name (g.S.PageReader.pages c.find_table.new.space) c.args.root c.args.name.now tables c.in-Ok-Some.table (subst (λ (p : PageMap). HoldsFor false p c.args.root tables) (sym c.find_table.ensures.same) h) f in
    database_rows _ c.replace_fitting.result (g.S.PageReader.pages c.replace_fitting.new.space) c.args.name.now tables c.in-Ok-Some.table (with_row c.args.number c.args.row) (with_number c.args.number c.args.row f.at.rows) f refl (c.replace_fitting.ensures.replaced _ t)

pub returns-in-Ok-Some-clause-owned : goal.returns-in-Ok-Some-clause-owned
returns-in-Ok-Some-clause-owned g c = λ tables h.
    let f = is_found c.args.name.now tables c.in-Ok-Some.table (sym (c.in-Ok-Some.ensures.found h.owned (declared_of tables) h.trees.each.0) ∙ c.in-Ok-Some.field-0-is) in
    let t = table_of_name (g.S.PageReader.pages c.find_table.new.space) c.args.root c.args.name.now tables c.in-Ok-Some.table (subst (λ (p : PageMap). HoldsFor true p c.args.root tables) (sym c.find_table.ensures.same) h) f in
    database_rows _ c.replace_fitting.result (g.S.PageReader.pages c.replace_fitting.new.space) c.args.name.now tables c.in-Ok-Some.table (with_row c.args.number c.args.row) (with_number c.args.number c.args.row f.at.rows) f refl (c.replace_fitting.ensures.replaced _ t)

pub returns-in-Ok-Some-clause-limits : goal.returns-in-Ok-Some-clause-limits
returns-in-Ok-Some-clause-limits g c =
    reaches_so c.replace_fitting.result (HasLongRow (c.args.row ∷ [])) (HasLongKey (map index_of c.in-Ok-Some.table.indexes) (c.args.row ∷ [])) ⊥
    (HasLongRow (c.args.row ∷ [])) ((tables : List TableAt) → HoldsDatabase (g.S.PageReader.pages c.args.space.now) c.args.root tables → HasLongKey (indexes_of (get (contents_of tables) c.args.name.now)) (c.args.row ∷ []))
    ⊥
    (λ long. long) (λ key tables h. key_shown c.args.name.now tables c.in-Ok-Some.table (c.args.row ∷ []) (is_found c.args.name.now tables c.in-Ok-Some.table (sym (c.in-Ok-Some.ensures.found h.owned (declared_of tables) h.trees.each.0) ∙ c.in-Ok-Some.field-0-is)) key)
    (λ none. none)
    c.replace_fitting.ensures.limits

pub returns-in-Ok-Some-clause-whole : goal.returns-in-Ok-Some-clause-whole
returns-in-Ok-Some-clause-whole g c = whole_later c.replace_fitting.result (g.S.PageReader.is_whole c.args.space.now) (g.S.PageReader.is_whole c.find_table.new.space) (g.S.PageReader.is_whole c.replace_fitting.new.space) c.find_table.ensures.whole c.replace_fitting.ensures.whole

pub returns-in-Ok-Some-clause-follows : goal.returns-in-Ok-Some-clause-follows
returns-in-Ok-Some-clause-follows g c = g.met.S.PageReader.follows_trans _ _ _ c.find_table.ensures.follows c.replace_fitting.ensures.follows

pub returns-in-Ok-Some-clause-refusal : goal.returns-in-Ok-Some-clause-refusal
returns-in-Ok-Some-clause-refusal g c =
    refused_later c.replace_fitting.result (g.S.PageSpace.at_limit c.replace_fitting.new.space) (IsTableOf false (g.S.PageReader.pages c.find_table.new.space) c.args.root c.in-Ok-Some.table → (g.S.PageReader.is_whole c.find_table.new.space) → ⊥) (HoldsNoDatabaseIn (g.S.PageReader.pages c.args.space.now) c.args.root (g.S.PageReader.is_whole c.args.space.now)) (g.S.PageReader.refused c.args.space.now) (g.S.PageReader.refused c.find_table.new.space) (g.S.PageReader.refused c.replace_fitting.new.space)
    (λ none tables h whole. let f = is_found c.args.name.now tables c.in-Ok-Some.table (sym (c.in-Ok-Some.ensures.found h.owned (declared_of tables) h.trees.each.0) ∙ c.in-Ok-Some.field-0-is) in
    none (table_of_name (g.S.PageReader.pages c.find_table.new.space) c.args.root c.args.name.now tables c.in-Ok-Some.table (subst (λ (p : PageMap). HoldsDatabase p c.args.root tables) (sym c.find_table.ensures.same) h) f) (c.find_table.ensures.whole whole))
    c.find_table.ensures.rising c.replace_fitting.ensures.refusal

pub returns-in-Ok-None-clause-replaced : goal.returns-in-Ok-None-clause-replaced
returns-in-Ok-None-clause-replaced g c = λ tables h. database_none (g.S.PageReader.pages c.args.space.now) (g.S.PageReader.pages c.find_table.new.space) c.args.root c.args.name.now tables (with_row c.args.number c.args.row) c.find_table.ensures.same h (sym (c.in-Ok-None.ensures.found h.owned (declared_of tables) h.trees.each.0) ∙ c.in-Ok-None.field-0-is)

pub returns-in-Ok-None-clause-owned : goal.returns-in-Ok-None-clause-owned
returns-in-Ok-None-clause-owned g c = λ tables h. database_none (g.S.PageReader.pages c.args.space.now) (g.S.PageReader.pages c.find_table.new.space) c.args.root c.args.name.now tables (with_row c.args.number c.args.row) c.find_table.ensures.same h (sym (c.in-Ok-None.ensures.found h.owned (declared_of tables) h.trees.each.0) ∙ c.in-Ok-None.field-0-is)

pub returns-in-Err-clause-refusal : goal.returns-in-Err-clause-refusal
returns-in-Err-clause-refusal g c = read_refused c.in-Err.fault (g.S.PageSpace.at_limit c.find_table.new.space) (HoldsNoSchema (g.S.PageReader.pages c.args.space.now) c.args.root) (HoldsNoDatabaseIn (g.S.PageReader.pages c.args.space.now) c.args.root (g.S.PageReader.is_whole c.args.space.now)) (g.S.PageReader.refused c.args.space.now) (g.S.PageReader.refused c.find_table.new.space) (λ none tables h whole. none h.owned (declared_of tables) h.trees.each.0) c.in-Err.ensures.refusal
