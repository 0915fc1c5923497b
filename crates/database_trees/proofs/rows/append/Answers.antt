use Rattle.store.specs.Indexes.{entries_of}
use Rattle.store.specs.Errors.{HasLongRow, HasLongKey, indexes_of}
use Rattle.denote.specs.SchemaOf.{index_of}
use Rattle.std.specs.FinMap.{get}
use Rattle.std.proofs.Common.{sym, subst, refl, ◌∙◌, ◌++◌, map, length, ◌+◌, ◌^◌, ◌<◌, List, false, true}
use Rattle.stored_tables.proofs.ChangeLemmas.{whole_later}
use Rattle.page_space.specs.Space.{PageMap}
use Rattle.catalog.specs.Held.{HoldsNoSchema}
use Rattle.database_trees.specs.Held.{declared_of, HoldsDatabase, TableAt, contents_of, HoldsFor}
use Rattle.database_trees.specs.Changed.{HoldsNoDatabaseIn}
use Rattle.database_trees.specs.Exchanged.{IsTableOf}
use Rattle.database_trees.proofs.RefusalLemmas.{refused_later, read_refused, reaches_so}
use Rattle.std.specs.List.{enumerate_from}
use Rattle.store.specs.Contents.{with_rows, next_number}
use Rattle.database_trees.proofs.ContentLemmas.{is_found, table_of_name, database_rows, database_none, key_shown, number_shown}
use Rattle.database_trees.proofs.rows.append.Goals as goal

pub returns-in-Ok-Some-clause-appended : goal.returns-in-Ok-Some-clause-appended
returns-in-Ok-Some-clause-appended g c = λ tables h.
    let f = is_found c.args.name.now tables c.in-Ok-Some.table (sym (c.in-Ok-Some.ensures.found h.owned (declared_of tables) h.trees.each.0) ∙ c.in-Ok-Some.field-0-is) in
    let t = table_of_name (g.S.PageReader.pages c.find_table.new.space) c.args.root c.args.name.now tables c.in-Ok-Some.table (subst (λ (p : PageMap). HoldsFor false p c.args.root tables) (sym c.find_table.ensures.same) h) f in
    database_rows _ c.append_fitting.result (g.S.PageReader.pages c.append_fitting.new.space) c.args.name.now tables c.in-Ok-Some.table (with_rows c.args.rows) (f.at.rows ++ enumerate_from (next_number f.at.rows) c.args.rows) f refl (c.append_fitting.ensures.appended _ t)

pub returns-in-Ok-Some-clause-owned : goal.returns-in-Ok-Some-clause-owned
returns-in-Ok-Some-clause-owned g c = λ tables h.
    let f = is_found c.args.name.now tables c.in-Ok-Some.table (sym (c.in-Ok-Some.ensures.found h.owned (declared_of tables) h.trees.each.0) ∙ c.in-Ok-Some.field-0-is) in
    let t = table_of_name (g.S.PageReader.pages c.find_table.new.space) c.args.root c.args.name.now tables c.in-Ok-Some.table (subst (λ (p : PageMap). HoldsFor true p c.args.root tables) (sym c.find_table.ensures.same) h) f in
    database_rows _ c.append_fitting.result (g.S.PageReader.pages c.append_fitting.new.space) c.args.name.now tables c.in-Ok-Some.table (with_rows c.args.rows) (f.at.rows ++ enumerate_from (next_number f.at.rows) c.args.rows) f refl (c.append_fitting.ensures.appended _ t)

pub returns-in-Ok-Some-clause-limits : goal.returns-in-Ok-Some-clause-limits
returns-in-Ok-Some-clause-limits g c =
    reaches_so c.append_fitting.result (HasLongRow c.args.rows) (HasLongKey (map index_of c.in-Ok-Some.table.indexes) c.args.rows) ((h : IsTableOf false (g.S.PageReader.pages c.find_table.new.space) c.args.root c.in-Ok-Some.table) → 2 ^ 63 < next_number h.at.rows + length c.args.rows)
    (HasLongRow c.args.rows) ((tables : List TableAt) → HoldsDatabase (g.S.PageReader.pages c.args.space.now) c.args.root tables → HasLongKey (indexes_of (get (contents_of tables) c.args.name.now)) c.args.rows)
    ((tables : List TableAt) → HoldsDatabase (g.S.PageReader.pages c.args.space.now) c.args.root tables → 2 ^ 63 < next_number (entries_of (get (contents_of tables) c.args.name.now)) + length c.args.rows)
    (λ long. long) (λ key tables h. key_shown c.args.name.now tables c.in-Ok-Some.table c.args.rows (is_found c.args.name.now tables c.in-Ok-Some.table (sym (c.in-Ok-Some.ensures.found h.owned (declared_of tables) h.trees.each.0) ∙ c.in-Ok-Some.field-0-is)) key)
    (λ ends tables h. let f = is_found c.args.name.now tables c.in-Ok-Some.table (sym (c.in-Ok-Some.ensures.found h.owned (declared_of tables) h.trees.each.0) ∙ c.in-Ok-Some.field-0-is) in number_shown c.args.name.now tables c.in-Ok-Some.table c.args.rows f (ends (table_of_name (g.S.PageReader.pages c.find_table.new.space) c.args.root c.args.name.now tables c.in-Ok-Some.table (subst (λ (p : PageMap). HoldsDatabase p c.args.root tables) (sym c.find_table.ensures.same) h) f)))
    c.append_fitting.ensures.limits

pub returns-in-Ok-Some-clause-whole : goal.returns-in-Ok-Some-clause-whole
returns-in-Ok-Some-clause-whole g c = whole_later c.append_fitting.result (g.S.PageReader.is_whole c.args.space.now) (g.S.PageReader.is_whole c.find_table.new.space) (g.S.PageReader.is_whole c.append_fitting.new.space) c.find_table.ensures.whole c.append_fitting.ensures.whole

pub returns-in-Ok-Some-clause-follows : goal.returns-in-Ok-Some-clause-follows
returns-in-Ok-Some-clause-follows g c = g.met.S.PageReader.follows_trans _ _ _ c.find_table.ensures.follows c.append_fitting.ensures.follows

pub returns-in-Ok-Some-clause-refusal : goal.returns-in-Ok-Some-clause-refusal
returns-in-Ok-Some-clause-refusal g c =
    refused_later c.append_fitting.result (g.S.PageSpace.at_limit c.append_fitting.new.space) (IsTableOf false (g.S.PageReader.pages c.find_table.new.space) c.args.root c.in-Ok-Some.table → (g.S.PageReader.is_whole c.find_table.new.space) → ⊥) (HoldsNoDatabaseIn (g.S.PageReader.pages c.args.space.now) c.args.root (g.S.PageReader.is_whole c.args.space.now)) (g.S.PageReader.refused c.args.space.now) (g.S.PageReader.refused c.find_table.new.space) (g.S.PageReader.refused c.append_fitting.new.space)
    (λ none tables h whole. let f = is_found c.args.name.now tables c.in-Ok-Some.table (sym (c.in-Ok-Some.ensures.found h.owned (declared_of tables) h.trees.each.0) ∙ c.in-Ok-Some.field-0-is) in
    none (table_of_name (g.S.PageReader.pages c.find_table.new.space) c.args.root c.args.name.now tables c.in-Ok-Some.table (subst (λ (p : PageMap). HoldsDatabase p c.args.root tables) (sym c.find_table.ensures.same) h) f) (c.find_table.ensures.whole whole))
    c.find_table.ensures.rising c.append_fitting.ensures.refusal

pub returns-in-Ok-None-clause-appended : goal.returns-in-Ok-None-clause-appended
returns-in-Ok-None-clause-appended g c = λ tables h. database_none (g.S.PageReader.pages c.args.space.now) (g.S.PageReader.pages c.find_table.new.space) c.args.root c.args.name.now tables (with_rows c.args.rows) c.find_table.ensures.same h (sym (c.in-Ok-None.ensures.found h.owned (declared_of tables) h.trees.each.0) ∙ c.in-Ok-None.field-0-is)

pub returns-in-Ok-None-clause-owned : goal.returns-in-Ok-None-clause-owned
returns-in-Ok-None-clause-owned g c = λ tables h. database_none (g.S.PageReader.pages c.args.space.now) (g.S.PageReader.pages c.find_table.new.space) c.args.root c.args.name.now tables (with_rows c.args.rows) c.find_table.ensures.same h (sym (c.in-Ok-None.ensures.found h.owned (declared_of tables) h.trees.each.0) ∙ c.in-Ok-None.field-0-is)

pub returns-in-Err-clause-refusal : goal.returns-in-Err-clause-refusal
returns-in-Err-clause-refusal g c = read_refused c.in-Err.fault (g.S.PageSpace.at_limit c.find_table.new.space) (HoldsNoSchema (g.S.PageReader.pages c.args.space.now) c.args.root) (HoldsNoDatabaseIn (g.S.PageReader.pages c.args.space.now) c.args.root (g.S.PageReader.is_whole c.args.space.now)) (g.S.PageReader.refused c.args.space.now) (g.S.PageReader.refused c.find_table.new.space) (λ none tables h whole. none h.owned (declared_of tables) h.trees.each.0) c.in-Err.ensures.refusal
