use Rattle.std.proofs.Common.{◌∙◌, sym, subst, List, Option, IfOk}
use Rattle.std.specs.FinMap.{get}
use Rattle.std.specs.List.{AllByRecursion}
use Rattle.sqlval.specs.declared.schema.Column.{Column}
use Rattle.sqlval.specs.declared.schema.Table.{Table}
use Rattle.store.specs.Contents as stored
use Rattle.store.specs.Indexes.{entries_of, some_after}
use Rattle.store.specs.View.{AreEntries}
use Rattle.page_space.specs.Space.{PageMap}
use Rattle.catalog.specs.Held.{HoldsNoSchema}
use Rattle.tablestore.specs.Held.{HoldsFitting, HoldsNoFitting, RowFits}
use Rattle.stored_tables.specs.Named.{AreTyped, IsTyped}
use Rattle.stored_tables.proofs.RefusalLemmas.{reads_later, read_harm}
use Rattle.database_trees.specs.Held.{declared_of, contents_of, HoldsNoDatabase}
use Rattle.index_lookups.proofs.BlockLemmas.{rows_found, no_rows_found, none_of_none}
use Rattle.index_lookups.proofs.blocks.scan_block.Goals as goal

pub returns-in-Ok-Some-clause-rows : goal.returns-in-Ok-Some-clause-rows
returns-in-Ok-Some-clause-rows g c = λ tables h.
    let r = rows_found (g.R.PageReader.pages c.args.space.now) c.args.root c.args.name.now tables c.in-Ok-Some.table h (sym (c.in-Ok-Some.ensures.found h.owned (declared_of tables) h.trees.each.0) ∙ c.in-Ok-Some.field-0-is) in
    c.some_rows.ensures.found r.0 (entries_of (get (contents_of tables) c.args.name.now)) (subst (λ (cs : List Column). HoldsFitting (g.R.PageReader.pages c.find_table.new.space) c.in-Ok-Some.table.root r.0 cs (entries_of (get (contents_of tables) c.args.name.now))) (sym c.as_slice-columns.ensures)
    (subst (λ (p : PageMap). HoldsFitting p c.in-Ok-Some.table.root r.0 c.in-Ok-Some.table.columns (entries_of (get (contents_of tables) c.args.name.now))) (sym c.find_table.ensures.same) r.1))

pub returns-in-Ok-Some-clause-typed : goal.returns-in-Ok-Some-clause-typed
returns-in-Ok-Some-clause-typed g c = λ owned tables h.
    subst (λ (found : Option Table). IfOk c.some_rows.result (λ rows. AreTyped found rows.rows)) (sym c.in-Ok-Some.field-0-is ∙ c.in-Ok-Some.ensures.found owned tables h)
    (subst (λ (cs : List Column). IfOk c.some_rows.result (λ rows. AllByRecursion (RowFits cs) rows.rows)) c.as_slice-columns.ensures c.some_rows.ensures.typed)

pub returns-in-Ok-Some-clause-refusal : goal.returns-in-Ok-Some-clause-refusal
returns-in-Ok-Some-clause-refusal g c =
    reads_later c.some_rows.result (HoldsNoFitting (g.R.PageReader.pages c.find_table.new.space) c.in-Ok-Some.table.root c.as_slice-columns.result.now) (HoldsNoDatabase (g.R.PageReader.pages c.args.space.now) c.args.root)
    (g.R.PageReader.refused c.args.space.now) (g.R.PageReader.refused c.find_table.new.space) (g.R.PageReader.refused c.some_rows.new.space)
    (λ none tables h.
    let r = rows_found (g.R.PageReader.pages c.args.space.now) c.args.root c.args.name.now tables c.in-Ok-Some.table h (sym (c.in-Ok-Some.ensures.found h.owned (declared_of tables) h.trees.each.0) ∙ c.in-Ok-Some.field-0-is) in
    none r.0 (entries_of (get (contents_of tables) c.args.name.now)) (subst (λ (cs : List Column). HoldsFitting (g.R.PageReader.pages c.find_table.new.space) c.in-Ok-Some.table.root r.0 cs (entries_of (get (contents_of tables) c.args.name.now))) (sym c.as_slice-columns.ensures)
    (subst (λ (p : PageMap). HoldsFitting p c.in-Ok-Some.table.root r.0 c.in-Ok-Some.table.columns (entries_of (get (contents_of tables) c.args.name.now))) (sym c.find_table.ensures.same) r.1)))
    c.find_table.ensures.rising c.some_rows.ensures.refusal

pub returns-in-Ok-Some-clause-whole : goal.returns-in-Ok-Some-clause-whole
returns-in-Ok-Some-clause-whole g c = λ whole. c.some_rows.ensures.whole (c.find_table.ensures.whole whole)

pub returns-in-Ok-Some-clause-follows : goal.returns-in-Ok-Some-clause-follows
returns-in-Ok-Some-clause-follows g c = g.met.R.PageReader.follows_trans _ _ _ c.find_table.ensures.follows c.some_rows.ensures.follows

pub returns-in-Ok-None-clause-rows : goal.returns-in-Ok-None-clause-rows
returns-in-Ok-None-clause-rows g c = λ tables h.
    subst (λ (xs : List stored.Entry). AreEntries c.no_rows.result (some_after c.args.after c.args.most xs))
    (sym (no_rows_found c.args.name.now tables (sym (c.in-Ok-None.ensures.found h.owned (declared_of tables) h.trees.each.0) ∙ c.in-Ok-None.field-0-is)))
    (none_of_none c.args.most c.no_rows.result c.no_rows.ensures)

pub returns-in-Ok-None-clause-typed : goal.returns-in-Ok-None-clause-typed
returns-in-Ok-None-clause-typed g c = λ owned tables h. subst (AllByRecursion (IsTyped _)) (sym c.no_rows.ensures.rows) tt

pub returns-in-Err-clause-refusal : goal.returns-in-Err-clause-refusal
returns-in-Err-clause-refusal g c =
    read_harm c.in-Err.fault (HoldsNoSchema (g.R.PageReader.pages c.args.space.now) c.args.root) (HoldsNoDatabase (g.R.PageReader.pages c.args.space.now) c.args.root)
    (g.R.PageReader.refused c.args.space.now) (g.R.PageReader.refused c.find_table.new.space) (λ none tables h. none h.owned (declared_of tables) h.trees.each.0) c.in-Err.ensures.refusal
