use Rattle.std.proofs.Common.{◌≡◌, List, Option, None, Some, IfSome, IfOk, refl, sym, ap, subst, ◌∙◌}
use Rattle.std.specs.FinMap.{get}
use Rattle.std.specs.List.{AllByRecursion}
use Rattle.std.proofs.lemmas.Result.{IfOk-weaker}
use Rattle.sqlval.specs.declared.schema.Column.{Column}
use Rattle.sqlval.specs.declared.schema.Table.{Table}
use Rattle.store.specs.Contents.{Entry}
use Rattle.store.specs.Indexes.{entries_of, entry_after}
use Rattle.store.specs.View.{AreEntries, IsEntry}
use Rattle.catalog.specs.Held.{HoldsNoSchema}
use Rattle.tablestore.specs.Held.{HoldsFitting, HoldsNoFitting, RowFits}
use Rattle.stored_tables.specs.Held.{declared_of, contents_of, HoldsNoTables}
use Rattle.stored_tables.specs.Named.{AreTyped, IsTyped}
use Rattle.stored_tables.proofs.RefusalLemmas.{reads_later, read_harm}
use Rattle.stored_tables.proofs.NameLemmas.{rows_read, rows_none}
use Rattle.stored_tables.proofs.reading.scan.Goals as goal

pub returns-in-Ok-Some-clause-rows : goal.returns-in-Ok-Some-clause-rows
returns-in-Ok-Some-clause-rows g c = λ tables h.
    let r = rows_read (g.R.PageReader.pages c.args.space.now) (g.R.PageReader.pages c.find_table.new.space) c.args.root tables c.args.name.now c.in-Ok-Some.table c.find_table.ensures.same h (sym c.in-Ok-Some.field-0-is ∙ c.in-Ok-Some.ensures.found h.owned (declared_of tables) h.schema) in
    c.scan.ensures.found r.owned (entries_of (get (contents_of tables) c.args.name.now)) (subst (λ (cs : List Column). HoldsFitting (g.R.PageReader.pages c.find_table.new.space) c.in-Ok-Some.table.root r.owned cs (entries_of (get (contents_of tables) c.args.name.now))) (sym c.as_slice.ensures) r.holds)

pub returns-in-Ok-Some-clause-typed : goal.returns-in-Ok-Some-clause-typed
returns-in-Ok-Some-clause-typed g c = λ owned tables h.
    subst (λ (found : Option Table). IfOk c.scan.result (λ rows. AreTyped found rows.rows)) (sym c.in-Ok-Some.field-0-is ∙ c.in-Ok-Some.ensures.found owned tables h) (subst (λ (cs : List Column). IfOk c.scan.result (λ rows. AllByRecursion (RowFits cs) rows.rows)) c.as_slice.ensures c.scan.ensures.typed)

pub returns-in-Ok-Some-clause-refusal : goal.returns-in-Ok-Some-clause-refusal
returns-in-Ok-Some-clause-refusal g c =
    reads_later c.scan.result (HoldsNoFitting (g.R.PageReader.pages c.find_table.new.space) c.in-Ok-Some.table.root c.as_slice.result.now) (HoldsNoTables (g.R.PageReader.pages c.args.space.now) c.args.root)
    (g.R.PageReader.refused c.args.space.now) (g.R.PageReader.refused c.find_table.new.space) (g.R.PageReader.refused c.scan.new.space)
    (λ none tables h. let r = rows_read (g.R.PageReader.pages c.args.space.now) (g.R.PageReader.pages c.find_table.new.space) c.args.root tables c.args.name.now c.in-Ok-Some.table c.find_table.ensures.same h (sym c.in-Ok-Some.field-0-is ∙ c.in-Ok-Some.ensures.found h.owned (declared_of tables) h.schema) in
    none r.owned (entries_of (get (contents_of tables) c.args.name.now)) (subst (λ (cs : List Column). HoldsFitting (g.R.PageReader.pages c.find_table.new.space) c.in-Ok-Some.table.root r.owned cs (entries_of (get (contents_of tables) c.args.name.now))) (sym c.as_slice.ensures) r.holds))
    c.find_table.ensures.rising c.scan.ensures.refusal

pub returns-in-Ok-Some-clause-follows : goal.returns-in-Ok-Some-clause-follows
returns-in-Ok-Some-clause-follows g c = g.met.R.PageReader.follows_trans _ _ _ c.find_table.ensures.follows c.scan.ensures.follows

pub returns-in-Ok-Some-clause-whole : goal.returns-in-Ok-Some-clause-whole
returns-in-Ok-Some-clause-whole g c = λ whole. c.scan.ensures.whole (c.find_table.ensures.whole whole)

pub returns-in-Ok-None-clause-rows : goal.returns-in-Ok-None-clause-rows
returns-in-Ok-None-clause-rows g c = λ tables h.
    subst (AreEntries c.no_rows.result) (sym (rows_none tables c.args.name.now (sym c.in-Ok-None.field-0-is ∙ c.in-Ok-None.ensures.found h.owned (declared_of tables) h.schema))) c.no_rows.ensures.entries

pub returns-in-Ok-None-clause-typed : goal.returns-in-Ok-None-clause-typed
returns-in-Ok-None-clause-typed g c = λ owned tables h. subst (AllByRecursion (IsTyped _)) (sym c.no_rows.ensures.rows) tt

pub returns-in-Err-clause-refusal : goal.returns-in-Err-clause-refusal
returns-in-Err-clause-refusal g c =
    read_harm c.in-Err.fault (HoldsNoSchema (g.R.PageReader.pages c.args.space.now) c.args.root) (HoldsNoTables (g.R.PageReader.pages c.args.space.now) c.args.root)
    (g.R.PageReader.refused c.args.space.now) (g.R.PageReader.refused c.find_table.new.space) (λ none tables h. none h.owned (declared_of tables) h.schema) c.in-Err.ensures.refusal
