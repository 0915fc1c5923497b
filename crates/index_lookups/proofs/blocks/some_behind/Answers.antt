use Rattle.std.proofs.Common.{List, IfOk, subst}
use Rattle.std.specs.Prelude.{take, slice_get}
use Rattle.store.specs.Contents as stored
use Rattle.store.specs.View.{AreEntries}
use Rattle.btree_read.specs.declared.entry.Start.TheVariants.{Behind}
use Rattle.btree_read.specs.Search.{IsNoTree}
use Rattle.stored_tables.proofs.RefusalLemmas.{read_harm, reads_later}
use Rattle.index_lookups.specs.Walked.{HoldsNoIndexed, NoneStandsBefore}
use Rattle.index_lookups.proofs.AheadLemmas.{first_taken, begins_ahead}
use Rattle.index_lookups.proofs.StandLemmas.{has_begun, all_behind, indexed_in}
use Rattle.index_lookups.proofs.blocks.some_behind.Goals as goal

pub returns-in-Ok-clause-rows : goal.returns-in-Ok-clause-rows
returns-in-Ok-clause-rows g c = λ rows h may.
    let b = has_begun (g.R.PageReader.pages c.args.space.now) c.args.place.now.root c.args.place.now.rows_root c.args.place.now.types c.args.place.now.columns rows h Behind c.args.code.now (slice_get c.in-Ok.first 0) (first_taken Behind c.args.code.now 1 h.index.entries c.in-Ok.first (c.in-Ok.ensures.found h.owned h.index.entries h.index.tree)) in
    subst (λ (xs : List stored.Entry). IfOk c.some_from.result (λ found. AreEntries found (take c.args.most xs)))
    (all_behind (g.R.PageReader.pages c.args.space.now) c.args.place.now.root c.args.place.now.rows_root c.args.place.now.types c.args.place.now.columns rows h c.args.sought c.args.code.now (slice_get c.in-Ok.first 0) may b)
    (c.some_from.ensures.rows rows b.left (indexed_in (g.R.PageReader.pages c.args.space.now) (g.R.PageReader.pages c.entries_from.new.space) c.args.place.now.root c.args.place.now.rows_root c.args.place.now.types c.args.place.now.columns rows c.entries_from.ensures.same h) (begins_ahead (g.R.PageReader.pages c.args.space.now) c.args.place.now.root c.args.place.now.rows_root c.args.place.now.types c.args.place.now.columns rows h Behind c.args.code.now 1 c.in-Ok.first (c.in-Ok.ensures.found h.owned h.index.entries h.index.tree) b))

pub returns-in-Ok-clause-refusal : goal.returns-in-Ok-clause-refusal
returns-in-Ok-clause-refusal g c =
    reads_later c.some_from.result (NoneStandsBefore (g.R.PageReader.pages c.entries_from.new.space) c.args.place.now.root c.args.place.now.rows_root c.args.place.now.types c.args.place.now.columns c.in-Ok.first) (HoldsNoIndexed (g.R.PageReader.pages c.args.space.now) c.args.place.now.root c.args.place.now.rows_root c.args.place.now.types c.args.place.now.columns)
    (g.R.PageReader.refused c.args.space.now) (g.R.PageReader.refused c.entries_from.new.space) (g.R.PageReader.refused c.some_from.new.space)
    (λ none rows h. let b = has_begun (g.R.PageReader.pages c.args.space.now) c.args.place.now.root c.args.place.now.rows_root c.args.place.now.types c.args.place.now.columns rows h Behind c.args.code.now (slice_get c.in-Ok.first 0) (first_taken Behind c.args.code.now 1 h.index.entries c.in-Ok.first (c.in-Ok.ensures.found h.owned h.index.entries h.index.tree)) in none rows b.left (indexed_in (g.R.PageReader.pages c.args.space.now) (g.R.PageReader.pages c.entries_from.new.space) c.args.place.now.root c.args.place.now.rows_root c.args.place.now.types c.args.place.now.columns rows c.entries_from.ensures.same h) (begins_ahead (g.R.PageReader.pages c.args.space.now) c.args.place.now.root c.args.place.now.rows_root c.args.place.now.types c.args.place.now.columns rows h Behind c.args.code.now 1 c.in-Ok.first (c.in-Ok.ensures.found h.owned h.index.entries h.index.tree) b))
    c.entries_from.ensures.rising c.some_from.ensures.refusal

pub returns-in-Ok-clause-whole : goal.returns-in-Ok-clause-whole
returns-in-Ok-clause-whole g c = λ whole. c.some_from.ensures.whole (c.entries_from.ensures.whole whole)

pub returns-in-Ok-clause-follows : goal.returns-in-Ok-clause-follows
returns-in-Ok-clause-follows g c = g.met.R.PageReader.follows_trans _ _ _ c.entries_from.ensures.follows c.some_from.ensures.follows

pub returns-in-Err-clause-refusal : goal.returns-in-Err-clause-refusal
returns-in-Err-clause-refusal g c =
    read_harm c.in-Err.fault (IsNoTree (g.R.PageReader.pages c.args.space.now) c.args.place.now.root) (HoldsNoIndexed (g.R.PageReader.pages c.args.space.now) c.args.place.now.root c.args.place.now.rows_root c.args.place.now.types c.args.place.now.columns)
    (g.R.PageReader.refused c.args.space.now) (g.R.PageReader.refused c.entries_from.new.space) (λ none rows h. none h.owned h.index.entries h.index.tree) c.in-Err.ensures.refusal

pub returns-in-Ok-clause-typed : goal.returns-in-Ok-clause-typed
returns-in-Ok-clause-typed g c = c.some_from.ensures.typed
