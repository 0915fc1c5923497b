use Rattle.std.proofs.Common.{◌≡◌, ◌∙◌, Option}
use Rattle.std.specs.Prelude.{slice_get}
use Rattle.std.specs.Option.{option_map}
use Rattle.std.proofs.lemmas.Result.{IfOk-weaker}
use Rattle.store.specs.declared.rows.NumberedRow.{NumberedRow}
use Rattle.store.specs.View.{entry_of}
use Rattle.btree_read.specs.declared.entry.Start.TheVariants.{Behind}
use Rattle.btree_read.specs.Search.{IsNoTree}
use Rattle.stored_tables.proofs.RefusalLemmas.{read_harm, reads_later}
use Rattle.index_lookups.specs.Walked.{HoldsNoIndexed, StandsNowhere}
use Rattle.index_lookups.specs.Begun.{IsRowBehind}
use Rattle.index_lookups.proofs.StandLemmas.{has_begun, indexed_in}
use Rattle.index_lookups.proofs.lookups.row_behind.Goals as goal

pub returns-in-Ok-clause-row : goal.returns-in-Ok-clause-row
returns-in-Ok-clause-row g c = λ rows h.
    let b = has_begun (g.R.PageReader.pages c.args.space.now) c.args.place.now.root c.args.place.now.rows_root c.args.place.now.types c.args.place.now.columns rows h Behind c.args.code.now c.in-Ok.entry (c.in-Ok.ensures.found h.owned h.index.entries h.index.tree) in
    IfOk-weaker c.row_found.result (λ (found : Option NumberedRow). option_map entry_of found ≡ slice_get b.left 0) (IsRowBehind c.args.place.now.columns rows c.args.code.now) (λ found e. e ∙ b.head)
    (c.row_found.ensures.row rows b.left (indexed_in (g.R.PageReader.pages c.args.space.now) (g.R.PageReader.pages c.next.new.space) c.args.place.now.root c.args.place.now.rows_root c.args.place.now.types c.args.place.now.columns rows c.next.ensures.same h) b.stands)

pub returns-in-Ok-clause-refusal : goal.returns-in-Ok-clause-refusal
returns-in-Ok-clause-refusal g c =
    reads_later c.row_found.result (StandsNowhere (g.R.PageReader.pages c.next.new.space) c.args.place.now.root c.args.place.now.rows_root c.args.place.now.types c.args.place.now.columns c.in-Ok.entry) (HoldsNoIndexed (g.R.PageReader.pages c.args.space.now) c.args.place.now.root c.args.place.now.rows_root c.args.place.now.types c.args.place.now.columns)
    (g.R.PageReader.refused c.args.space.now) (g.R.PageReader.refused c.next.new.space) (g.R.PageReader.refused c.row_found.new.space)
    (λ none rows h. let b = has_begun (g.R.PageReader.pages c.args.space.now) c.args.place.now.root c.args.place.now.rows_root c.args.place.now.types c.args.place.now.columns rows h Behind c.args.code.now c.in-Ok.entry (c.in-Ok.ensures.found h.owned h.index.entries h.index.tree) in none rows b.left (indexed_in (g.R.PageReader.pages c.args.space.now) (g.R.PageReader.pages c.next.new.space) c.args.place.now.root c.args.place.now.rows_root c.args.place.now.types c.args.place.now.columns rows c.next.ensures.same h) b.stands)
    c.next.ensures.rising c.row_found.ensures.refusal

pub returns-in-Ok-clause-whole : goal.returns-in-Ok-clause-whole
returns-in-Ok-clause-whole g c = λ whole. c.row_found.ensures.whole (c.next.ensures.whole whole)

pub returns-in-Ok-clause-follows : goal.returns-in-Ok-clause-follows
returns-in-Ok-clause-follows g c = g.met.R.PageReader.follows_trans _ _ _ c.next.ensures.follows c.row_found.ensures.follows

pub returns-in-Err-clause-refusal : goal.returns-in-Err-clause-refusal
returns-in-Err-clause-refusal g c =
    read_harm c.in-Err.fault (IsNoTree (g.R.PageReader.pages c.args.space.now) c.args.place.now.root) (HoldsNoIndexed (g.R.PageReader.pages c.args.space.now) c.args.place.now.root c.args.place.now.rows_root c.args.place.now.types c.args.place.now.columns)
    (g.R.PageReader.refused c.args.space.now) (g.R.PageReader.refused c.next.new.space) (λ none rows h. none h.owned h.index.entries h.index.tree) c.in-Err.ensures.refusal

pub returns-in-Ok-clause-typed : goal.returns-in-Ok-clause-typed
returns-in-Ok-clause-typed g c = c.row_found.ensures.typed
