use Rattle.std.proofs.Common.{◌≡◌, ◌∙◌, [], Option, None}
use Rattle.std.specs.Prelude.{slice_get}
use Rattle.std.specs.Option.{option_map}
use Rattle.std.proofs.lemmas.Result.{IfOk-weaker}
use Rattle.store.specs.declared.rows.NumberedRow.{NumberedRow}
use Rattle.store.specs.View.{entry_of}
use Rattle.btree_read.specs.declared.entry.Start.TheVariants.{At}
use Rattle.btree_read.specs.Search.{IsNoTree}
use Rattle.stored_tables.proofs.RefusalLemmas.{read_harm, reads_later}
use Rattle.index_lookups.specs.Walked.{walk_of, HoldsNoIndexed, StandsNowhere}
use Rattle.index_lookups.specs.Begun.{IsNextRow}
use Rattle.index_lookups.proofs.StandLemmas.{has_begun, indexed_in, first_of_all}
use Rattle.index_lookups.proofs.lookups.first_row.Goals as goal

pub returns-in-Ok-clause-row : goal.returns-in-Ok-clause-row
returns-in-Ok-clause-row g c = λ rows h.
    let b = has_begun (g.R.PageReader.pages c.args.space.now) c.args.place.now.root c.args.place.now.rows_root c.args.place.now.types c.args.place.now.columns rows h At [] c.in-Ok.entry (c.in-Ok.ensures.found h.owned h.index.entries h.index.tree) in
    IfOk-weaker c.row_found.result (λ (found : Option NumberedRow). option_map entry_of found ≡ slice_get b.left 0) (IsNextRow c.args.place.now.columns rows None) (λ found e. e ∙ b.head ∙ first_of_all c.args.place.now.columns (walk_of c.args.place.now.columns rows))
    (c.row_found.ensures.row rows b.left (indexed_in (g.R.PageReader.pages c.args.space.now) (g.R.PageReader.pages c.seek.new.space) c.args.place.now.root c.args.place.now.rows_root c.args.place.now.types c.args.place.now.columns rows c.seek.ensures.same h) b.stands)

pub returns-in-Ok-clause-refusal : goal.returns-in-Ok-clause-refusal
returns-in-Ok-clause-refusal g c =
    reads_later c.row_found.result (StandsNowhere (g.R.PageReader.pages c.seek.new.space) c.args.place.now.root c.args.place.now.rows_root c.args.place.now.types c.args.place.now.columns c.in-Ok.entry) (HoldsNoIndexed (g.R.PageReader.pages c.args.space.now) c.args.place.now.root c.args.place.now.rows_root c.args.place.now.types c.args.place.now.columns)
    (g.R.PageReader.refused c.args.space.now) (g.R.PageReader.refused c.seek.new.space) (g.R.PageReader.refused c.row_found.new.space)
    (λ none rows h. let b = has_begun (g.R.PageReader.pages c.args.space.now) c.args.place.now.root c.args.place.now.rows_root c.args.place.now.types c.args.place.now.columns rows h At [] c.in-Ok.entry (c.in-Ok.ensures.found h.owned h.index.entries h.index.tree) in none rows b.left (indexed_in (g.R.PageReader.pages c.args.space.now) (g.R.PageReader.pages c.seek.new.space) c.args.place.now.root c.args.place.now.rows_root c.args.place.now.types c.args.place.now.columns rows c.seek.ensures.same h) b.stands)
    c.seek.ensures.rising c.row_found.ensures.refusal

pub returns-in-Ok-clause-whole : goal.returns-in-Ok-clause-whole
returns-in-Ok-clause-whole g c = λ whole. c.row_found.ensures.whole (c.seek.ensures.whole whole)

pub returns-in-Ok-clause-follows : goal.returns-in-Ok-clause-follows
returns-in-Ok-clause-follows g c = g.met.R.PageReader.follows_trans _ _ _ c.seek.ensures.follows c.row_found.ensures.follows

pub returns-in-Err-clause-refusal : goal.returns-in-Err-clause-refusal
returns-in-Err-clause-refusal g c =
    read_harm c.in-Err.fault (IsNoTree (g.R.PageReader.pages c.args.space.now) c.args.place.now.root) (HoldsNoIndexed (g.R.PageReader.pages c.args.space.now) c.args.place.now.root c.args.place.now.rows_root c.args.place.now.types c.args.place.now.columns)
    (g.R.PageReader.refused c.args.space.now) (g.R.PageReader.refused c.seek.new.space) (λ none rows h. none h.owned h.index.entries h.index.tree) c.in-Err.ensures.refusal

pub returns-in-Ok-clause-typed : goal.returns-in-Ok-clause-typed
returns-in-Ok-clause-typed g c = c.row_found.ensures.typed
