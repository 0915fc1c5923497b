use Rattle.std.proofs.Common.{subst, sym, Some}
use Rattle.page_space.specs.Space.{PageMap}
use Rattle.btree_read.specs.Near.{LiesIn}
use Rattle.std.specs.Prelude.{slice_get}
use Rattle.stored_tables.proofs.RefusalLemmas.{reads_later, read_harm}
use Rattle.index_lookups.specs.Sought.{is_wanted}
use Rattle.index_lookups.specs.Walked.{StandsNowhere, NoneStandsBefore}
use Rattle.index_lookups.proofs.AheadLemmas.{some_left}
use Rattle.index_lookups.proofs.StandLemmas.{indexed_in, stands_as, none_left, ended_behind}
use Rattle.index_lookups.proofs.walking.step.Goals as goal

pub returns-in-None-clause-stepped : goal.returns-in-None-clause-stepped
returns-in-None-clause-stepped g c = λ rows left list h s are.
    ended_behind c.args.place.now.columns rows (is_wanted c.args.sought c.args.place.now.columns) left list c.args.walk.now s
    (none_left c.args.place.now.columns rows left (slice_get c.args.walk.now.ahead 0) (sym c.in-None.ensures.value) s.stands) are

pub go_on-requires : goal.go_on-requires
go_on-requires g c = some_left c.args.walk.now.ahead c.in-Some.ensures.within

pub returns-in-Ok-clause-stepped : goal.returns-in-Ok-clause-stepped
returns-in-Ok-clause-stepped g c = λ rows left list h s are.
    c.go_on.ensures.stepped rows left list (indexed_in (g.R.PageReader.pages c.args.space.now) (g.R.PageReader.pages c.row_of_entry.new.space) c.args.place.now.root c.args.place.now.rows_root c.args.place.now.types c.args.place.now.columns rows c.row_of_entry.ensures.same h) s
    (c.in-Ok.ensures.row rows left h (stands_as c.args.place.now.columns rows left (slice_get c.args.walk.now.ahead 0) (Some c.in-Some.entry.now) (sym c.in-Some.ensures.value) s.stands)) are

pub returns-in-Ok-clause-whole : goal.returns-in-Ok-clause-whole
returns-in-Ok-clause-whole g c = λ whole. c.go_on.ensures.whole (c.row_of_entry.ensures.whole whole)

pub returns-in-Ok-clause-follows : goal.returns-in-Ok-clause-follows
returns-in-Ok-clause-follows g c = g.met.R.PageReader.follows_trans _ _ _ c.row_of_entry.ensures.follows c.go_on.ensures.follows

pub returns-in-Ok-clause-refusal : goal.returns-in-Ok-clause-refusal
returns-in-Ok-clause-refusal g c =
    reads_later c.go_on.result (NoneStandsBefore (g.R.PageReader.pages c.row_of_entry.new.space) c.args.place.now.root c.args.place.now.rows_root c.args.place.now.types c.args.place.now.columns c.args.walk.now.ahead) (NoneStandsBefore (g.R.PageReader.pages c.args.space.now) c.args.place.now.root c.args.place.now.rows_root c.args.place.now.types c.args.place.now.columns c.args.walk.now.ahead)
    (g.R.PageReader.refused c.args.space.now) (g.R.PageReader.refused c.row_of_entry.new.space) (g.R.PageReader.refused c.go_on.new.space)
    (λ none rows left h s. none rows left (indexed_in (g.R.PageReader.pages c.args.space.now) (g.R.PageReader.pages c.row_of_entry.new.space) c.args.place.now.root c.args.place.now.rows_root c.args.place.now.types c.args.place.now.columns rows c.row_of_entry.ensures.same h) s)
    c.row_of_entry.ensures.rising c.go_on.ensures.refusal

pub returns-in-Err-clause-refusal : goal.returns-in-Err-clause-refusal
returns-in-Err-clause-refusal g c =
    read_harm c.in-Err.fault (StandsNowhere (g.R.PageReader.pages c.args.space.now) c.args.place.now.root c.args.place.now.rows_root c.args.place.now.types c.args.place.now.columns (Some c.in-Some.entry.now)) (NoneStandsBefore (g.R.PageReader.pages c.args.space.now) c.args.place.now.root c.args.place.now.rows_root c.args.place.now.types c.args.place.now.columns c.args.walk.now.ahead)
    (g.R.PageReader.refused c.args.space.now) (g.R.PageReader.refused c.row_of_entry.new.space)
    (λ none rows left h s. none rows left h (stands_as c.args.place.now.columns rows left (slice_get c.args.walk.now.ahead 0) (Some c.in-Some.entry.now) (sym c.in-Some.ensures.value) s.stands)) c.in-Err.ensures.refusal

pub returns-in-Ok-clause-lies : goal.returns-in-Ok-clause-lies
returns-in-Ok-clause-lies g c = subst (λ (pages : PageMap). LiesIn pages c.args.place.now.rows_root c.row_of_entry.new.last) (sym c.go_on.ensures.same) c.row_of_entry.ensures.lies

pub returns-in-None-clause-typed : goal.returns-in-None-clause-typed
returns-in-None-clause-typed g c = λ h. h

pub returns-in-Ok-clause-typed : goal.returns-in-Ok-clause-typed
returns-in-Ok-clause-typed g c = λ h. c.go_on.ensures.typed h c.in-Ok.ensures.typed
