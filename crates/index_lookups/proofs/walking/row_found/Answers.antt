use Rattle.std.proofs.Common.{Some, sym}
use Rattle.stored_tables.proofs.RefusalLemmas.{read_harm}
use Rattle.index_lookups.specs.Walked.{StandsNowhere}
use Rattle.index_lookups.proofs.StandLemmas.{stands_as}
use Rattle.index_lookups.proofs.walking.row_found.Goals as goal

pub returns-in-Ok-clause-row : goal.returns-in-Ok-clause-row
returns-in-Ok-clause-row g c = λ rows left h s. sym (c.in-Ok.ensures.row rows left h (stands_as c.args.place.now.columns rows left c.args.entry.now (Some c.in-Some.entry) c.in-Some.is s))

pub returns-in-Err-clause-refusal : goal.returns-in-Err-clause-refusal
returns-in-Err-clause-refusal g c =
    read_harm c.in-Err.fault (StandsNowhere (g.R.PageReader.pages c.args.space.now) c.args.place.now.root c.args.place.now.rows_root c.args.place.now.types c.args.place.now.columns (Some c.in-Some.entry)) (StandsNowhere (g.R.PageReader.pages c.args.space.now) c.args.place.now.root c.args.place.now.rows_root c.args.place.now.types c.args.place.now.columns c.args.entry.now)
    (g.R.PageReader.refused c.args.space.now) (g.R.PageReader.refused c.row_alone.new.space) (λ none rows left h s. none rows left h (stands_as c.args.place.now.columns rows left c.args.entry.now (Some c.in-Some.entry) c.in-Some.is s)) c.in-Err.ensures.refusal

pub returns-in-Ok-clause-typed : goal.returns-in-Ok-clause-typed
returns-in-Ok-clause-typed g c = c.in-Ok.ensures.typed

pub returns-in-None-clause-typed : goal.returns-in-None-clause-typed
returns-in-None-clause-typed g c = tt
