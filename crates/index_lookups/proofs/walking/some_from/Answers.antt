use Rattle.std.proofs.Common.{rules, ◌∙◌, arith, subst}
use Rattle.std.specs.Prelude.{filter}
use Rattle.store.specs.View.{AreEntries}
use Rattle.std.proofs.lemmas.Result.{err_from_is_err_and}
use Rattle.btree_read.proofs.NodeLemmas.{read_refused}
use Rattle.index_lookups.specs.Sought.{is_wanted}
use Rattle.index_lookups.specs.Walked.{NoneStandsBefore}
use Rattle.index_lookups.proofs.StandLemmas.{indexed_in, walks_on, has_walked, has_enough}
use Rattle.index_lookups.proofs.walking.some_from.Goals as goal

pub returns-in_err-step-clause-refusal : goal.returns-in_err-step-clause-refusal
returns-in_err-step-clause-refusal g c =
    let p = err_from_is_err_and c.from_residual.result c.from_residual.ensures.1 in
    rw (p.1, p.2) (read_refused (NoneStandsBefore (g.R.PageReader.pages c.walked.space) c.args.place.now.root c.args.place.now.rows_root c.args.place.now.types c.args.place.now.columns c.walked.walk.ahead) (NoneStandsBefore (g.R.PageReader.pages c.args.space.now) c.args.place.now.root c.args.place.now.rows_root c.args.place.now.types c.args.place.now.columns c.args.first)
    (g.R.PageReader.refused c.args.space.now) (g.R.PageReader.refused c.walked.space) (g.R.PageReader.refused c.step.new.space) c.in_err-step.field-0.0 c.walked.invariant.rising
    (λ none rows left h s. let w = c.walked.invariant.walks rows left h s in none rows w.rest (indexed_in (g.R.PageReader.pages c.args.space.now) (g.R.PageReader.pages c.walked.space) c.args.place.now.root c.args.place.now.rows_root c.args.place.now.types c.args.place.now.columns rows c.walked.invariant.same h) w.stands) c.in_err-step.ensures.refusal)

pub returns-then-branch-clause-rows : goal.returns-then-branch-clause-rows
returns-then-branch-clause-rows g c = λ rows left h s.
    let w = c.walked.invariant.walks rows left h s in
    c.first_rows-then-branch.ensures.found (filter (is_wanted c.args.sought c.args.place.now.columns) left)
    (has_walked c.args.place.now.columns rows (is_wanted c.args.sought c.args.place.now.columns) left c.walked.walk c.step.new.walk _ c.if-branch.true w (c.in_ok-step.ensures.stepped rows w.rest w.list (indexed_in (g.R.PageReader.pages c.args.space.now) (g.R.PageReader.pages c.walked.space) c.args.place.now.root c.args.place.now.rows_root c.args.place.now.types c.args.place.now.columns rows c.walked.invariant.same h) w.stands w.are))

pub returns-then-len-most-clause-rows : goal.returns-then-len-most-clause-rows
returns-then-len-most-clause-rows g c = λ rows left h s.
    let w = c.walked.invariant.walks rows left h s in
    subst (AreEntries c.first_rows.result) (has_enough c.args.place.now.columns rows (is_wanted c.args.sought c.args.place.now.columns) left c.walked.walk c.args.most w (search rules))
    (c.first_rows.ensures.found w.list w.are)

pub walked-preserved : goal.walked-preserved
walked-preserved g c = record {
  same = c.in_ok-step.ensures.same ∙ c.walked.invariant.same;
  whole = λ whole. c.in_ok-step.ensures.whole (c.walked.invariant.whole whole);
  rising = omega (arith, c.walked.invariant.rising, c.in_ok-step.ensures.rising);
  follows = g.met.R.PageReader.follows_trans _ _ _ c.walked.invariant.follows c.in_ok-step.ensures.follows;
  lies = c.step.ensures.lies;
  typed = c.in_ok-step.ensures.typed c.walked.invariant.typed;
  walks = λ rows left h s. let w = c.walked.invariant.walks rows left h s in
      walks_on c.args.place.now.columns rows (is_wanted c.args.sought c.args.place.now.columns) left c.walked.walk c.step.new.walk _ w (c.in_ok-step.ensures.stepped rows w.rest w.list (indexed_in (g.R.PageReader.pages c.args.space.now) (g.R.PageReader.pages c.walked.space) c.args.place.now.root c.args.place.now.rows_root c.args.place.now.types c.args.place.now.columns rows c.walked.invariant.same h) w.stands w.are);
}

pub returns-then-branch-clause-typed : goal.returns-then-branch-clause-typed
returns-then-branch-clause-typed g c = c.first_rows-then-branch.ensures.typed c.args.place.now.types (c.in_ok-step.ensures.typed c.walked.invariant.typed)

pub returns-then-len-most-clause-typed : goal.returns-then-len-most-clause-typed
returns-then-len-most-clause-typed g c = c.first_rows.ensures.typed c.args.place.now.types c.walked.invariant.typed
