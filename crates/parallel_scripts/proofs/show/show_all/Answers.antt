use Rattle.std.proofs.Common.{rules, ◌<◌, List, length, true, is_ok, ap, ◌∙◌, subst}
use Rattle.std.proofs.lemmas.Result.{err_from_is_err_and}
use Rattle.replies.specs.Writes.{Writes}
use Rattle.parallel_scripts.specs.Shown.{Answers, printed_scripts, some_refused}
use Rattle.parallel_scripts.proofs.ScriptsShown.{goes_by, stops_by, finds_by, no_answers, finds_no_answers}
use Rattle.parallel_scripts.proofs.show.show_all.Goals.{then-refused, else-refused}
use Rattle.parallel_scripts.proofs.show.show_all.Goals as goal

pub returns-in_default-clause-writes : goal.returns-in_default-clause-writes
returns-in_default-clause-writes g c =
    subst (λ (l : List Answers). Writes (g.W.Write.contents c.args.writer.now) (g.W.Write.contents c.loop-place.writer) true (printed_scripts 1 c.args.parts.now l)) c.into_iter-left.ensures.rest
    (no_answers c.args.parts.now c.loop-place.place _ _ true _ _ c.in_default.ensures c.loop-place.invariant.0)

pub returns-in_default-clause-refused : goal.returns-in_default-clause-refused
returns-in_default-clause-refused g c =
    finds_no_answers c.args.parts.now c.loop-place.place _ _ _ c.in_default.ensures c.loop-place.invariant.1 ∙ ap (some_refused c.args.parts.now) c.into_iter-left.ensures.rest

pub returns-in_err-one-clause-writes : goal.returns-in_err-one-clause-writes
returns-in_err-one-clause-writes g c =
    let p = err_from_is_err_and c.from_residual.result c.from_residual.ensures.1 in
    let less : c.loop-place.place < length c.args.parts.now = search rules in
    subst (λ (l : List Answers). Writes (g.W.Write.contents c.args.writer.now) (g.W.Write.contents c.show_script.new.writer) (is_ok c.from_residual.result) (printed_scripts 1 c.args.parts.now l)) c.into_iter-left.ensures.rest
    (stops_by c.args.parts.now c.loop-place.place c.index-parts-place.result c.as_slice.result.now _ _ _ _ _ _ c.in-Some.answers _ _ _ _ less (search rules) c.as_slice.ensures.value c.in-Some.ensures
    c.in_err-one.was p.1 c.loop-place.invariant.0 c.show_script.ensures.writes)

pub loop-place-preserved : goal.loop-place-preserved
loop-place-preserved g c =
    let less : c.loop-place.place < length c.args.parts.now = search rules in
    let taken = goes_by c.args.parts.now c.loop-place.place c.index-parts-place.result c.as_slice.result.now _ _ _ _ _ _ c.in-Some.answers _ _ less (search rules) c.as_slice.ensures.value c.in-Some.ensures
    c.in_ok-one.was c.loop-place.invariant.0 c.show_script.ensures.writes in
    let more = finds_by c.args.parts.now c.loop-place.place c.index-parts-place.result c.as_slice.result.now _ _ c.in-Some.answers _ _ _ less (search rules) c.as_slice.ensures.value c.in-Some.ensures
    c.loop-place.invariant.1 c.in_ok-one.ensures.refused in
    elim c.if-refused.branch [
      | then-refused w ↦ (taken, search (rules, w.refused-is, w.if-refused, more))
      | else-refused w ↦ (taken, search (rules, w.refused-is, w.if-refused, more))
    ]
