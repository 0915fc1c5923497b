use Rattle.std.proofs.Common.{rules, ◌<◌, List, length, is_ok, subst}
use Rattle.std.proofs.lemmas.Result.{err_from_is_err_and}
use Rattle.replies.specs.Writes.{Writes}
use Rattle.parallel_scripts.specs.Shown.{Answer, printed_replies, replies_to}
use Rattle.parallel_scripts.proofs.Showing.{next_is, next_taken, next_stops, next_refused}
use Rattle.parallel_scripts.proofs.show.show.Goals.{then-refused, else-refused}
use Rattle.parallel_scripts.proofs.show.show.Goals as goal

pub returns-in_err-print_reply-clause-writes : goal.returns-in_err-print_reply-clause-writes
returns-in_err-print_reply-clause-writes g c =
    let p = err_from_is_err_and c.from_residual.result c.from_residual.ensures.1 in
    let less : c.loop-part.part-index < length c.args.parts.now = search rules in
    let is = next_is c.args.parts.now c.loop-part.part-index _ _ _ _ less (search rules) c.next_reply-reply.ensures in
    subst (λ (l : List Answer). Writes (g.W.Write.contents c.args.writer.now) (g.W.Write.contents c.print_reply.new.writer) (is_ok c.from_residual.result) (printed_replies (replies_to c.args.parts.now l)))
    c.into_iter-left.ensures.rest
    (next_stops _ _ _ _ _ _ _ _ _ _ _ c.in_err-print_reply.was p.1 is c.loop-part.invariant.0 c.print_reply.ensures.writes)

pub loop-part-preserved : goal.loop-part-preserved
loop-part-preserved g c =
    let less : c.loop-part.part-index < length c.args.parts.now = search rules in
    let is = next_is c.args.parts.now c.loop-part.part-index _ _ _ _ less (search rules) c.next_reply-reply.ensures in
    let taken = next_taken _ _ _ _ _ _ _ _ _ c.in_ok-print_reply.was is c.loop-part.invariant.0 c.print_reply.ensures.writes in
    let more = next_refused _ _ _ _ _ is c.loop-part.invariant.1 in
    elim c.if-refused.branch [
      | then-refused w ↦ (taken, search (rules, w.refused-is, w.if-refused, more))
      | else-refused w ↦ (taken, search (rules, w.refused-is, w.if-refused, w.is_refused-refused.ensures, more))
    ]
