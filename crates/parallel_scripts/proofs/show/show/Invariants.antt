use Rattle.std.proofs.Common.{◌≡◌, ◌||◌, drop}
use Rattle.std.specs.Vec.Iter.{into_iter_items}
use Rattle.replies.proofs.Written.{HasTaken}
use Rattle.parallel_scripts.specs.Shown.{has_refusal, printed_replies, replies_to}
use Rattle.parallel_scripts.proofs.show.show.Given as goal

abbrev pub invariant-loop-part : goal.invariant-loop-part
invariant-loop-part g l =
    let all = replies_to l.parts (into_iter_items l.initial.left) in
    let rest = replies_to (drop l.part-index l.parts) (into_iter_items l.left) in
    HasTaken (g.W.Write.contents l.initial.writer) (g.W.Write.contents l.writer) (printed_replies all) (printed_replies rest)
    × (has_refusal all ≡ (l.refused || has_refusal rest))
