use Rattle.std.proofs.Common.{◌≡◌, ◌+◌, ◌||◌, drop}
use Rattle.std.specs.Vec.Iter.{into_iter_items}
use Rattle.replies.proofs.Written.{HasTaken}
use Rattle.parallel_scripts.specs.Shown.{printed_scripts, some_refused}
use Rattle.parallel_scripts.proofs.show.show_all.Given as goal

abbrev pub invariant-loop-place : goal.invariant-loop-place
invariant-loop-place g l =
    let all = into_iter_items l.initial.left in
    let left = into_iter_items l.left in
    HasTaken (g.W.Write.contents l.initial.writer) (g.W.Write.contents l.writer) (printed_scripts 1 l.parts all) (printed_scripts (l.place + 1) (drop l.place l.parts) left)
    × (some_refused l.parts all ≡ (l.refused || some_refused (drop l.place l.parts) left))
