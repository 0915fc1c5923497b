use Rattle.std.proofs.Common.{refl, ◌+◌, ◌<◌, ◌^◌, length, take, arith, length-take}
use Rattle.kernels.proofs.Marking.{Marked-more}
use Rattle.kernels.proofs.set_rows.distinct_marks.Goals as goal

pub loop-row-preserved : goal.loop-row-preserved
loop-row-preserved c =
    let rows = c.args.rows.now in
    let i = c.loop-row.row-index in
    let short : length (take i rows) + 1 < 2 ^ 64 = omega (arith, length-take i rows) in
    Marked-more c.count_row.new.counts c.loop-row.marks c.push.new.self (λ _. 1) rows i c.as_slice.result.now c.row-item.result c.in_ok-before.before 1
    c.loop-row.invariant.are c.loop-row-test.true c.as_slice.ensures c.row-item.is (c.in_ok-before.ensures.before (take i rows) c.loop-row.invariant.counted) refl
    (c.in_ok-before.ensures.counted (take i rows) c.loop-row.invariant.counted short) c.in_ok-push.ensures.ok
