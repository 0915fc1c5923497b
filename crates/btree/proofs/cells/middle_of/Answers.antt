use Rattle.std.proofs.Common.{◌-◌, [], length, arith}
use Rattle.sqlrecord.specs.Build.{lent}
use Rattle.btree.proofs.SizeLemmas.{size_next, size_grows}
use Rattle.btree.proofs.cells.middle_of.Goals.{then-length-ge2036-via-then-length-ge2036, then-length-ge2036-via-else-length-ge2036+then-size-length-ge2040}
use Rattle.btree.proofs.cells.middle_of.Goals as goal

pub returns-then-length-ge2036-clause-back : goal.returns-then-length-ge2036-clause-back
returns-then-length-ge2036-clause-back c =
    λ l. let n = size_next c.loop-i.i c.args.cells.now (record { ref_ptr = (0, 0); now = [] }) c.loop-i-test.true in
    elim c.then-length-ge2036.branch [
      | then-length-ge2036-via-then-length-ge2036 w ↦ omega (arith, n, w.if-length-ge2036.true)
      | then-length-ge2036-via-else-length-ge2036+then-size-length-ge2040 w ↦ omega (arith, n, c.loop-i.invariant.0, w.if-size-length-ge2040.true)
    ]

pub loop-i-preserved : goal.loop-i-preserved
loop-i-preserved c =
    let n = size_next c.loop-i.i c.args.cells.now (record { ref_ptr = (0, 0); now = [] }) c.loop-i-test.true in
    (omega (arith, n, c.loop-i.invariant.0), omega (arith, c.if-size-length-ge2040.false))

pub returns-clause-front : goal.returns-clause-front
returns-clause-front c =
    let g = size_grows (length c.args.cells.now - 1) c.loop-i.i (lent c.args.cells.now) (omega (arith, c.loop-i-test.false)) in
    omega (arith, g, c.loop-i.invariant.0, c.loop-i.invariant.1)
