use Rattle.std.proofs.Common.{arith}
use Rattle.std.proofs.lemmas.Int.{ints, to_z-of_z}
use Rattle.kernels.proofs.Totalling.{total-more}
use Rattle.kernels.proofs.totals.total_of.Goals as goal

pub loop-value-preserved : goal.loop-value-preserved
loop-value-preserved c =
    let more = total-more c.args.values.now c.loop-value.value-index c.value-item.result c.integer_of.result _ c.loop-value-test.true c.value-item.is c.integer_of.ensures c.loop-value.invariant.0 in
    (grind (arith, ints, to_z-of_z, more), omega (arith, ints), omega (arith, ints))
