use Rattle.std.proofs.Common.{arith}
use Rattle.pool.specs.Pages.{pages_in}
use Rattle.overlay.proofs.LayerLemmas.{settling_all}
use Rattle.overlay.proofs.layers.settle_all.Goals as goal

pub returns-clause-settled : goal.returns-clause-settled
returns-clause-settled c =
    settling_all (pages_in c.args.fresh.now) (pages_in c.args.settled.now) _ c.args.numbers.now c.loop-number.number-index (omega arith) c.requires.listed c.loop-number.invariant.settling
