use Rattle.std.proofs.Common.{arith}
use Rattle.pool.proofs.DropLemmas.{keeps_on}
use Rattle.pool.proofs.images.drop_unread.Goals as goal

pub looked-preserved : goal.looked-preserved
looked-preserved c =
    let inv = c.looked.invariant in
    let step = c.look_at-place.ensures in
    record {
      few = let few = inv.few in let count = step.count in let fewer = step.fewer in omega (arith, few, count, fewer);
      count = let was = inv.count in let now = step.count in omega (arith, was, now);
      fewer = let was = inv.fewer in let now = step.fewer in omega (arith, was, now);
      shown = keeps_on c.args.pins.now _ _ _ inv.shown step.shown;
      needed = step.needed inv.needed;
      covers = λ v h. inv.covers v (step.covers v h);
    }

pub returns-clause-needed : goal.returns-clause-needed
returns-clause-needed c = λ i less. c.looked.invariant.needed i (omega arith)
