use Rattle.std.proofs.Common.{◌+◌, ◌*◌, ◌≤◌, length, arith}
use Rattle.journal.proofs.Listing.{written_each, written_rest}
use Rattle.journal.proofs.Numbers.{number_of_ones}
use Rattle.journal.proofs.list.list_of.Goals as goal

pub loop-image-init : goal.loop-image-init
loop-image-init c = record {
  at = omega arith;
  each = λ k less. absurd (omega (arith, less));
  rest = λ k low high. number_of_ones 4096 (4 * k) (omega (arith, high));
}

pub loop-image-preserved : goal.loop-image-preserved
loop-image-preserved c =
    let within : c.loop-image.at + 4 ≤ length c.loop-image.list = omega (arith, c.loop-image.invariant.at, c.loop-image-test.true, c.requires, c.image-item.array_long) in
    record {
      at = omega (arith, c.loop-image.invariant.at);
      each = written_each c.args.set.now c.loop-image.image-index c.loop-image.at c.loop-image.list _ c.image-item.result c.loop-image-test.true
          c.loop-image.invariant.at c.image-item.is within c.write_number.ensures.fits c.write_number.ensures.written c.loop-image.invariant.each;
      rest = written_rest c.loop-image.image-index c.loop-image.at c.image-item.result.0 c.loop-image.list _ c.loop-image.invariant.at within c.write_number.ensures.written
          c.loop-image.invariant.rest;
    }
