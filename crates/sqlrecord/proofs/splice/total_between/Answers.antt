use Rattle.std.proofs.Common.{◌≡◌, ◌<◌, ◌∙◌, ap, sym, arith}
use Rattle.sqlrecord.specs.Page.{count_of}
use Rattle.sqlrecord.proofs.SpliceLemmas.{total_more, total_none}
use Rattle.sqlrecord.proofs.splice.total_between.Goals as goal

pub loop-i-init : goal.loop-i-init
loop-i-init c = record {
  low = omega arith;
  sum = sym (total_none c.args.old.now c.args.first);
  small = omega arith;
}

pub loop-i-preserved : goal.loop-i-preserved
loop-i-preserved c =
    let within : c.loop-i.i < count_of c.args.old.now = omega (arith, c.loop-i-test.true, c.requires.within) in
    let more = total_more c.args.old.now c.args.first c.loop-i.i c.loop-i.invariant.low c.requires.size c.requires.slots within in
    let value = c.two-sum.ensures.value in
    record {
      low = omega (arith, c.loop-i.invariant.low);
      sum = omega (arith, c.loop-i.invariant.sum, more, value);
      small = omega (arith, c.loop-i.invariant.small, c.two-sum.ensures.small);
    }
