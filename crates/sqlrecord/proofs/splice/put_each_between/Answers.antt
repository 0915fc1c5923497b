use Rattle.std.proofs.Common.{◌≡◌, ◌+◌, ◌++◌, ◌<◌, ◌∙◌, ap, sym, refl, length, arith}
use Rattle.sqlrecord.specs.Page.{count_of}
use Rattle.sqlrecord.proofs.SpliceLemmas.{bytes_more, bytes_none, cell_long, total_more, total_none, total_upto}
use Rattle.sqlrecord.proofs.splice.put_each_between.Goals as goal

pub loop-i-init : goal.loop-i-init
loop-i-init c = record {
  low = omega arith;
  done = bytes_none c.args.old.now _ c.args.first;
  end = omega (arith, total_none c.args.old.now c.args.first);
  size = refl;
}

pub put-place-requires : goal.put-place-requires
put-place-requires c =
    let within : c.loop-i.i < count_of c.args.old.now = omega (arith, c.loop-i-test.true, c.requires.within) in
    let more = total_more c.args.old.now c.args.first c.loop-i.i c.loop-i.invariant.low c.requires.size c.requires.slots within in
    let upto = total_upto c.args.old.now c.args.first (c.loop-i.i + 1) c.args.last (omega (arith, c.loop-i.invariant.low)) (omega (arith, c.loop-i-test.true)) in
    let long = ap length c.cell_in.ensures ∙ cell_long c.args.old.now c.loop-i.i c.requires.size c.requires.slots within in
    omega (arith, c.loop-i.invariant.end, c.loop-i.invariant.size, more, upto, long, c.requires.room)

pub loop-i-preserved : goal.loop-i-preserved
loop-i-preserved c =
    let within : c.loop-i.i < count_of c.args.old.now = omega (arith, c.loop-i-test.true, c.requires.within) in
    let more = total_more c.args.old.now c.args.first c.loop-i.i c.loop-i.invariant.low c.requires.size c.requires.slots within in
    let long = ap length c.cell_in.ensures ∙ cell_long c.args.old.now c.loop-i.i c.requires.size c.requires.slots within in
    record {
      low = omega (arith, c.loop-i.invariant.low);
      done = bytes_more c.args.old.now _ _ _ _ c.args.first c.loop-i.i c.loop-i.invariant.low c.loop-i.invariant.done c.cell_in.ensures c.put-place.ensures.put;
      end = omega (arith, c.loop-i.invariant.end, c.put-place.ensures.behind, more, long);
      size = c.put-place.auto.page ∙ c.loop-i.invariant.size;
    }
