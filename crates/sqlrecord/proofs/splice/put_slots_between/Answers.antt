use Rattle.std.proofs.Common.{◌≡◌, ◌+◌, ◌-◌, ◌*◌, ◌<◌, ◌≤◌, ◌++◌, ◌∙◌, ap, sym, subst, arith}
use Rattle.sqlrecord.specs.Page.{count_of}
use Rattle.sqlrecord.specs.Build.{two_bytes}
use Rattle.sqlrecord.proofs.SpliceLemmas.{slots_more, slots_none, total_more, total_none, total_upto}
use Rattle.sqlrecord.proofs.splice.put_slots_between.Goals as goal

pub loop-i-init : goal.loop-i-init
loop-i-init c = record {
  low = omega arith;
  done = slots_none c.args.old.now _ c.args.first c.args.start;
  end = omega (arith, total_none c.args.old.now c.args.first);
  behind = omega arith;
}

pub put_two-place-requires-clause-small : goal.put_two-place-requires-clause-small
put_two-place-requires-clause-small c =
    let upto = total_upto c.args.old.now c.args.first c.loop-i.i c.args.last c.loop-i.invariant.low (omega (arith, c.loop-i-test.true)) in
    omega (arith, c.loop-i.invariant.end, upto, c.requires.small)

pub overflow_add-offset : goal.overflow_add-offset
overflow_add-offset c =
    let upto = total_upto c.args.old.now c.args.first c.loop-i.i c.args.last c.loop-i.invariant.low (omega (arith, c.loop-i-test.true)) in
    omega (arith, c.loop-i.invariant.end, upto, c.requires.small, c.two-length.ensures.small)

pub loop-i-preserved : goal.loop-i-preserved
loop-i-preserved c =
    let within : c.loop-i.i < count_of c.args.old.now = omega (arith, c.loop-i-test.true, c.requires.within) in
    let more = total_more c.args.old.now c.args.first c.loop-i.i c.loop-i.invariant.low c.requires.size c.requires.slots within in
    let value = c.two-length.ensures.value in
    record {
      low = omega (arith, c.loop-i.invariant.low);
      done = slots_more c.args.old.now _ _ _ _ c.args.first c.loop-i.i c.args.start c.loop-i.offset _ c.loop-i.invariant.low c.requires.size c.requires.slots within
          c.loop-i.invariant.done c.loop-i.invariant.end c.put_two-place.ensures.put value c.put_two-place-in-loop-i.ensures.put;
      end = omega (arith, c.loop-i.invariant.end, more, value);
      behind = omega (arith, c.loop-i.invariant.low, c.loop-i.invariant.behind, c.put_two-place.ensures.behind, c.put_two-place-in-loop-i.ensures.behind);
    }
