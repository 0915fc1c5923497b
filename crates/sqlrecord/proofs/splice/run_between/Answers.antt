use Rattle.std.proofs.Common.{◌≡◌, ◌<◌, ◌∙◌, sym, arith}
use Rattle.sqlrecord.specs.Page.{count_of}
use Rattle.sqlrecord.proofs.SpliceLemmas.{no_run, run_of_one, run_further}
use Rattle.sqlrecord.proofs.splice.run_between.Goals as goal

pub returns-then-first-last-clause-cells : goal.returns-then-first-last-clause-cells
returns-then-first-last-clause-cells c = no_run c.args.old.now c.args.first c.args.last c.if-first-last.true

pub loop-i-init : goal.loop-i-init
loop-i-init c =
    let within = c.requires.slots.within c.args.first (omega (arith, c.if-first-last.false, c.requires.order, c.requires.within)) in
    record {
      low = omega arith;
      order = omega (arith, c.bounds-begin.ensures.begin, c.bounds-begin.ensures.end);
      within = omega (arith, within, c.bounds-begin.ensures.end);
      cells = run_of_one c.args.old.now c.args.first _ _ c.bounds-begin.ensures.begin c.bounds-begin.ensures.end;
    }

pub loop-i-preserved : goal.loop-i-preserved
loop-i-preserved c =
    let within = c.requires.slots.within c.loop-i.i (omega (arith, c.loop-i-test.true, c.requires.within)) in
    let begin = c.bounds-begin-in-loop-i.ensures.begin in
    let end = c.bounds-begin-in-loop-i.ensures.end in
    let same : c.loop-i.past ≡ c.bounds-begin-in-loop-i.result.0 = omega (arith, c.if-begin-past.false) in
    record {
      low = omega (arith, c.loop-i.invariant.low);
      order = omega (arith, c.loop-i.invariant.order, begin, end, same);
      within = omega (arith, within, end);
      cells = run_further c.args.old.now c.args.first c.loop-i.i _ c.loop-i.past _ (omega (arith, c.loop-i.invariant.low)) c.loop-i.invariant.order (same ∙ begin) end c.loop-i.invariant.cells;
    }
