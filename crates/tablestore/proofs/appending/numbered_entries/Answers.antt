use Rattle.std.proofs.Common.{◌≡◌, ◌+◌, ◌^◌, ◌<◌, arith}
use Rattle.tablestore.proofs.AppendLemmas.{entries_step, kept_step}
use Rattle.tablestore.proofs.appending.numbered_entries.Goals as goal

pub loop-row-preserved : goal.loop-row-preserved
loop-row-preserved c =
    let small : c.loop-row.number < 2 ^ 63 = omega (arith, c.if-number-ge-NUMBERS.false) in
    record {
      entries = entries_step c.args.first c.loop-row.row-index c.args.rows.now _ c.row-item.result c.loop-row.number _ _ _ c.loop-row-test.true c.row-item.is c.loop-row.invariant.number c.in_ok-entry.ensures.entry
          c.in_ok-push.ensures.ok c.loop-row.invariant.entries;
      kept = kept_step c.args.first c.loop-row.row-index c.args.rows.now _ c.row-item.result c.loop-row.number c.loop-row-test.true c.row-item.is c.loop-row.invariant.number small c.in_ok-entry.ensures.coded c.loop-row.invariant.kept;
      number = omega (arith, c.loop-row.invariant.number);
    }
