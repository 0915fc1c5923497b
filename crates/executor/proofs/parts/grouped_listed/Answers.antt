use Rattle.std.proofs.Common.{map}
use Rattle.algebra.specs.Listing.{groups_listed}
use Rattle.algebra.specs.Meaning.{function_by}
use Rattle.executor.proofs.GroupLemmas.{groups-fault}
use Rattle.executor.proofs.parts.grouped_listed.Goals as goal

pub returns-in-Err : goal.returns-in-Err
returns-in-Err c =
    record {
      lists = λ step env given. rw c.in-None.is (c.ended_by.ensures.lists (groups_listed c.args.columns.now (map (function_by step) c.args.functions.now) env c.args.part.now.rows)
          (λ fault e. groups-fault c.args.columns.now (map (function_by step) c.args.functions.now) env c.args.part.now.rows c.in-Err.stop fault c.new.result c.new.ensures e (rw c.in-Err.is at given)));
    }

pub returns-in_ok-aggregates-in-Ok : goal.returns-in_ok-aggregates-in-Ok
returns-in_ok-aggregates-in-Ok c =
    record {
      lists = λ step env given.
          let functions = map (function_by step) c.args.functions.now in
          let found = rw (c.as_slice-kinds.ensures, c.as_slice-rows.ensures, c.as_slice.ensures) at c.group_rows-found.ensures in
          rw c.in-None.is (c.whole_listed.ensures.lists (groups_listed c.args.columns.now functions env c.args.part.now.rows)
          (found functions env (c.in_ok-aggregates-in-Ok.ensures step) (rw c.in-Ok.is at given).ok));
    }
