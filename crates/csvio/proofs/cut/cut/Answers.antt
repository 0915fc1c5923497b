use Rattle.std.proofs.Common.{◌≡◌, ap, sym, subst, List, [], ◌∷◌, length, arith, rules}
use Rattle.std.proofs.lemmas.Grind.{common_steps}
use Rattle.sqlval.specs.Value.{Row}
use Rattle.csvio.specs.Batches.{AreBatches, rows_in}
use Rattle.csvio.proofs.Batched.{CutsFew, IsPut, count_more, cut_all, cut_more, rows_in-more}
use Rattle.csvio.proofs.cut.cut.Goals as goal

pub loop-row-preserved : goal.loop-row-preserved
loop-row-preserved c =
    let left : c.loop-row.row-iterator.rest.items ≡ c.in-Some.row ∷ c.next.new.self.rest.items = search rules in
    let put : IsPut c.args.most c.args.rows c.loop-row.batches c.loop-row.batch c.in-Some.row c.put_behind.new.batches c.put_behind.new.batch = (c.in_ok-put_behind.ensures.full, c.in_ok-put_behind.ensures.room) in
    record {
      cuts = λ some.
          cut_more c.args.most c.args.rows c.loop-row.batches c.loop-row.batch c.in-Some.row c.next.new.self.rest.items c.put_behind.new.batches c.put_behind.new.batch put some
          (subst (λ (xs : List Row). CutsFew c.args.most c.args.rows c.loop-row.batches c.loop-row.batch xs) left (c.loop-row.invariant.cuts some));
      count =
          let more = count_more c.args.most c.args.rows c.loop-row.batches c.loop-row.batch c.in-Some.row c.next.new.self.rest.items c.put_behind.new.batches c.put_behind.new.batch put in
          let one = ap length left in
          let before = c.loop-row.invariant.count in
          omega (arith, more, one, before);
    }

pub returns-clause-batches : goal.returns-clause-batches
returns-clause-batches c = λ some.
    let none : c.loop-row.row-iterator.rest.items ≡ [] = grind (arith, common_steps) in
    subst (λ (xs : List (List Row)). AreBatches c.args.most c.args.rows xs) (sym c.in_ok-push.ensures.ok)
    (cut_all c.args.most c.args.rows c.loop-row.batches c.loop-row.batch (subst (λ (xs : List Row). CutsFew c.args.most c.args.rows c.loop-row.batches c.loop-row.batch xs) none (c.loop-row.invariant.cuts some)))

pub returns-clause-count : goal.returns-clause-count
returns-clause-count c =
    let none : c.loop-row.row-iterator.rest.items ≡ [] = grind (arith, common_steps) in
    let pushed = ap rows_in c.in_ok-push.ensures.ok in
    let more = rows_in-more c.loop-row.batches c.loop-row.batch in
    let zero = ap length none in
    let before = c.loop-row.invariant.count in
    omega (arith, pushed, more, zero, before)
