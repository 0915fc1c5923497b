use Rattle.std.proofs.Common.{◌≡◌, sym, subst, ◌∙◌, Some, List, [], ◌∷◌, arith}
use Rattle.std.proofs.lemmas.Grind.{common_steps}
use Rattle.sqlval.specs.Value.{Row}
use Rattle.scripts.specs.Settled.{store_of}
use Rattle.csvio.proofs.Committed.{HasPut, counts_from, counts_none, put_all, put_more, put_none, put_stopped, put_within}
use Rattle.csvio.proofs.batches.put_batches.Goals as goal

pub loop-batch-init : goal.loop-batch-init
loop-batch-init g c =
    let moved : c.into_iter-batch-iterator.result.rest.items ≡ c.args.batches = c.into_iter-batch-iterator.ensures.into_iter_gives.0 ∙ c.into_vec-batch-items.ensures in
    record {
      puts = subst (λ (xs : List (List Row)). HasPut g.S.Store.is_sound g.S.Store.shows c.args.session.number c.args.table.now c.args.batches c.args.core.now c.args.core.now xs 0) (sym moved)
          (put_none g.S.Store.is_sound g.S.Store.shows c.args.session.number c.args.table.now c.args.batches c.args.core.now);
      counts = omega arith;
    }

pub overflow_add-committed : goal.overflow_add-committed
overflow_add-committed g c =
    let left : c.loop-batch.batch-iterator.rest.items ≡ c.in-Some.batch ∷ c.next.new.self.rest.items = c.in-Some.ensures.steps.0 in
    let within =
    put_within g.S.Store.is_sound g.S.Store.shows c.args.session.number c.args.table.now c.args.batches c.args.core.now c.loop-batch.core c.put_in-reply.new.core c.in-Some.batch c.next.new.self.rest.items c.loop-batch.committed c.put_in-reply.result
    (subst (λ (xs : List (List Row)). HasPut g.S.Store.is_sound g.S.Store.shows c.args.session.number c.args.table.now c.args.batches c.args.core.now c.loop-batch.core xs c.loop-batch.committed) left c.loop-batch.invariant.puts) in
    let size = c.len-size.ensures in
    let all = c.requires in
    let fits = c.ranges.count in
    omega (arith, within, size, all, fits)

pub loop-batch-preserved : goal.loop-batch-preserved
loop-batch-preserved g c =
    let is_sound = g.S.Store.is_sound in
    let shows = g.S.Store.shows in
    let start = c.args.core.now in
    let core = c.loop-batch.core in
    let left : c.loop-batch.batch-iterator.rest.items ≡ c.in-Some.batch ∷ c.next.new.self.rest.items = c.in-Some.ensures.steps.0 in
    record {
      puts = rw c.len-size.ensures
          (put_more is_sound shows c.args.session.number c.args.table.now c.args.batches start core c.put_in-reply.new.core c.in-Some.batch c.next.new.self.rest.items c.loop-batch.committed c.put_in-reply.result
          (subst (λ (xs : List (List Row)). HasPut is_sound shows c.args.session.number c.args.table.now c.args.batches start core xs c.loop-batch.committed) left c.loop-batch.invariant.puts)
          c.put_in-reply.ensures.puts_in c.put_in-reply.ensures.kept c.put_in-reply.ensures.live (sym c.is_refused.ensures ∙ c.if-is_refused.false));
      counts = let a = c.loop-batch.invariant.counts in let b = c.put_in-reply.ensures.counts in omega (arith, a, b);
    }

pub loop-batch-preserved-else-is_refused : goal.loop-batch-preserved-else-is_refused
loop-batch-preserved-else-is_refused g c =
    let is_sound = g.S.Store.is_sound in
    let shows = g.S.Store.shows in
    let start = c.args.core.now in
    let core = c.loop-batch.core in
    let left : c.loop-batch.batch-iterator.rest.items ≡ c.in-Some.batch ∷ c.next.new.self.rest.items = c.in-Some.ensures.steps.0 in
    record {
      puts = rw c.len-size.ensures
          (put_more is_sound shows c.args.session.number c.args.table.now c.args.batches start core c.put_in-reply.new.core c.in-Some.batch c.next.new.self.rest.items c.loop-batch.committed c.put_in-reply.result
          (subst (λ (xs : List (List Row)). HasPut is_sound shows c.args.session.number c.args.table.now c.args.batches start core xs c.loop-batch.committed) left c.loop-batch.invariant.puts)
          c.put_in-reply.ensures.puts_in c.put_in-reply.ensures.kept c.put_in-reply.ensures.live (sym c.is_refused.ensures ∙ c.if-is_refused.false));
      counts = let a = c.loop-batch.invariant.counts in let b = c.put_in-reply.ensures.counts in omega (arith, a, b);
    }

pub loop-batch-preserved-else-is_refused-2 : goal.loop-batch-preserved-else-is_refused-2
loop-batch-preserved-else-is_refused-2 g c =
    let is_sound = g.S.Store.is_sound in
    let shows = g.S.Store.shows in
    let start = c.args.core.now in
    let core = c.loop-batch.core in
    let left : c.loop-batch.batch-iterator.rest.items ≡ c.in-Some.batch ∷ c.next.new.self.rest.items = c.in-Some.ensures.steps.0 in
    record {
      puts = rw c.len-size.ensures
          (put_more is_sound shows c.args.session.number c.args.table.now c.args.batches start core c.put_in-reply.new.core c.in-Some.batch c.next.new.self.rest.items c.loop-batch.committed c.put_in-reply.result
          (subst (λ (xs : List (List Row)). HasPut is_sound shows c.args.session.number c.args.table.now c.args.batches start core xs c.loop-batch.committed) left c.loop-batch.invariant.puts)
          c.put_in-reply.ensures.puts_in c.put_in-reply.ensures.kept c.put_in-reply.ensures.live (sym c.is_refused.ensures ∙ c.if-is_refused.false));
      counts = let a = c.loop-batch.invariant.counts in let b = c.put_in-reply.ensures.counts in omega (arith, a, b);
    }

pub loop-batch-preserved-else-is_refused-3 : goal.loop-batch-preserved-else-is_refused-3
loop-batch-preserved-else-is_refused-3 g c =
    let is_sound = g.S.Store.is_sound in
    let shows = g.S.Store.shows in
    let start = c.args.core.now in
    let core = c.loop-batch.core in
    let left : c.loop-batch.batch-iterator.rest.items ≡ c.in-Some.batch ∷ c.next.new.self.rest.items = c.in-Some.ensures.steps.0 in
    record {
      puts = rw c.len-size.ensures
          (put_more is_sound shows c.args.session.number c.args.table.now c.args.batches start core c.put_in-reply.new.core c.in-Some.batch c.next.new.self.rest.items c.loop-batch.committed c.put_in-reply.result
          (subst (λ (xs : List (List Row)). HasPut is_sound shows c.args.session.number c.args.table.now c.args.batches start core xs c.loop-batch.committed) left c.loop-batch.invariant.puts)
          c.put_in-reply.ensures.puts_in c.put_in-reply.ensures.kept c.put_in-reply.ensures.live (sym c.is_refused.ensures ∙ c.if-is_refused.false));
      counts = let a = c.loop-batch.invariant.counts in let b = c.put_in-reply.ensures.counts in omega (arith, a, b);
    }

pub returns-then-is_refused-clause-puts : goal.returns-then-is_refused-clause-puts
returns-then-is_refused-clause-puts g c = λ rules are kept live.
    let is_sound = g.S.Store.is_sound in
    let shows = g.S.Store.shows in
    let start = c.args.core.now in
    let core = c.loop-batch.core in
    let left : c.loop-batch.batch-iterator.rest.items ≡ c.in-Some.batch ∷ c.next.new.self.rest.items = c.in-Some.ensures.steps.0 in
    put_stopped is_sound shows c.args.session.number c.args.table.now c.args.batches start core c.put_in-reply.new.core c.in-Some.batch c.next.new.self.rest.items c.loop-batch.committed c.put_in-reply.result
    (subst (λ (xs : List (List Row)). HasPut is_sound shows c.args.session.number c.args.table.now c.args.batches start core xs c.loop-batch.committed) left c.loop-batch.invariant.puts)
    c.put_in-reply.ensures.puts_in (sym c.is_refused.ensures ∙ c.if-is_refused.true) rules are kept live

pub returns-then-is_refused-clause-device : goal.returns-then-is_refused-clause-device
returns-then-is_refused-clause-device g c =
    counts_from c.put_in-reply.result (g.S.Store.refused (store_of c.args.core.now)) (g.S.Store.refused (store_of c.loop-batch.core)) (g.S.Store.refused (store_of c.put_in-reply.new.core)) c.loop-batch.invariant.counts c.put_in-reply.ensures.device

pub returns-then-is_refused-clause-kept : goal.returns-then-is_refused-clause-kept
returns-then-is_refused-clause-kept g c = λ rules are kept. c.put_in-reply.ensures.kept rules are (c.loop-batch.invariant.puts.kept rules are kept)

pub returns-then-is_refused-clause-live : goal.returns-then-is_refused-clause-live
returns-then-is_refused-clause-live g c = λ s. c.put_in-reply.ensures.live s ∙ c.loop-batch.invariant.puts.live s

pub returns-then-is_refused-clause-counts : goal.returns-then-is_refused-clause-counts
returns-then-is_refused-clause-counts g c = let a = c.loop-batch.invariant.counts in let b = c.put_in-reply.ensures.counts in omega (arith, a, b)

pub returns-clause-puts : goal.returns-clause-puts
returns-clause-puts g c =
    let is_sound = g.S.Store.is_sound in
    let shows = g.S.Store.shows in
    let start = c.args.core.now in
    let core = c.loop-batch.core in
    let none : c.loop-batch.batch-iterator.rest.items ≡ [] = grind (arith, common_steps) in
    put_all is_sound shows c.args.session.number c.args.table.now c.args.batches start core c.loop-batch.committed c.args.count c.reply_for.result
    (subst (λ (xs : List (List Row)). HasPut is_sound shows c.args.session.number c.args.table.now c.args.batches start core xs c.loop-batch.committed) none c.loop-batch.invariant.puts)
    c.reply_for.ensures c.requires

pub returns-clause-device : goal.returns-clause-device
returns-clause-device g c = counts_none c.reply_for.result (Some c.args.count) _ _ c.reply_for.ensures

pub returns-clause-kept : goal.returns-clause-kept
returns-clause-kept g c = c.loop-batch.invariant.puts.kept

pub returns-clause-live : goal.returns-clause-live
returns-clause-live g c = c.loop-batch.invariant.puts.live

pub returns-clause-counts : goal.returns-clause-counts
returns-clause-counts g c = c.loop-batch.invariant.counts
