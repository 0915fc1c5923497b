use Rattle.std.proofs.Common.{List, IfOk, subst, sym}
use Rattle.store.specs.Contents as stored
use Rattle.store.specs.View.{AreEntries}
use Rattle.index_lookups.specs.Begun.{StartsBelow}
use Rattle.index_lookups.proofs.StandLemmas.{above_may_skip, block_is}
use Rattle.index_lookups.proofs.blocks.block_sought.Goals as goal

pub returns-in-Ok-clause-rows : goal.returns-in-Ok-clause-rows
returns-in-Ok-clause-rows g c = λ rows h.
    subst (λ (xs : List stored.Entry). IfOk c.some_at.result (λ found. AreEntries found xs)) (block_is c.args.low c.args.high c.args.after c.args.place.now.columns rows c.args.most)
    (c.some_at.ensures.rows rows h (above_may_skip c.args.low c.args.high c.args.after c.args.place.now.columns c.as_slice.result.now (subst (StartsBelow c.args.low.now) (sym c.as_slice.ensures) c.in-Ok.ensures.start)))

pub returns-in-Ok-clause-typed : goal.returns-in-Ok-clause-typed
returns-in-Ok-clause-typed g c = c.some_at.ensures.typed
