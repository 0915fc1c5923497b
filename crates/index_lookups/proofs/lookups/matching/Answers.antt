use Rattle.std.proofs.Common.{List, IfOk, subst, sym}
use Rattle.store.specs.Contents as stored
use Rattle.store.specs.View.{AreEntries}
use Rattle.index_lookups.specs.Begun.{IsStart}
use Rattle.index_lookups.proofs.StandLemmas.{matched_in_order, key_may_skip}
use Rattle.index_lookups.proofs.lookups.matching.Goals as goal

pub returns-in-Ok-clause-rows : goal.returns-in-Ok-clause-rows
returns-in-Ok-clause-rows g c = λ rows h.
    subst (λ (xs : List stored.Entry). IfOk c.rows_behind.result (λ found. AreEntries found xs)) (matched_in_order c.args.place.now.columns c.args.key.now rows)
    (c.rows_behind.ensures.rows rows h (λ e kept before. key_may_skip c.args.key.now c.args.place.now.columns c.as_slice.result.now (subst (IsStart c.args.key.now) (sym c.as_slice.ensures) c.in-Ok.ensures.start) e before))

pub returns-in-Ok-clause-typed : goal.returns-in-Ok-clause-typed
returns-in-Ok-clause-typed g c = c.rows_behind.ensures.typed
