use Rattle.std.proofs.Common.{List, IfOk, subst, sym}
use Rattle.store.specs.Contents as stored
use Rattle.store.specs.View.{AreEntries}
use Rattle.index_lookups.specs.Begun.{IsStart}
use Rattle.index_lookups.proofs.StandLemmas.{first_sought_is, key_may_skip}
use Rattle.index_lookups.proofs.blocks.first_sought.Goals as goal

pub returns-in-Ok-clause-rows : goal.returns-in-Ok-clause-rows
returns-in-Ok-clause-rows g c = λ rows h.
    subst (λ (xs : List stored.Entry). IfOk c.some_at.result (λ found. AreEntries found xs)) (first_sought_is c.args.key.now c.args.place.now.columns rows c.args.most)
    (c.some_at.ensures.rows rows h (λ e kept before. key_may_skip c.args.key.now c.args.place.now.columns c.as_slice.result.now (subst (IsStart c.args.key.now) (sym c.as_slice.ensures) c.in-Ok.ensures.start) e before))

pub returns-in-Ok-clause-typed : goal.returns-in-Ok-clause-typed
returns-in-Ok-clause-typed g c = c.some_at.ensures.typed
