use Rattle.std.proofs.Common.{subst, sym}
use Rattle.index_lookups.specs.Begun.{StartsBelow}
use Rattle.index_lookups.proofs.StandLemmas.{bound_may_skip}
use Rattle.index_lookups.proofs.blocks.first_block.Goals as goal

pub returns-in-Ok-clause-rows : goal.returns-in-Ok-clause-rows
returns-in-Ok-clause-rows g c = λ rows h.
    c.some_at.ensures.rows rows h (λ e kept before. bound_may_skip c.args.low.now c.args.high.now c.args.place.now.columns c.as_slice.result.now (subst (StartsBelow c.args.low.now) (sym c.as_slice.ensures) c.in-Ok.ensures.start) e kept before)

pub returns-in-Ok-clause-typed : goal.returns-in-Ok-clause-typed
returns-in-Ok-clause-typed g c = c.some_at.ensures.typed
