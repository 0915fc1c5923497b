use Rattle.std.proofs.Common.{ap, sym, ◌∙◌}
use Rattle.pool.specs.declared.slot.Slot.{Slot}
use Rattle.pool.proofs.ImageCounts.{never_pushed}
use Rattle.pool.proofs.PoolLemmas.{past}
use Rattle.pool.proofs.images.take_at.Goals as goal

pub returns-in-None-clause-taken : goal.returns-in-None-clause-taken
returns-in-None-clause-taken c = λ others image after is.
    absurd (never_pushed others image (sym (ap (λ (s : Slot). s.images) (past c.args.slots.now c.args.page (sym c.in-None.ensures.value))) ∙ is))
