use Rattle.shared.proofs.Counting.{counted_raised}
use Rattle.shared.proofs.Desks.{desk_flushed, flush_stays, flush_stops}
use Rattle.shared.proofs.desk.Desk.flush.Goals as goal

pub invariant_of-self : goal.invariant_of-self
invariant_of-self g c =
    let f = c.flush.ensures in (
      c.self.invariant.0,
      desk_flushed _ _ _ _ _ _ _ _ _ (flush_stays _ _ _ f.flushes) f.sound c.self.invariant.1,
      counted_raised _ _ _ _ f.counts c.self.invariant.2,
    )

pub returns-clause-stops : goal.returns-clause-stops
returns-clause-stops g c = flush_stops _ _ _ c.flush.ensures.flushes
