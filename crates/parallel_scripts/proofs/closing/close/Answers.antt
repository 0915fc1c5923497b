use Rattle.sessions.proofs.Devices.{risen_later, risen_still}
use Rattle.std.proofs.Math.Nat.{le_trans}
use Rattle.parallel_scripts.proofs.Histories.{risen_twice}
use Rattle.parallel_scripts.proofs.closing.close.Goals as goal

pub returns-in-Ok-clause-closes : goal.returns-in-Ok-clause-closes
returns-in-Ok-clause-closes g c = λ before start least sound. record {
  saves = λ good. c.in-Ok.ensures.closed (sound good);
  synced = c.in-Ok.ensures.settled;
  counted = le_trans least c.in-Ok.ensures.counts;
}

pub returns-in-Ok-clause-counts : goal.returns-in-Ok-clause-counts
returns-in-Ok-clause-counts g c = λ before risen. risen_still before _ _ risen c.in-Ok.ensures.counts

pub returns-in-Err-clause-closes : goal.returns-in-Err-clause-closes
returns-in-Err-clause-closes g c = λ before start least sound. risen_later before _ _ least c.in-Err.ensures.device

pub returns-in-Err-clause-counts : goal.returns-in-Err-clause-counts
returns-in-Err-clause-counts g c = λ before risen. risen_twice before _ _ risen c.in-Err.ensures.device

pub returns-in-Ok-clause-any_device : goal.returns-in-Ok-clause-any_device
returns-in-Ok-clause-any_device g c = λ before least. (tt, c.in-Ok.ensures.settled, le_trans least c.in-Ok.ensures.counts)

pub returns-in-Err-clause-any_device : goal.returns-in-Err-clause-any_device
returns-in-Err-clause-any_device g c = λ before least. (tt, risen_later before _ _ least c.in-Err.ensures.device)
