use Rattle.std.proofs.Math.Nat.{le_trans}
use Rattle.sessions.proofs.Devices.{risen_later}
use Rattle.parallel_scripts.specs.Many.{Runs}
use Rattle.parallel_scripts.proofs.Endings.{puts_by}
use Rattle.parallel_scripts.proofs.Histories.{ran, stays}
use Rattle.parallel_scripts.proofs.many.carry_out.Goals as goal

pub returns-in-Ok-clause-runs : goal.returns-in-Ok-clause-runs
returns-in-Ok-clause-runs g c = λ before least sound.
    let beside = rw c.as_slice-texts.ensures.value at c.in-Ok.ensures in
    puts_by _ _ _ _ _
    (λ text status shows. Runs.ran _ _ (ran _ _ _ _ _ _ _ _ sound beside _ (λ risen. c.print_all.ensures.counts before (risen_later before _ _ least risen))) shows)
    ((rw c.as_slice-parts.ensures.value at c.print_all.ensures.shows) before _ (le_trans least beside.counted.least) (stays _ _ _ _ _ _ _ _ sound beside))

pub returns-in-Err-clause-runs : goal.returns-in-Err-clause-runs
returns-in-Err-clause-runs g c = λ before least sound. puts_by _ _ _ _ _ (λ text status told. Runs.no_memory told tt) c.say.ensures.puts

pub returns-in-Ok-clause-any_device : goal.returns-in-Ok-clause-any_device
returns-in-Ok-clause-any_device g c = λ before least. c.print_all.ensures.any_device before (le_trans least c.in-Ok.ensures.counted.least)

pub returns-in-Err-clause-any_device : goal.returns-in-Err-clause-any_device
returns-in-Err-clause-any_device g c = λ before least. tt

pub returns-in-Ok-clause-status : goal.returns-in-Ok-clause-status
returns-in-Ok-clause-status g c = c.print_all.ensures.status

pub returns-in-Ok-clause-opened : goal.returns-in-Ok-clause-opened
returns-in-Ok-clause-opened g c = c.print_all.ensures.opened
