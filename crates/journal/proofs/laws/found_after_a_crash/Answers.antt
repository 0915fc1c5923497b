use Rattle.std.proofs.Common.{get_or}
use Rattle.journal.specs.Versions.{IsAmong}
use Rattle.journal.proofs.Finding.{gate_is}
use Rattle.journal.proofs.States.{among_some, among_stands, open_is}
use Rattle.journal.proofs.laws.found_after_a_crash.Goals as goal

pub returns-clause-found : goal.returns-clause-found
returns-clause-found g c old new x y all restarted =
    let now : IsAmong x y (g.D.Disk.bytes new) = all _ restarted.found in (
      λ d left. all d (restarted.left d left),
      among_stands x y (g.D.Disk.bytes new) (get_or (g.D.Disk.bytes new) 24 0) (gate_is (g.D.Disk.bytes new) (among_some x y _ now)) now,
    )

pub returns-clause-committed : goal.returns-clause-committed
returns-clause-committed g c old new v all restarted = open_is v (g.D.Disk.bytes new) (all _ restarted.found)
