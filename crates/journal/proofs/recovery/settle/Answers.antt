use Rattle.std.proofs.Common.{◌≡◌, [], ◌∷◌, List, ℕ, refl, subst, sym, arith}
use Rattle.std.specs.Prelude.{IsTrue}
use Rattle.disk.specs.Keeping.{none, weaker}
use Rattle.pagefile.specs.Parts.{gate_part}
use Rattle.journal.specs.Headers.{IsGate, HasList}
use Rattle.journal.specs.Versions.{IsOpen, IsBoth, IsShut, IsAmong, InPlaces}
use Rattle.journal.proofs.Finding.{shut_stood, torn_stood, open_stood, names}
use Rattle.journal.specs.Lists.{IsList}
use Rattle.journal.specs.Parts.{HasLength}
use Rattle.journal.proofs.States.{among_both, found_open, found_torn, gate_one, places_gate, on_disk, on_ok}
use Rattle.journal.proofs.recovery.settle.Goals as goal

pub returns-in-Shut-clause-shut : goal.returns-in-Shut-clause-shut
returns-in-Shut-clause-shut g c honest v stands =
    let gate = subst (IsGate (g.D.Disk.bytes c.args.disk.now)) c.in-Shut.is (c.requires.gate honest) in shut_stood v _ gate stands

pub returns-in-Shut-clause-keeps : goal.returns-in-Shut-clause-keeps
returns-in-Shut-clause-keeps g c durable honest only x y =
    none g.D.Disk.moment g.D.Disk.left_since g.D.Disk.may_leave (λ d b left. g.met.D.Disk.only_now d b durable left) c.args.disk.now (IsAmong x y)

pub returns-in-Torn-clause-shut : goal.returns-in-Torn-clause-shut
returns-in-Torn-clause-shut g c honest v stands =
    let gate = subst (IsGate (g.D.Disk.bytes c.args.disk.now)) c.in-Torn.is (c.requires.gate honest) in
    let p = torn_stood v _ gate.0 gate.2 gate.3 stands in
    on_ok c.shut_gate.result
    (λ (w : IsTrue g.D.Disk.is_honest → gate_part (g.D.Disk.bytes c.shut_gate.new.disk) ≡ 0 ∷ []). shut (w honest) (places_gate v _ _ p (c.shut_gate.ensures.changes honest p.size.some)))
    c.shut_gate.ensures.written
  where
    shut : gate_part (g.D.Disk.bytes c.shut_gate.new.disk) ≡ 0 ∷ [] → InPlaces v (g.D.Disk.bytes c.shut_gate.new.disk) → IsShut v (g.D.Disk.bytes c.shut_gate.new.disk)
    shut gate places = record { gate = gate; places = places }

pub returns-in-Torn-clause-only : goal.returns-in-Torn-clause-only
returns-in-Torn-clause-only g c durable honest only = c.shut_gate.ensures.only durable honest

pub returns-in-Torn-clause-keeps : goal.returns-in-Torn-clause-keeps
returns-in-Torn-clause-keeps g c durable honest only x y all =
    let gate = subst (IsGate (g.D.Disk.bytes c.args.disk.now)) c.in-Torn.is (c.requires.gate honest) in
    let found = found_torn x y (g.D.Disk.bytes c.args.disk.now) (all _ (g.met.D.Disk.read_is_left c.args.disk.now durable)) gate.0 gate.3 gate.2 gate.1 in
    let rest = c.shut_gate.ensures.keeps durable found.0 found.1 (on_disk (IsBoth found.0 found.1) _ _ _ refl only found.4) in (
      λ d left. among_both x y found.0 found.1 found.2 found.3 d (rest.0 d left),
      weaker g.D.Disk.moment g.D.Disk.left_since c.args.disk.now c.shut_gate.new.disk (IsBoth found.0 found.1) (IsAmong x y)
          (among_both x y found.0 found.1 found.2 found.3) rest.1,
    )

pub returns-in-Open-clause-shut : goal.returns-in-Open-clause-shut
returns-in-Open-clause-shut g c honest v stands =
    let file = g.D.Disk.bytes c.args.disk.now in
    let gate = subst (IsGate file) c.in-Open.is (c.requires.gate honest) in
    let list = subst (HasList file c.args.list.now) c.in-Open.is (c.requires.list honest) in
    let ready = open_stood v file gate.0 stands in
    c.copy_back.ensures.shut honest v (names v file c.in-Open.start c.in-Open.size c.args.list.now ready gate list) ready

pub returns-in-Open-clause-only : goal.returns-in-Open-clause-only
returns-in-Open-clause-only g c durable honest only = c.copy_back.ensures.only durable honest

pub returns-in-Open-clause-keeps : goal.returns-in-Open-clause-keeps
returns-in-Open-clause-keeps g c durable honest only x y all =
    let file = g.D.Disk.bytes c.args.disk.now in
    let gate = subst (IsGate file) c.in-Open.is (c.requires.gate honest) in
    let list = subst (HasList file c.args.list.now) c.in-Open.is (c.requires.list honest) in
    let found = found_open x y file (all _ (g.met.D.Disk.read_is_left c.args.disk.now durable)) gate.0 in
    c.copy_back.ensures.keeps durable honest x y found.0 found.1
    (names found.0 file c.in-Open.start c.in-Open.size c.args.list.now found.2.ready gate list)
    (on_disk (IsOpen found.0) _ _ _ refl only found.2)

pub returns-in-Shut-clause-closed : goal.returns-in-Shut-clause-closed
returns-in-Shut-clause-closed g c = λ honest. subst (IsGate (g.D.Disk.bytes c.args.disk.now)) c.in-Shut.is (c.requires.gate honest)

pub returns-in-Torn-clause-closed : goal.returns-in-Torn-clause-closed
returns-in-Torn-clause-closed g c = c.shut_gate.ensures.written

pub returns-in-Open-clause-closed : goal.returns-in-Open-clause-closed
returns-in-Open-clause-closed g c = c.copy_back.ensures.closed

pub returns-in-Torn-clause-size : goal.returns-in-Torn-clause-size
returns-in-Torn-clause-size g c honest some = (c.shut_gate.ensures.changes honest some).size

pub returns-in-Open-clause-size : goal.returns-in-Open-clause-size
returns-in-Open-clause-size g c honest some =
    let file = g.D.Disk.bytes c.args.disk.now in
    let gate = subst (IsGate file) c.in-Open.is (c.requires.gate honest) in
    let list = subst (HasList file c.args.list.now) c.in-Open.is (c.requires.list honest) in
    c.copy_back.ensures.size honest (subst (λ (l : List ℕ). IsList l c.in-Open.start c.in-Open.size) (sym list) gate.2.list) gate.2.long

pub returns-in-Torn-clause-still : goal.returns-in-Torn-clause-still
returns-in-Torn-clause-still g c honest shut =
    let gate = subst (IsGate (g.D.Disk.bytes c.args.disk.now)) c.in-Torn.is (c.requires.gate honest) in
    absurd (gate.1 (gate_one (g.D.Disk.bytes c.args.disk.now) gate.0 0 gate.3 shut))

pub returns-in-Open-clause-still : goal.returns-in-Open-clause-still
returns-in-Open-clause-still g c honest shut =
    let gate = subst (IsGate (g.D.Disk.bytes c.args.disk.now)) c.in-Open.is (c.requires.gate honest) in
    let differs = gate_one (g.D.Disk.bytes c.args.disk.now) 1 0 gate.0 shut in absurd (omega (arith, differs))

-- ---- a file of page 0 alone

pub returns-in-Shut-clause-alone : goal.returns-in-Shut-clause-alone
returns-in-Shut-clause-alone g c durable honest size =
    none g.D.Disk.moment g.D.Disk.left_since g.D.Disk.may_leave (λ d b left. g.met.D.Disk.only_now d b durable left) c.args.disk.now (HasLength 4096)

pub returns-in-Torn-clause-alone : goal.returns-in-Torn-clause-alone
returns-in-Torn-clause-alone g c durable honest size = c.shut_gate.ensures.sized durable 4096 (omega (arith, size))

-- no journal lies within it
pub returns-in-Open-clause-alone : goal.returns-in-Open-clause-alone
returns-in-Open-clause-alone g c durable honest size =
    let gate = subst (IsGate (g.D.Disk.bytes c.args.disk.now)) c.in-Open.is (c.requires.gate honest) in
    let some = gate.2.some in let long = gate.2.long in absurd (omega (arith, size, some, long))
