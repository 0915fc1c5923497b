use Rattle.std.proofs.Common.{◌≡◌, ◌∙◌, ◌-◌, ℕ, List, length, sym, ap, true, false, arith}
use Rattle.disk.specs.Keeping.{started}
use Rattle.journal.specs.Versions.{IsAmong}
use Rattle.last_version.specs.Gates.{is_shut}
use Rattle.last_version.proofs.StandingLemmas.{stands_among, none_left}
use Rattle.last_version.proofs.file.OpenFile.flush.Goals as goal

pub returns-in-Shut-clause-keeps : goal.returns-in-Shut-clause-keeps
returns-in-Shut-clause-keeps g c = λ durable honest x y v one s.
    let all = stands_among g.D.Disk.is_honest g.D.Disk.is_durable c.args.self.now.gate c.args.self.now.set c.args.self.now.written c.args.self.now.count (g.D.Disk.bytes c.args.self.now.disk) (g.D.Disk.may_leave c.args.self.now.disk) v s
    c.requires x y one durable honest in
    (all, started g.D.Disk.moment g.D.Disk.left_since c.args.self.now.disk (IsAmong x y) (λ d left. all d (g.met.D.Disk.only_now c.args.self.now.disk d durable left)))

pub returns-in-Shut-clause-put : goal.returns-in-Shut-clause-put
returns-in-Shut-clause-put g c =
    let none = ap (λ (l : List (ℕ × List ℕ)). length l) (none_left c.args.self.now.written c.args.self.now.set (c.args.self.now.rests (ap is_shut c.in-Shut.is))) in omega (arith, none)

pub returns-in-Shut-clause-shut : goal.returns-in-Shut-clause-shut
returns-in-Shut-clause-shut g c = λ few. c.in-Shut.is

pub returns-in-Open-clause-idle : goal.returns-in-Open-clause-idle
returns-in-Open-clause-idle g c = λ shut. let bad : false ≡ true = sym (ap is_shut c.in-Open.is) ∙ shut in absurd (cc)

pub returns-in-Open-clause-quiet : goal.returns-in-Open-clause-quiet
returns-in-Open-clause-quiet g c = λ shut. let bad : false ≡ true = sym (ap is_shut c.in-Open.is) ∙ shut in absurd (cc)
