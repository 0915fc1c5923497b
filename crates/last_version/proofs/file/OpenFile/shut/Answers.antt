use Rattle.std.proofs.Common.{refl}
use Rattle.last_version.proofs.StandingLemmas.{rest_stands, shutting_stands, all_left}
use Rattle.last_version.proofs.file.OpenFile.shut.Goals as goal

pub returns-in_err-shut_off-clause-stands : goal.returns-in_err-shut_off-clause-stands
returns-in_err-shut_off-clause-stands g c = λ honest v s.
    shutting_stands g.D.Disk.is_honest g.D.Disk.is_durable c.args.self.now.gate c.args.self.now.set c.args.self.now.written c.args.self.now.count
    (g.D.Disk.bytes c.shut_off.new.disk) (g.D.Disk.may_leave c.shut_off.new.disk) v c.requires.gate (s.same_set c.requires.gate) c.requires.all honest
    (c.in_err-shut_off.ensures.left c.args.self.now.count v (s.shutting c.requires.gate c.requires.all))

pub returns-clause-stands : goal.returns-clause-stands
returns-clause-stands g c = λ honest v s.
    rest_stands g.D.Disk.is_honest g.D.Disk.is_durable _ _ 0 c.args.self.now.count
    (g.D.Disk.bytes c.shut_off.new.disk) (g.D.Disk.may_leave c.shut_off.new.disk) v refl c.new.ensures honest
    (c.in_ok-shut_off.ensures.rest c.args.self.now.count v (s.shutting c.requires.gate c.requires.all))

pub returns-in_err-shut_off-clause-keeps : goal.returns-in_err-shut_off-clause-keeps
returns-in_err-shut_off-clause-keeps g c = λ durable honest x y v one s.
    c.shut_off.ensures.keeps durable honest c.args.self.now.count x y v one (s.shutting c.requires.gate c.requires.all)

pub returns-clause-keeps : goal.returns-clause-keeps
returns-clause-keeps g c = λ durable honest x y v one s.
    c.shut_off.ensures.keeps durable honest c.args.self.now.count x y v one (s.shutting c.requires.gate c.requires.all)

pub returns-in_err-shut_off-clause-left : goal.returns-in_err-shut_off-clause-left
returns-in_err-shut_off-clause-left g c = all_left c.args.self.now.set c.args.self.now.written c.requires.all

pub returns-clause-left : goal.returns-clause-left
returns-clause-left g c = c.new.ensures
