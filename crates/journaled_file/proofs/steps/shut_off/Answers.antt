use Rattle.disk.specs.Crashes.{Always}
use Rattle.disk.specs.Keeping.{calm, joined, weaker}
use Rattle.journal.specs.Versions.{IsBoth, IsAmong}
use Rattle.journal.proofs.States.{among_both, err_any}
use Rattle.journaled_file.specs.Shown.{IsUnshut}
use Rattle.journaled_file.proofs.Shutting.{unshut_among, synced_both, shutting_read, shut_rest, shut_left}
use Rattle.journaled_file.proofs.steps.shut_off.Goals as goal

pub returns-clause-rest : goal.returns-clause-rest
returns-clause-rest g c =
    shut_rest g.D.Disk.is_honest g.D.Disk.is_durable (g.D.Disk.bytes c.args.disk.now) (g.D.Disk.bytes c.sync.new.self) (g.D.Disk.bytes c.shut_gate.new.disk)
    (g.D.Disk.may_leave c.args.disk.now) (g.D.Disk.may_leave c.sync.new.self) (g.D.Disk.may_leave c.shut_gate.new.disk) c.sync.ensures.same c.shut_gate.ensures.changes
    (λ count v s d h.
    synced_both g.D.Disk.is_honest g.D.Disk.is_durable count _ _ _ v s d h (g.met.D.Disk.read_is_left c.args.disk.now d) (c.in_ok-sync.ensures.durable d))
    c.shut_gate.result c.shut_gate.ensures.shut c.shut_gate.ensures.written

pub returns-in_err-sync-clause-left : goal.returns-in_err-sync-clause-left
returns-in_err-sync-clause-left g c =
    err_any c.from_residual.result
    (λ count v s. shutting_read g.D.Disk.is_honest g.D.Disk.is_durable count _ _ _ _ v s c.sync.ensures.same c.sync.ensures.crash)

pub returns-clause-left : goal.returns-clause-left
returns-clause-left g c =
    err_any c.shut_gate.result
    (λ count v s.
    shut_left g.D.Disk.is_honest g.D.Disk.is_durable (g.D.Disk.bytes c.args.disk.now) (g.D.Disk.bytes c.sync.new.self) (g.D.Disk.bytes c.shut_gate.new.disk)
    (g.D.Disk.may_leave c.args.disk.now) (g.D.Disk.may_leave c.sync.new.self) (g.D.Disk.may_leave c.shut_gate.new.disk) c.sync.ensures.same c.shut_gate.ensures.changes
    (λ count v s d h.
    synced_both g.D.Disk.is_honest g.D.Disk.is_durable count _ _ _ v s d h (g.met.D.Disk.read_is_left c.args.disk.now d) (c.in_ok-sync.ensures.durable d))
    count v s (λ d all. (c.shut_gate.ensures.keeps d v v all).0))

pub returns-in_err-sync-clause-keeps : goal.returns-in_err-sync-clause-keeps
returns-in_err-sync-clause-keeps g c durable honest count x y v one s =
    let kept =
    calm g.D.Disk.moment g.D.Disk.left_since g.D.Disk.may_leave (λ d b left. g.met.D.Disk.only_now d b durable left)
    c.args.disk.now c.sync.new.self (IsUnshut v) (c.sync.ensures.crash durable) (c.sync.ensures.time durable) (s.unshut durable honest) in (
      λ d left. unshut_among x y v one d (kept.0 d left),
      weaker g.D.Disk.moment g.D.Disk.left_since c.args.disk.now c.sync.new.self (IsUnshut v) (IsAmong x y) (unshut_among x y v one) kept.1,
    )

pub returns-clause-keeps : goal.returns-clause-keeps
returns-clause-keeps g c durable honest count x y v one s =
    let both : Always (g.D.Disk.may_leave c.sync.new.self) (IsBoth v v) =
    synced_both g.D.Disk.is_honest g.D.Disk.is_durable count _ _ _ v s durable honest (g.met.D.Disk.read_is_left c.args.disk.now durable) (c.in_ok-sync.ensures.durable durable) in
    let kept =
    calm g.D.Disk.moment g.D.Disk.left_since g.D.Disk.may_leave (λ d b left. g.met.D.Disk.only_now d b durable left)
    c.args.disk.now c.sync.new.self (IsUnshut v) (c.sync.ensures.crash durable) (c.sync.ensures.time durable) (s.unshut durable honest) in
    let last = c.shut_gate.ensures.keeps durable v v both in (
      λ d left. among_both x y v v one one d (last.0 d left),
      joined g.D.Disk.moment g.D.Disk.left_since c.args.disk.now c.sync.new.self c.shut_gate.new.disk (IsAmong x y)
          (weaker g.D.Disk.moment g.D.Disk.left_since c.args.disk.now c.sync.new.self (IsUnshut v) (IsAmong x y) (unshut_among x y v one) kept.1)
          (weaker g.D.Disk.moment g.D.Disk.left_since c.sync.new.self c.shut_gate.new.disk (IsBoth v v) (IsAmong x y) (among_both x y v v one one) last.1),
    )
