use Rattle.std.proofs.Common.{ℕ}
use Rattle.disk.specs.Keeping.{joined, weaker}
use Rattle.journal.specs.Versions.{Version, IsOpen, IsAmong}
use Rattle.journal.proofs.States.{among_open, on_ok}
use Rattle.journaled_file.specs.Shown.{IsAtRest, IsShutting}
use Rattle.journaled_file.proofs.Shutting.{all_put}
use Rattle.journaled_file.proofs.steps.finish_open.Goals as goal

pub returns-clause-rest : goal.returns-clause-rest
returns-clause-rest g c =
    on_ok c.shut_off.result
    (λ (rest : (count : ℕ) (v : Version)
    → IsShutting g.D.Disk.is_honest g.D.Disk.is_durable count (g.D.Disk.bytes c.put_some.new.disk) (g.D.Disk.may_leave c.put_some.new.disk) v
    → IsAtRest g.D.Disk.is_honest g.D.Disk.is_durable count (g.D.Disk.bytes c.shut_off.new.disk) (g.D.Disk.may_leave c.shut_off.new.disk) v). λ count v j.
    rest count v
    (all_put g.D.Disk.is_honest g.D.Disk.is_durable c.args.images.now count (g.D.Disk.bytes c.put_some.new.disk) (g.D.Disk.may_leave c.put_some.new.disk) v (c.in_ok-put_some.ensures.put count v j)))
    c.shut_off.ensures.rest

pub returns-in_err-put_some-clause-keeps : goal.returns-in_err-put_some-clause-keeps
returns-in_err-put_some-clause-keeps g c durable honest count x y v one j =
    let kept = c.put_some.ensures.keeps durable v j.set (j.opened durable honest) in (
      λ d left. among_open x y v one d (kept.0 d left),
      weaker g.D.Disk.moment g.D.Disk.left_since c.args.disk.now c.put_some.new.disk (IsOpen v) (IsAmong x y) (among_open x y v one) kept.1,
    )

pub returns-clause-keeps : goal.returns-clause-keeps
returns-clause-keeps g c durable honest count x y v one j =
    let kept = c.put_some.ensures.keeps durable v j.set (j.opened durable honest) in
    let last = c.shut_off.ensures.keeps durable honest count x y v one
    (all_put g.D.Disk.is_honest g.D.Disk.is_durable c.args.images.now count (g.D.Disk.bytes c.put_some.new.disk) (g.D.Disk.may_leave c.put_some.new.disk) v (c.in_ok-put_some.ensures.put count v j)) in (
      last.0,
      joined g.D.Disk.moment g.D.Disk.left_since c.args.disk.now c.put_some.new.disk c.shut_off.new.disk (IsAmong x y)
          (weaker g.D.Disk.moment g.D.Disk.left_since c.args.disk.now c.put_some.new.disk (IsOpen v) (IsAmong x y) (among_open x y v one) kept.1) last.1,
    )
