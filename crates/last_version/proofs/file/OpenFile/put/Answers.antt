use Rattle.std.proofs.Common.{◌∙◌, ◌+◌, ℕ, List, sym, subst, arith}
use Rattle.disk.specs.Keeping.{weaker}
use Rattle.journal.specs.Versions.{IsOpen, IsAmong}
use Rattle.journal.proofs.States.{among_open}
use Rattle.journaled_file.specs.Shown.{IsJournaled}
use Rattle.last_version.proofs.StandingLemmas.{journaled_stands}
use Rattle.last_version.proofs.file.OpenFile.put.Goals as goal

pub returns-in_err-put_some-clause-stands : goal.returns-in_err-put_some-clause-stands
returns-in_err-put_some-clause-stands g c = λ honest v s.
    journaled_stands g.D.Disk.is_honest g.D.Disk.is_durable c.args.self.now.gate c.args.self.now.set c.args.self.now.written c.args.self.now.count
    (g.D.Disk.bytes c.put_some.new.disk) (g.D.Disk.may_leave c.put_some.new.disk) v c.requires.gate c.args.self.now.order honest
    (subst (λ (l : List (ℕ × List ℕ)).
    IsJournaled g.D.Disk.is_honest g.D.Disk.is_durable l c.args.self.now.written c.args.self.now.count (g.D.Disk.bytes c.args.self.now.disk) (g.D.Disk.may_leave c.args.self.now.disk) v
    → IsJournaled g.D.Disk.is_honest g.D.Disk.is_durable l c.args.self.now.written c.args.self.now.count (g.D.Disk.bytes c.put_some.new.disk) (g.D.Disk.may_leave c.put_some.new.disk) v)
    c.as_slice.ensures (c.in_err-put_some.ensures.left c.args.self.now.count v) (s.journaled c.requires.gate c.requires.some))

pub returns-clause-stands : goal.returns-clause-stands
returns-clause-stands g c = λ honest v s.
    journaled_stands g.D.Disk.is_honest g.D.Disk.is_durable c.args.self.now.gate c.args.self.now.set _ c.args.self.now.count
    (g.D.Disk.bytes c.put_some.new.disk) (g.D.Disk.may_leave c.put_some.new.disk) v c.requires.gate (let order = c.args.self.now.order in let long = c.len.ensures in let more = c.min-more.ensures in omega (arith, order, long, more)) honest
    (subst (λ (l : List (ℕ × List ℕ)).
    IsJournaled g.D.Disk.is_honest g.D.Disk.is_durable l c.args.self.now.written c.args.self.now.count (g.D.Disk.bytes c.args.self.now.disk) (g.D.Disk.may_leave c.args.self.now.disk) v
    → IsJournaled g.D.Disk.is_honest g.D.Disk.is_durable l (c.args.self.now.written + c.min-more.result) c.args.self.now.count (g.D.Disk.bytes c.put_some.new.disk) (g.D.Disk.may_leave c.put_some.new.disk) v)
    c.as_slice.ensures (c.in_ok-put_some.ensures.put c.args.self.now.count v) (s.journaled c.requires.gate c.requires.some))

pub returns-in_err-put_some-clause-keeps : goal.returns-in_err-put_some-clause-keeps
returns-in_err-put_some-clause-keeps g c = λ durable honest x y v one s.
    let j = s.journaled c.requires.gate c.requires.some in
    let kept = c.put_some.ensures.keeps durable v (j.set ∙ sym c.as_slice.ensures) (j.opened durable honest) in (
      λ d left. among_open x y v one d (kept.0 d left),
      weaker g.D.Disk.moment g.D.Disk.left_since c.args.self.now.disk c.put_some.new.disk (IsOpen v) (IsAmong x y) (among_open x y v one) kept.1,
    )

pub returns-clause-keeps : goal.returns-clause-keeps
returns-clause-keeps g c = λ durable honest x y v one s.
    let j = s.journaled c.requires.gate c.requires.some in
    let kept = c.put_some.ensures.keeps durable v (j.set ∙ sym c.as_slice.ensures) (j.opened durable honest) in (
      λ d left. among_open x y v one d (kept.0 d left),
      weaker g.D.Disk.moment g.D.Disk.left_since c.args.self.now.disk c.put_some.new.disk (IsOpen v) (IsAmong x y) (among_open x y v one) kept.1,
    )
