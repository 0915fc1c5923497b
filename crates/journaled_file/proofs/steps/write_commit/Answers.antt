use Rattle.std.proofs.Common.{refl, inl, inr}
use Rattle.disk.specs.Keeping.{joined, weaker}
use Rattle.journal.specs.Versions.{IsShut, IsBoth, IsAmong, committed}
use Rattle.journal.proofs.States.{among_shut, among_both}
use Rattle.journaled_file.proofs.Showing.{now_journaled}
use Rattle.journaled_file.proofs.Shutting.{places_stay, places_staged}
use Rattle.journaled_file.proofs.steps.write_commit.Goals as goal

pub returns-clause-journaled : goal.returns-clause-journaled
returns-clause-journaled g c =
    now_journaled g.D.Disk.is_honest g.D.Disk.is_durable c.args.set.now c.args.count c.open_gate.result (g.D.Disk.bytes c.args.disk.now) (g.D.Disk.bytes c.stage.new.disk)
    (g.D.Disk.bytes c.open_gate.new.disk) (g.D.Disk.may_leave c.args.disk.now) (g.D.Disk.may_leave c.open_gate.new.disk)
    (λ d h v may shut. c.open_gate.ensures.opened d h v (committed v c.args.set.now c.args.count) (c.in_ok-stage.ensures.staged d h v may shut))
    c.in_ok-stage.ensures.long c.stage.ensures.places c.open_gate.ensures.changes

pub returns-in_err-stage-clause-keeps : goal.returns-in_err-stage-clause-keeps
returns-in_err-stage-clause-keeps g c durable honest was v r may =
    let new = committed v c.args.set.now c.args.count in
    let kept = c.stage.ensures.keeps durable honest may.some v may.grows (r.shut durable honest) in (
      λ d left. among_shut v new v (inl refl) d (kept.0 d left),
      weaker g.D.Disk.moment g.D.Disk.left_since c.args.disk.now c.stage.new.disk (IsShut v) (IsAmong v new) (among_shut v new v (inl refl)) kept.1,
    )

pub returns-clause-keeps : goal.returns-clause-keeps
returns-clause-keeps g c durable honest was v r may =
    let new = committed v c.args.set.now c.args.count in
    let kept = c.stage.ensures.keeps durable honest may.some v may.grows (r.shut durable honest) in
    let both = c.in_ok-stage.ensures.staged durable honest v may (r.shut durable honest) in
    let last = c.open_gate.ensures.keeps durable v new both in (
      λ d left. among_both v new v new (inl refl) (inr refl) d (last.0 d left),
      joined g.D.Disk.moment g.D.Disk.left_since c.args.disk.now c.stage.new.disk c.open_gate.new.disk (IsAmong v new)
          (weaker g.D.Disk.moment g.D.Disk.left_since c.args.disk.now c.stage.new.disk (IsShut v) (IsAmong v new) (among_shut v new v (inl refl)) kept.1)
          (weaker g.D.Disk.moment g.D.Disk.left_since c.stage.new.disk c.open_gate.new.disk (IsBoth v new) (IsAmong v new)
          (among_both v new v new (inl refl) (inr refl)) last.1),
    )

pub returns-in_err-stage-clause-places : goal.returns-in_err-stage-clause-places
returns-in_err-stage-clause-places g c = λ honest was v r may.
    places_staged g.D.Disk.is_honest g.D.Disk.is_durable c.args.set.now c.args.count was (g.D.Disk.bytes c.args.disk.now) (g.D.Disk.bytes c.stage.new.disk) (g.D.Disk.may_leave c.args.disk.now)
    v r may honest c.stage.ensures.places

pub returns-clause-places : goal.returns-clause-places
returns-clause-places g c = λ honest was v r may.
    places_stay g.D.Disk.is_honest g.D.Disk.is_durable c.args.set.now c.args.count was (g.D.Disk.bytes c.args.disk.now) (g.D.Disk.bytes c.stage.new.disk) (g.D.Disk.bytes c.open_gate.new.disk)
    (g.D.Disk.may_leave c.args.disk.now) v r may honest c.stage.ensures.places c.open_gate.ensures.changes
