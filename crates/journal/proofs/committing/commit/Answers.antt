use Rattle.std.proofs.Common.{inl, inr, ◌≡◌, refl}
use Rattle.std.specs.Prelude.{Result, Ok, Err, OnOk}
use Rattle.disk.specs.Crashes.{Always}
use Rattle.disk.specs.Keeping.{joined, weaker}
use Rattle.journal.specs.Versions.{IsBoth, IsShut, IsOpen, IsAmong, committed}
use Rattle.journal.proofs.States.{among_shut, among_both}
use Rattle.journal.proofs.committing.commit.Goals as goal

pub returns-in_err-shut_first-clause-any_moment : goal.returns-in_err-shut_first-clause-any_moment
returns-in_err-shut_first-clause-any_moment g c durable honest v is_at may =
    c.shut_first.ensures.keeps durable honest v (committed v c.args.set.now c.args.count) v (inl refl) is_at

pub returns-in_err-stage-clause-any_moment : goal.returns-in_err-stage-clause-any_moment
returns-in_err-stage-clause-any_moment g c durable honest v is_at may =
    let new = committed v c.args.set.now c.args.count in
    let first = c.shut_first.ensures.keeps durable honest v new v (inl refl) is_at in
    let shut = c.in_ok-shut_first.ensures.shut durable honest v is_at in
    let second = c.stage.ensures.keeps durable honest may.some v may.grows shut in (
      λ d left. among_shut v new v (inl refl) d (second.0 d left),
      joined g.D.Disk.moment g.D.Disk.left_since c.args.disk.now c.shut_first.new.disk c.stage.new.disk (IsAmong v new) first.1
          (weaker g.D.Disk.moment g.D.Disk.left_since c.shut_first.new.disk c.stage.new.disk (IsShut v) (IsAmong v new) (among_shut v new v (inl refl)) second.1),
    )

pub returns-clause-any_moment : goal.returns-clause-any_moment
returns-clause-any_moment g c durable honest v is_at may =
    let new = committed v c.args.set.now c.args.count in
    let first = c.shut_first.ensures.keeps durable honest v new v (inl refl) is_at in
    let shut = c.in_ok-shut_first.ensures.shut durable honest v is_at in
    let second = c.stage.ensures.keeps durable honest may.some v may.grows shut in
    let so_far =
    joined g.D.Disk.moment g.D.Disk.left_since c.args.disk.now c.shut_first.new.disk c.stage.new.disk (IsAmong v new) first.1
    (weaker g.D.Disk.moment g.D.Disk.left_since c.shut_first.new.disk c.stage.new.disk (IsShut v) (IsAmong v new) (among_shut v new v (inl refl)) second.1) in
    let both = c.in_ok-stage.ensures.staged durable honest v may shut in
    let third = c.open_gate.ensures.keeps durable v new both in (
      λ d left. among_both v new v new (inl refl) (inr refl) d (third.0 d left),
      joined g.D.Disk.moment g.D.Disk.left_since c.args.disk.now c.stage.new.disk c.open_gate.new.disk (IsAmong v new) so_far
          (weaker g.D.Disk.moment g.D.Disk.left_since c.stage.new.disk c.open_gate.new.disk (IsBoth v new) (IsAmong v new)
          (among_both v new v new (inl refl) (inr refl)) third.1),
    )

pub returns-clause-committed : goal.returns-clause-committed
returns-clause-committed g c durable honest v is_at may =
    let new = committed v c.args.set.now c.args.count in
    let shut = c.in_ok-shut_first.ensures.shut durable honest v is_at in
    let both = c.in_ok-stage.ensures.staged durable honest v may shut in
    opened c.open_gate.result (c.open_gate.ensures.opened durable honest v new both)
  where
    opened : {E : Type 0} (result : Result (Unit {0}) E) → OnOk result (Always (g.D.Disk.may_leave c.open_gate.new.disk) (IsOpen (committed v c.args.set.now c.args.count)))
        → OnOk result ((c.args.set.now ≡ c.args.set.now) × Always (g.D.Disk.may_leave c.open_gate.new.disk) (IsOpen (committed v c.args.set.now c.args.count)))
    opened (Ok done) is = (refl, is)
    opened (Err e) is = tt
